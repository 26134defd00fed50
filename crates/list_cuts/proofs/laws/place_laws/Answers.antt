use Rattle.list_cuts.proofs.PlaceLaws.{first_push, last_push}
use Rattle.list_cuts.proofs.laws.place_laws.Goals as goal

pub returns : goal.returns
returns g c = λ place. record {
  first = first_push place;
  last = last_push place;
}
