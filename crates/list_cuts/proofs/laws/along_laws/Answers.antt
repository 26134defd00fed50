use Rattle.list_cuts.proofs.AlongLaws.{along_append, along_push}
use Rattle.list_cuts.proofs.laws.along_laws.Goals as goal

pub returns : goal.returns
returns g c = λ f. record {
  one_more = along_push f;
  more = along_append f;
}
