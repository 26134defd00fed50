use Rattle.list_cuts.proofs.NeighbourLaws.{at_neighbours_push, at_neighbours_append, at_neighbours_silent, at_neighbours_same, at_neighbours_rise, last_from_push}
use Rattle.list_cuts.proofs.laws.neighbour_laws.Goals as goal

pub returns : goal.returns
returns g c = λ f. record {
  one_more = at_neighbours_push f;
  more = at_neighbours_append f;
  silent = at_neighbours_silent f;
  same = at_neighbours_same f;
  rise = λ place own list. at_neighbours_rise place f own list;
  last = λ list x. last_from_push list x _;
}
