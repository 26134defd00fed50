-- What a machine promises, seen by a decoder that holds it.
use Rattle.std.proofs.Common.{◌≡◌, List, ◌++◌, Option, sym, ◌∙◌, ap}
use Rattle.la_base.specs.declared.wires.Feed.{Feed}
use Rattle.la_base.specs.declared.wires.Out.{Out}
use Rattle.decoder_core.specs.Driving.{ReachesStop, Steps, StopsFirst}
use Rattle.decoder_core.specs.Inputs.{Item}

-- `has` says of which inputs the decoder stood
module _ {before has : List Item → Type 0} (had : (input : List Item) → has input → before input) (feed : Feed) (left : Option Feed) where
  -- and `will` of which it stands
  pub steps_seen : {after will : List Item → Type 0} {outs own : List Item → List Out} {into : List Out} → ((input : List Item) → has input → (other : List Item) → own other ≡ outs other)
      → ((input front : List Item) → has input → after (input ++ front) → will (input ++ front))
      → Steps before after outs feed left into → Steps has will own feed left into
  steps_seen {into = into} same holds s = record {
    front = s.front;
    split = s.split;
    some = s.some;
    more = s.more;
    consumes = λ input is. holds input s.front is (s.consumes input (had input is));
    gives = λ input is. same input is (input ++ s.front) ∙ s.gives input (had input is) ∙ ap (λ (l : List Out). l ++ into) (sym (same input is input));
  }

  pub stops_seen : {sleeps own : List Item → List Item → Type 0} → ((input more : List Item) → sleeps input more → own input more) → ((input more : List Item) → own input more → sleeps input more)
      → StopsFirst before sleeps feed left → StopsFirst has own feed left
  stops_seen asleep awake s = record {
    front = s.front;
    split = s.split;
    none = λ input earlier last is front_is. asleep input earlier (s.none input earlier last (had input is) front_is);
    stop = λ some input is rests. s.stop some input (had input is) (awake input s.front rests);
  }

  pub reaches_seen : {sleeps own : List Item → List Item → Type 0} → ((input more : List Item) → own input more → sleeps input more)
      → ReachesStop before sleeps feed left → ReachesStop has own feed left
  reaches_seen awake s = record {
    front = s.front;
    split = s.split;
    stop = λ some input is rests. s.stop some input (had input is) (awake input s.front rests);
  }
