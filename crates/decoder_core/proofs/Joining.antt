-- A step whose rest is passed.
use Rattle.std.proofs.Common.{◌++◌, List, Option, Some, None, map, sym, ◌∙◌, ap, subst, arith, append_assoc, length-append}
use Rattle.std.proofs.lemmas.List.{append-nil}
use Rattle.la_base.specs.Samples.{samples}
use Rattle.la_base.specs.declared.samples.Run.{Run}
use Rattle.la_base.specs.declared.wires.Feed.{Feed}
use Rattle.la_base.specs.declared.wires.Feed.TheVariants.{Run as RunFeed}
use Rattle.la_base.specs.declared.wires.Out.{Out}
use Rattle.decoder_core.specs.Driving.{Passes, ReachesStop, Steps, StopsFirst}
use Rattle.decoder_core.specs.Inputs.{Item, Sample, items_of}

-- what was left of a step was passed
pub steps_on : (before middle after : List Item → Type 0) (outputs : List Item → List Out) (feed : Feed) (rest : Run) (into : List Out) → Steps before middle outputs feed (Some (RunFeed rest)) into
    → Passes middle after outputs (samples rest) → Steps before after outputs feed None into
steps_on before middle after outputs feed rest into steps passes =
    let items = map Sample (samples rest) in
    record {
      front = steps.front ++ items;
      split = steps.split ∙ sym (append-nil (steps.front ++ items));
      some = λ some. omega (arith, steps.some some, length-append steps.front items);
      more = tt;
      consumes = λ input b. subst after (append_assoc input steps.front items) (passes (input ++ steps.front) (steps.consumes input b)).0;
      gives = λ input b. ap outputs (sym (append_assoc input steps.front items)) ∙ (passes (input ++ steps.front) (steps.consumes input b)).1 ∙ steps.gives input b;
    }

-- where nothing is left there is nothing to say; and a step to the first stop reaches it
pub reaches_end : (before : List Item → Type 0) (sleeps : List Item → List Item → Type 0) (feed : Feed) → ReachesStop before sleeps feed None
reaches_end before sleeps feed = record { front = items_of feed; split = sym (append-nil (items_of feed)); stop = λ some. absurd (omega (arith, some)) }

pub reaches_first : (before : List Item → Type 0) (sleeps : List Item → List Item → Type 0) (feed : Feed) (left : Option Feed) → StopsFirst before sleeps feed left → ReachesStop before sleeps feed left
reaches_first before sleeps feed left stops = record { front = stops.front; split = stops.split; stop = stops.stop }
