-- What is told of each instance of a tree whose lists fit together.
use Rattle.std.proofs.Common.{◌≡◌, ℕ, ◌<◌, Bool, true, List, [], ◌++◌, length, Option, refl, sym, ◌∙◌, ap, subst, append_assoc, append-nil}
use Rattle.std.proofs.lemmas.List.{append_cancel_left}
use Rattle.la_base.specs.Runs.{samples_of}
use Rattle.la_base.specs.declared.wires.Mark.{Mark}
use Rattle.la_base.specs.declared.wires.Out.{Out}
use Rattle.decoder_core.specs.Inputs.{Item}
use Rattle.decoder_core.specs.Promises.{KeepsFront}
use Rattle.decoder_core.specs.declared.end.RunEnd.{RunEnd}
use Rattle.tree_runs.specs.Floors.{Floored}
use Rattle.tree_runs.specs.Machines.{Definitions, defined}
use Rattle.tree_runs.specs.Passing.{IsForest}
use Rattle.tree_runs.specs.Runs.{ToldOn, input_on}
use Rattle.stack_laws.specs.Running.{State, Stage}
use Rattle.stack_laws.specs.Feeds.{ends_feed, ends_marks}
use Rattle.stack_laws.specs.Heeding.{Heeds}
use Rattle.stack_laws.specs.Legal.{Fits}
use Rattle.stack_laws.specs.Listings.{AreInputs}
use Rattle.stack_laws.specs.Settling.{FittingTells, FittingTellsTheRest, MachinesTell, Tells, TellsRun}
use Rattle.stack_laws.specs.Laws.{IsLawful}
use Rattle.stack_laws.specs.Rests.{behind, near_behind, whole_behind}
use Rattle.stack_laws.proofs.Coming.{all_came, ended_closed}
use Rattle.stack_laws.proofs.Marking.{tells_run}
use Rattle.stack_laws.proofs.Reading.{goes}
use Rattle.stack_laws.proofs.Rests.{floored_behind, nothing_behind, rests_read, rests_tree, split}
use Rattle.stack_laws.proofs.Trees.{inputs_of}

module _ (parents : List (Option ℕ)) (by : Definitions) (slots : ℕ) (lawful : IsLawful parents by) (state : State) (fits : Fits parents by slots state)
    (input : ℕ → List Item) (reads : AreInputs parents by.whole (samples_of state.fed) input)
    (later : List ℕ → ℕ → List Item) (reads_later : (more : List ℕ) → AreInputs parents by.whole (samples_of state.fed ++ more) (later more)) (j : ℕ) (within : j < length parents) where
  abbrev stage : Stage
  stage = state.stages j

  goes_on : (rest : List Item) × (input j ≡ stage.consumed ++ rest) × (stage.closed ≡ true → rest ≡ [])
  goes_on =
      let g = goes parents by slots lawful state fits [] input (subst (λ (l : List ℕ). AreInputs parents by.whole l input) (sym (append-nil (samples_of state.fed))) reads) j within in
      (g.0, g.1, g.2 refl)

  -- whatever samples come, its input goes on from what it has consumed, and heeds what it was told
  goes_later : (more : List ℕ) → (extra : List Item) × (later more j ≡ stage.consumed ++ extra) × Heeds stage.input.received (later more j)
  goes_later more = let g = goes parents by slots lawful state fits more (later more) (reads_later more) j within in (g.0, g.1, g.3)

  fitting : Tells by (λ _. []) input later state j
  fitting = record {
    comes = λ closed. (
      all_came ends_feed slots stage.input (fits.inputs j) ((fits.takes j).all closed).0,
      goes_on.1 ∙ ap (λ (l : List Item). stage.consumed ++ l) (goes_on.2 closed) ∙ append-nil stage.consumed,
    );
    gathered = λ has. (ended_closed parents by slots state fits j has, all_came ends_marks slots stage.marks (fits.outputs j) has);
    told = λ result at_end marks front ended whole_run.
        subst (λ (l : List Item). TellsRun result at_end (by.whole j) (by.near j) [] l (λ more. later more j) marks) (sym goes_on.1)
        (tells_run (by.whole j) (by.near j) (lawful.nothing j) (lawful.prefix j) stage.input.received stage.consumed goes_on.0 stage.told stage.closed stage.marks.made (fits.marks j) (fits.floors j) (fits.batched j) (λ more. later more j) goes_later result at_end marks front goes_on.2 ended whole_run);
  }

pub fitting_tells : FittingTells
fitting_tells parents by slots lawful state fits input reads later reads_later j within = fitting parents by slots lawful state fits input reads later reads_later j within

-- what is told of what comes behind an input is told behind that
module _ (whole : List Item → List Out) (near : List Item → ℕ) (prefix : KeepsFront whole) (was : List Item) (result : RunEnd) (at_end : Bool) (rest : List Item) (later rest_later : List ℕ → List Item) (later_is : (more : List ℕ) → later more ≡ was ++ rest_later more) (marks : List Mark) where
  abbrev whole_now : List Item → List Out
  whole_now = whole_behind whole was

  told_behind : (feeds : List (List Item)) → ToldOn result at_end whole_now (near_behind near was) [] rest rest_later feeds marks → ToldOn result at_end whole near was (was ++ rest) later feeds marks
  told_behind feeds told =
      let none = nothing_behind whole prefix was in
      let t = told.tells in
      let new : t.new ≡ whole_now rest = sym (t.adds ∙ ap (λ (l : List Out). l ++ t.new) none) in
      record {
        body = told.body;
        closed = told.closed;
        made = told.made;
        tells = record {
          new = t.new;
          no_end = t.no_end;
          adds = split whole prefix was rest ∙ ap (λ (l : List Out). whole was ++ l) (sym new);
          shows = t.shows;
          floors = λ more further grows.
              t.floors more further (
              append_cancel_left (whole was) (whole_now (rest_later more)) (t.new ++ further) (sym (split whole prefix was (rest_later more)) ∙ ap whole (sym (later_is more)) ∙ grows)
              ∙ ap (λ (l : List Out). l ++ (t.new ++ further)) (sym none));
          plain = t.plain;
          more_floors = t.more_floors;
          floored = (
            t.floored.0,
            t.floored.1,
            subst (λ (l : List Item). Floored whole near l feeds t.floored.0) (append-nil was) (floored_behind whole prefix was near [] feeds t.floored.0 t.floored.2),
          );
        };
        whole_at_end = told.whole_at_end;
        closes = told.closes;
      }

  tells_behind : TellsRun result at_end whole_now (near_behind near was) [] rest rest_later marks → TellsRun result at_end whole near was (was ++ rest) later marks
  tells_behind tells = (tells.0, ap (λ (l : List Item). was ++ l) tells.1, told_behind tells.0 tells.2)

pub fitting_rest : FittingTellsTheRest
fitting_rest parents by slots lawful earlier was now reads state fits on later on_later j within =
    let fed = samples_of state.fed in
    let read = rests_read parents by earlier fed was now lawful reads on in
    let read_later = λ (more : List ℕ). rests_read parents by earlier (fed ++ more) was (later more) lawful reads (subst (λ (l : List ℕ). AreInputs parents by.whole l (later more)) (append_assoc earlier fed more) (on_later more)) in
    let tells = fitting_tells parents (behind by was) slots (rests_tree parents by was lawful) state fits read.0 read.1 (λ more. (read_later more).0) (λ more. (read_later more).1) j within in
    let grows = read.2 j within in
    record {
      comes = λ closed. let c = tells.comes closed in (c.0, grows ∙ ap (λ (l : List Item). was j ++ l) c.1);
      gathered = tells.gathered;
      told = λ result at_end marks front ended whole_run.
          subst (λ (l : List Item). TellsRun result at_end (by.whole j) (by.near j) (was j) l (λ more. later more j) marks) (sym grows)
          (tells_behind (by.whole j) (by.near j) (lawful.prefix j) (was j) result at_end (read.0 j) (λ more. later more j) (λ more. (read_later more).0 j) (λ more. (read_later more).2 j within) marks (tells.told result at_end marks front ended whole_run));
    }

pub machines_tell : {S : Type 0} (outputs : S → List Item → List Out) (near : S → List Item → ℕ → ℕ) (setups : List S) (parents : List (Option ℕ)) → IsForest parents → length setups ≡ length parents
    → IsLawful parents (defined outputs near setups) → MachinesTell outputs near setups parents
machines_tell outputs near setups parents forest count lawful slots samples state fits j within =
    fitting_rest parents (defined outputs near setups) slots lawful samples (input_on outputs setups parents samples) (input_on outputs setups parents (samples ++ samples_of state.fed))
    (inputs_of outputs near setups parents forest count samples) state fits (inputs_of outputs near setups parents forest count (samples ++ samples_of state.fed))
    (λ more. input_on outputs setups parents ((samples ++ samples_of state.fed) ++ more)) (λ more. inputs_of outputs near setups parents forest count ((samples ++ samples_of state.fed) ++ more)) j within
