-- A run of a tree: what was handed down, and End.
use Rattle.std.proofs.Common.{◌≡◌, ◌<◌, ℕ, Bool, true, false, List, [], ◌∷◌, ◌++◌, Option, length, refl, sym, ◌∙◌, ap, subst, if◌then◌else◌, ◌⊎◌, inl, inr, take, append_assoc}
use Rattle.std.specs.Prelude.{nat_lt, ◌||◌}
use Rattle.std.proofs.lemmas.List.{append-nil}
use Rattle.la_base.specs.declared.samples.Run.{Run}
use Rattle.la_base.specs.declared.wires.Mark.{Mark}
use Rattle.la_base.specs.declared.wires.Mark.TheVariants.{Floor as FloorMark, End as EndMark}
use Rattle.la_base.specs.declared.wires.Out.{Out}
use Rattle.decoder_core.specs.Inputs.{Item}
use Rattle.decoder_core.specs.declared.end.RunEnd.{RunEnd}
use Rattle.decoder_core.specs.declared.end.RunEnd.TheVariants.{Ended, Stopped}
use Rattle.tree_runs.specs.Floors.{Floored, FrontOfFloored}
use Rattle.tree_runs.specs.Machines.{near_of, whole_of}
use Rattle.tree_runs.specs.Runs.{FedRuns, LeftBy, RunsOn, StandOn, StoppedIn, ToldOn, ToldOf, TookEnds, feeds_on, input_on, samples_in, RestsAt, is_ended}
use Rattle.tree_runs.proofs.Ending.{ends_some, no_ends, reaches_closed}
use Rattle.tree_runs.proofs.Flooring.{front_weaker}
use Rattle.tree_runs.proofs.Joining.{took_then}

-- neither holds
no_more : (one other : Bool) → (one || other) ≡ false → (one || false) ≡ false
no_more true other is = is
no_more false other is = refl

told_weaker : (closed done : Bool) (whole : List Item → List Out) (near : List Item → ℕ) (was now : List Item) (later : List ℕ → List Item) (feeds : List (List Item)) (marks : List Mark) → (closed ≡ true → done ≡ true) → ToldOf done whole near was now later feeds marks → ToldOf closed whole near was now later feeds marks
told_weaker closed done whole near was now later feeds marks only t = record {
  new = t.new;
  no_end = t.no_end;
  adds = t.adds;
  shows = reaches_closed closed done _ _ only t.shows;
  floors = t.floors;
  plain = t.plain;
  more_floors = t.more_floors;
  floored = front_weaker whole near closed done was feeds t.plain only t.floored;
}

module _ {S : Type 0} (outputs : S → List Item → List Out) (near : S → List Item → ℕ → ℕ) (setups : List S) (parents : List (Option ℕ))
    {before after : ℕ → List Item → Type 0} {g0 g1 : List (List Run) → Type 0} {t0 t1 : (ℕ → List Mark) → Type 0} (t2 : (ℕ → List Mark) → Type 0)
    {done : Bool} (f : FedRuns outputs near setups parents done before after g0 g1 t0 t1) (at_end paused : Bool) (result : RunEnd) (k : ℕ) (whole_at_end : (at_end || paused) ≡ done)
    (ends : TookEnds t1 t2 k) (by_end : (j : ℕ) → nat_lt j k ≡ true → (done ≡ true) × (at_end ≡ true)) (all : result ≡ Ended → (done ≡ true) × ((j : ℕ) → j < length parents → nat_lt j k ≡ true))
    (some_end : result ≡ Stopped → done ≡ true → paused ≡ false → 0 < k) (no_end : done ≡ false → k ≡ 0) (no_pause : paused ≡ true → k ≡ 0) where
  abbrev input : List ℕ → ℕ → List Item
  input samples j = input_on outputs setups parents samples j

  abbrev marks_with_ends : ℕ → List Mark
  marks_with_ends j = f.marks j ++ (if nat_lt j k then EndMark ∷ [] else [])

  module _ (samples : List ℕ) (stood : StandOn outputs setups parents before samples) where
    told_at : (j : ℕ) → j < length parents
        → ToldOn result at_end (whole_of outputs setups j) (near_of near setups j) (input samples j) (input (samples ++ samples_in f.lists) j) (λ more. input ((samples ++ samples_in f.lists) ++ more) j) (feeds_on outputs setups parents samples f.lists j) (marks_with_ends j)
    told_at j within = record {
      body = f.marks j;
      closed = nat_lt j k;
      made = refl;
      tells = told_weaker (nat_lt j k) done _ _ _ _ _ _ _ (λ e. (by_end j e).0) (f.told samples stood j within);
      whole_at_end = λ e. (by_end j e).1;
      closes = λ e. (all e).1 j within;
    }

    stopped_in : (way : Bool) → done ≡ way → result ≡ Stopped → StoppedIn outputs near setups parents samples f.lists at_end marks_with_ends
    stopped_in true d is = record {
      done = f.lists;
      left = [];
      paused = paused;
      split = sym (append-nil f.lists);
      last = subst (λ (b : Bool). LeftBy b []) (sym (whole_at_end ∙ d)) refl;
      front = f.marks;
      back = λ j. if nat_lt j k then EndMark ∷ [] else [];
      made = λ j. refl;
      handed = λ j within.
          let t = f.told samples stood j within in
          let front = subst (λ (b : Bool). FrontOfFloored b (whole_of outputs setups j) (near_of near setups j) (input samples j) (feeds_on outputs setups parents samples f.lists j) t.plain) d t.floored in
          (t.plain, t.more_floors, subst (Floored (whole_of outputs setups j) (near_of near setups j) (input samples j) (feeds_on outputs setups parents samples f.lists j)) (sym front.1) front.2);
      some = λ still. (0, ends_some k (some_end is d still));
      none = λ stopped j. ap (λ (n : ℕ). if nat_lt j n then EndMark ∷ [] else []) (no_pause stopped) ∙ no_ends j;
    }
    stopped_in false d is =
        let b = f.broken d samples stood in
        record {
          done = b.done;
          left = b.last ∷ [];
          paused = false;
          split = b.split;
          last = subst (λ (e : Bool). LeftBy e (b.last ∷ [])) (sym (no_more at_end paused (whole_at_end ∙ d))) (b.last, refl);
          front = b.front;
          back = b.back;
          made = λ j. ap (λ (n : ℕ). f.marks j ++ (if nat_lt j n then EndMark ∷ [] else [])) (no_end d) ∙ ap (λ (l : List Mark). f.marks j ++ l) (no_ends j) ∙ append-nil (f.marks j) ∙ b.made j;
          handed = b.handed;
          some = λ _. b.some;
          none = λ bad. absurd cc;
        }

  ended_is : (r : RunEnd) → is_ended r ≡ true → r ≡ Ended
  ended_is Ended is = refl
  ended_is Stopped is = absurd cc

  rested_at : (samples : List ℕ) → StandOn outputs setups parents before samples → (k : ℕ) → 0 < k → (k < length f.lists) ⊎ ((is_ended result ≡ true) × (k ≡ length f.lists)) → RestsAt outputs near setups parents samples (samples ++ samples_in (take k f.lists)) marks_with_ends
  rested_at samples stood n some way =
      let was = f.rested samples stood n some (elim way [ inl less ↦ inl less | inr whole ↦ inr ((all (ended_is result whole.0)).0, whole.1) ]) in
      record {
        floors = was.floors;
        least = was.least;
        told = λ j low. let t = was.told j low in let extra = if nat_lt j k then EndMark ∷ [] else [] in (t.0, t.1 ++ extra, t.2, ap (λ (l : List Mark). l ++ extra) t.3 ∙ append_assoc t.0 (FloorMark (was.floors j) ∷ t.1) extra, t.4, t.5);
      }

  pub runs_on : RunsOn outputs near setups parents before after g0 g1 t0 t2 at_end result
  runs_on = record {
    lists = f.lists;
    marks = marks_with_ends;
    gave = f.gave;
    took = took_then t0 t1 t2 f.marks (λ j. if nat_lt j k then EndMark ∷ [] else []) f.took ends;
    told = λ samples stood j within. told_at samples stood j within;
    rested = λ samples stood k some way. rested_at samples stood k some way;
    stopped = λ is samples stood. stopped_in samples stood done refl is;
    stand = λ e samples stood. f.stand (all e).0 samples stood;
  }
