-- A decoder of samples on its walk through runs: over those without a stop, and behind a stop.
use Rattle.std.proofs.Common.{◌≡◌, ℕ, ◌+◌, ◌-◌, ◌≤◌, ◌<◌, List, ◌++◌, take, drop, length, replicate, slice_index, sym, ◌∙◌, ap, subst, arith, append_assoc, length-take-le, take-append-drop}
use Rattle.std.proofs.lemmas.List.{replicate-append-replicate, take_all, take-append-le}
use Rattle.la_base.specs.Samples.{samples}
use Rattle.la_base.specs.declared.samples.Run.{Run}
use Rattle.la_base.specs.declared.wires.Out.{Out}
use Rattle.wait_cond.specs.Stops.{IsStop, NoneMet}
use Rattle.wait_cond.specs.Walks.{Walks, walk_from}
use Rattle.wait_cond.specs.declared.alt.Alt.{Alt}
use Rattle.wait_cond.specs.declared.walk.Walk.{Walk}
use Rattle.wait_cond.proofs.Runs.{now_is}
use Rattle.decoder_core.specs.Promises.{IsLoud, IsQuiet, StandsThere, StopsIn}
use Rattle.decoder_core.specs.Treading.{OnWalk}
use Rattle.decoder_core.proofs.Counting.{samples_are}
use Rattle.decoder_core.proofs.Driven.{quiet_since}

-- a run in its first sample and the others
pub first_part : (run : Run) → 0 < run.len → samples run ≡ replicate 1 run.value ++ replicate (run.len - 1) run.value
first_part run some =
    let total : 1 + (run.len - 1) ≡ run.len = omega (arith, some) in
    samples_are run ∙ ap (λ (k : ℕ). replicate k run.value) (sym total) ∙ sym (replicate-append-replicate 1 (run.len - 1) run.value)

module _ {L S : Type 0} (setup : L → S) (outs : S → List ℕ → List Out) (stands : L → List ℕ → Type 0) (alts : L → List Alt)
    (quiet : (machine : L) → IsQuiet (outs (setup machine)) (stands machine) (alts machine)) where
  -- what was put out is what was put out at the last stop
  at_last : (machine : L) (walk : Walk) (all : List ℕ) → Walks (alts machine) walk all → stands machine (take (walk_from walk) all) → outs (setup machine) all ≡ outs (setup machine) (take (walk_from walk) all)
  at_last machine walk all waits st =
      quiet_since setup outs stands alts quiet machine (walk_from walk) all (omega (arith, waits.stop, waits.count)) st
      (subst (λ (n : ℕ). NoneMet all (alts machine) (walk_from walk) n) (sym waits.count) waits.none)

  module _ (machine : L) (walk next : Walk) (list all more : List ℕ) (given : List Out) (on : OnWalk (outs (setup machine)) stands (alts machine) machine walk list all given) where
    from_within : walk_from walk ≤ length all
    from_within = omega (arith, on.waits.stop, on.waits.count)

    -- nothing stopped
    pub passed_on : Walks (alts machine) next (all ++ more) → walk_from next ≡ walk_from walk → OnWalk (outs (setup machine)) stands (alts machine) machine next list (all ++ more) given
    passed_on waits from =
        let cut : take (walk_from next) (all ++ more) ≡ take (walk_from walk) all = ap (λ (k : ℕ). take k (all ++ more)) from ∙ take-append-le (walk_from walk) all more from_within in
        let still = subst (λ (l : List ℕ). stands machine l) (sym cut) on.machine_stands in
        record {
          waits = waits;
          machine_stands = still;
          gives = at_last machine next (all ++ more) waits still ∙ ap (outs (setup machine)) cut ∙ sym (at_last machine walk all on.waits on.machine_stands) ∙ on.gives;
        }

    -- a stop, seen from the last one
    abbrev seen : List ℕ
    seen = take (walk_from walk) all

    parts : seen ++ (drop (walk_from walk) all ++ more) ≡ all ++ more
    parts = sym (append_assoc seen (drop (walk_from walk) all) more) ∙ ap (λ (l : List ℕ). l ++ more) (take-append-drop (walk_from walk) all)

    module _ (new : L) (at value met : ℕ) (into : List Out) (stop : IsStop (all ++ more) (alts machine) (walk_from walk) at met) (value_is : value ≡ slice_index (all ++ more) at)
        (there : StandsThere (stands machine) (stands new) (alts machine) at value met) (loud : IsLoud (outs (setup machine)) (stands machine) (alts machine) at value met given into) where
      stops : StopsIn (alts machine) seen (drop (walk_from walk) all ++ more) at value met
      stops = record {
        stop = subst (λ (l : List ℕ). IsStop l (alts machine) (length seen) at met) (sym parts)
            (subst (λ (k : ℕ). IsStop (all ++ more) (alts machine) k at met) (sym (length-take-le (walk_from walk) all from_within)) stop);
        value_is = value_is ∙ ap (λ (l : List ℕ). slice_index l at) (sym parts);
      }

      pub stands_at : stands new (take (at + 1) (all ++ more))
      stands_at = subst (λ (l : List ℕ). stands new (take (at + 1) l)) parts (there seen (drop (walk_from walk) all ++ more) on.machine_stands stops)

      pub gives_at : outs (setup machine) (take (at + 1) (all ++ more)) ≡ outs (setup machine) list ++ into
      gives_at =
          let new = loud seen (drop (walk_from walk) all ++ more) on.machine_stands stops in
          ap (λ (l : List ℕ). outs (setup machine) (take (at + 1) l)) (sym parts)
          ∙ new.2
          ∙ ap (λ (l : List Out). l ++ new.0) (sym (at_last machine walk all on.waits on.machine_stands) ∙ on.gives)
          ∙ append_assoc (outs (setup machine) list) given new.0
          ∙ ap (λ (l : List Out). outs (setup machine) list ++ l) (sym new.1)

      -- it waits on for the same
      pub stopped_on : setup new ≡ setup machine → alts new ≡ alts machine → Walks (alts machine) next (all ++ more) → walk_from next ≡ at + 1 → OnWalk (outs (setup machine)) stands (alts machine) new next list (all ++ more) into
      stopped_on same like waits from =
          let st = subst (λ (n : ℕ). stands new (take n (all ++ more))) (sym from) stands_at in
          let last = at_last new next (all ++ more) (subst (λ (l : List Alt). Walks l next (all ++ more)) (sym like) waits) st in
          record {
            waits = waits;
            machine_stands = st;
            gives = subst (λ (s : S). outs s (all ++ more) ≡ outs s (take (walk_from next) (all ++ more))) same last ∙ ap (λ (n : ℕ). outs (setup machine) (take n (all ++ more))) from ∙ gives_at;
          }

      -- another wait begins, and the stop is the last sample
      pub stopped_there : (asked : List Alt) → at + 1 ≡ length (all ++ more) → Walks asked next (all ++ more) → walk_from next ≡ at + 1 → OnWalk (outs (setup machine)) stands asked new next list (all ++ more) into
      stopped_there asked last waits from =
          let whole : take (at + 1) (all ++ more) ≡ all ++ more = take_all (at + 1) (all ++ more) (omega (arith, last)) in
          record {
            waits = waits;
            machine_stands = subst (λ (n : ℕ). stands new (take n (all ++ more))) (sym from) stands_at;
            gives = ap (outs (setup machine)) (sym whole) ∙ gives_at;
          }

-- the value of a run's first sample
pub first_value : (all : List ℕ) (run : Run) → 0 < run.len → run.value ≡ slice_index (all ++ samples run) (length all)
first_value all run some =
    let here : length all + 0 ≡ length all = omega arith in
    sym (ap (λ (k : ℕ). slice_index (all ++ samples run) k) (sym here) ∙ now_is all (samples run) run.value run.len (samples_are run) 0 some)

-- the same where setup and alternatives are those that the walk began with
module _ {L S : Type 0} (setup : L → S) (outs : S → List ℕ → List Out) (stands : L → List ℕ → Type 0) (alts : L → List Alt)
    (quiet : (machine : L) → IsQuiet (outs (setup machine)) (stands machine) (alts machine)) (machine : L) (walk next : Walk) (list all more : List ℕ) (given : List Out) where
  abbrev Passing : S → List Alt → Type 0
  Passing s asked = OnWalk (outs s) stands asked machine walk list all given → Walks asked next (all ++ more) → walk_from next ≡ walk_from walk → OnWalk (outs s) stands asked machine next list (all ++ more) given

  pub tread_pass : (s : S) (asked : List Alt) → setup machine ≡ s → alts machine ≡ asked → Passing s asked
  tread_pass s asked same like = subst (λ (t : S). Passing t asked) same (subst (λ (a : List Alt). Passing (setup machine) a) like (λ on waits from. passed_on setup outs stands alts quiet machine walk next list all more given on waits from))

  module _ (new : L) (at value met : ℕ) (into : List Out) (there : StandsThere (stands machine) (stands new) (alts machine) at value met)
      (loud : IsLoud (outs (setup machine)) (stands machine) (alts machine) at value met given into) (value_is : value ≡ slice_index (all ++ more) at) where
    abbrev Stopping : S → List Alt → Type 0
    Stopping s asked = OnWalk (outs s) stands asked machine walk list all given → IsStop (all ++ more) asked (walk_from walk) at met → Walks asked next (all ++ more) → walk_from next ≡ at + 1 → OnWalk (outs s) stands asked new next list (all ++ more) into

    pub tread_stop : (s : S) (asked : List Alt) → setup machine ≡ s → alts machine ≡ asked → setup new ≡ setup machine → alts new ≡ alts machine → Stopping s asked
    tread_stop s asked same like kept still =
        subst (λ (t : S). Stopping t asked) same (subst (λ (a : List Alt). Stopping (setup machine) a) like
        (λ on stop waits from. stopped_on setup outs stands alts quiet machine walk next list all more given on new at value met into stop value_is there loud kept still waits from))

    pub tread_there : (s : S) (asked : List Alt) → setup machine ≡ s → alts machine ≡ asked → at + 1 ≡ length (all ++ more) → Stopping s asked
    tread_there s asked same like last =
        subst (λ (t : S). Stopping t asked) same (subst (λ (a : List Alt). Stopping (setup machine) a) like
        (λ on stop waits from. stopped_there setup outs stands alts quiet machine walk next list all more given on new at value met into stop value_is there loud (alts machine) last waits from))

    -- the same, and whatever it waits for then
    abbrev Renewing : S → Type 0
    Renewing s = OnWalk (outs s) stands (alts machine) machine walk list all given → IsStop (all ++ more) (alts machine) (walk_from walk) at met → Walks (alts new) next (all ++ more) → walk_from next ≡ at + 1 → OnWalk (outs s) stands (alts new) new next list (all ++ more) into

    pub tread_anew : (s : S) → setup machine ≡ s → at + 1 ≡ length (all ++ more) → Renewing s
    tread_anew s same last =
        subst (λ (t : S). Renewing t) same
        (λ on stop waits from. stopped_there setup outs stands alts quiet machine walk next list all more given on new at value met into stop value_is there loud (alts new) last waits from)
