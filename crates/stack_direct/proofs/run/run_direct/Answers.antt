use Rattle.std.proofs.Common.{◌≡◌, ◌∙◌, ℕ, List, Option, Bool, Err, true, false, ap, length, map, refl, subst, arith, rules}
use Rattle.std.specs.Prelude.{nat_lt, ◌||◌}
use Rattle.std.proofs.lemmas.Bool.Decides.{nat_tests}
use Rattle.decoder_core.specs.declared.end.RunEnd.TheVariants.{Ended, Stopped}
use Rattle.la_base.specs.declared.samples.Run.{Run}
use Rattle.la_base.specs.declared.wires.Mark.{Mark}
use Rattle.la_base.specs.declared.wires.Out.{Out}
use Rattle.decoder_core.specs.Inputs.{Item}
use Rattle.tree_runs.specs.Runs.{FedRuns}
use Rattle.tree_runs.specs.Trees.{TreeRunsOn}
use Rattle.stack_direct.specs.Trees.{handed_whole}
use Rattle.tree_runs.proofs.Closing.{runs_on}
use Rattle.tree_runs.proofs.Running.{ends_none}
use Rattle.stack_direct.proofs.Going.{goes_then, runs_out, runs_until}
use Rattle.stack_direct.proofs.run.run_direct.Goals as goal

-- the feed's end, or none, and no pause
whole_end : (at_end : Bool) → at_end ≡ true → (at_end || false) ≡ true
whole_end true is = refl
whole_end false is = is

broken_end : (at_end : Bool) → at_end ≡ false → (at_end || false) ≡ false
broken_end true is = is
broken_end false is = refl

or_paused : (at_end : Bool) → (at_end || true) ≡ true
or_paused true = refl
or_paused false = refl

-- the same, where the answer is known
fed_done : {S : Type 0} {outputs : S → List Item → List Out} {near : S → List Item → ℕ → ℕ} {setups : List S} {parents : List (Option ℕ)} {done now : Bool} {before after : ℕ → List Item → Type 0} {g0 g1 : List (List Run) → Type 0} {t0 t1 : (ℕ → List Mark) → Type 0}
    → done ≡ now → FedRuns outputs near setups parents done before after g0 g1 t0 t1 → FedRuns outputs near setups parents now before after g0 g1 t0 t1
fed_done {outputs = outputs} {near = near} {setups = setups} {parents = parents} {before = before} {after = after} {g0 = g0} {g1 = g1} {t0 = t0} {t1 = t1} is fed = subst (λ (b : Bool). FedRuns outputs near setups parents b before after g0 g1 t0 t1) is fed

pub returns-in-Ok-end_all-clause-runs : goal.returns-in-Ok-end_all-clause-runs
returns-in-Ok-end_all-clause-runs g c =
    let m = g.M.Machine in
    let f = g.F.RunFeed in
    let k = g.G.MarkTake in
    let ms = c.args.machines.now in
    let ends = c.in-Ok-end_all.ensures.took in
    let all : ends.0 ≡ length c.args.parents.now = ends.2 in
    record {
      tree = subst (λ (l : List g.row.M.Denot). TreeRunsOn m f k c.args.parents.now ms l c.args.feed.now c.feed_all.new.feed c.args.take.now c.end_all.new.take Ended) (search (rules, c.in-Ok.ensures.same.machines))
          (runs_on m.outputs m.near (map m.setup ms) c.args.parents.now
          (k.took c.end_all.new.take) c.in-Ok.ensures.feeds (f.at_end c.feed_all.new.feed) false Ended ends.0 (whole_end _ c.in-Ok.ensures.at_end) ends.4
          (λ j e. (refl, c.in-Ok.ensures.at_end))
          (λ e. (refl, λ j within. let test : nat_lt j ends.0 ≡ true = grind (arith, nat_tests, all, within) in test))
          (λ e. absurd cc)
          (λ d. absurd cc)
          (λ paused. absurd cc));
      reads = record { at_end = λ _. c.in-Ok.ensures.at_end; origin = c.in-Ok.ensures.feed_origin };
      takes = runs_out k (goes_then k.instances k.origin k.stops k.going c.in-Ok.ensures.takes c.in-Ok-end_all.ensures.takes);
    }

pub returns-in-Err-clause-runs : goal.returns-in-Err-clause-runs
returns-in-Err-clause-runs g c =
    let m = g.M.Machine in
    let f = g.F.RunFeed in
    let k = g.G.MarkTake in
    let ms = c.args.machines.now in
    let ends = c.in-Err.ensures.took in
    record {
      tree = subst (λ (l : List g.row.M.Denot). TreeRunsOn m f k c.args.parents.now ms l c.args.feed.now c.feed_all.new.feed c.args.take.now c.end_all.new.take Stopped) (search (rules, c.in-Ok.ensures.same.machines))
          (runs_on m.outputs m.near (map m.setup ms) c.args.parents.now
          (k.took c.end_all.new.take) c.in-Ok.ensures.feeds (f.at_end c.feed_all.new.feed) false Stopped ends.0 (whole_end _ c.in-Ok.ensures.at_end) ends.4
          (λ j e. (refl, c.in-Ok.ensures.at_end))
          (λ e. absurd cc)
          (λ e d still. ends.3)
          (λ d. absurd cc)
          (λ paused. absurd cc));
      reads = record { at_end = λ is. absurd cc; origin = c.in-Ok.ensures.feed_origin };
      takes = runs_until k (goes_then k.instances k.origin k.stops k.going c.in-Ok.ensures.takes c.in-Err.ensures.takes);
    }

pub returns-in-Err-AtMark-clause-runs : goal.returns-in-Err-AtMark-clause-runs
returns-in-Err-AtMark-clause-runs g c =
    let m = g.M.Machine in
    let f = g.F.RunFeed in
    let k = g.G.MarkTake in
    let ms = c.args.machines.now in
    record {
      tree = subst (λ (l : List g.row.M.Denot). TreeRunsOn m f k c.args.parents.now ms l c.args.feed.now c.feed_all.new.feed c.args.take.now c.feed_all.new.take Stopped) (search (rules, c.in-Err-AtMark.ensures.same.machines))
          (runs_on m.outputs m.near (map m.setup ms) c.args.parents.now
          (k.took c.feed_all.new.take) (fed_done (ap (λ h. handed_whole (Err h)) c.in-Err-AtMark.field-0-is) c.in-Err-AtMark.ensures.feeds) (f.at_end c.feed_all.new.feed) false Stopped 0 (broken_end _ (c.in-Err-AtMark.ensures.not_at_end (ap (λ h. Err h) c.in-Err-AtMark.field-0-is))) (ends_none (k.took c.feed_all.new.take))
          (λ j e. let no : nat_lt j 0 ≡ false = grind (arith, nat_tests) in absurd cc)
          (λ e. absurd cc)
          (λ e d. absurd cc)
          (λ d. refl)
          (λ paused. absurd cc));
      reads = record { at_end = λ is. absurd cc; origin = c.in-Err-AtMark.ensures.feed_origin };
      takes = runs_until k c.in-Err-AtMark.ensures.takes;
    }

pub returns-in-Err-InPause-clause-runs : goal.returns-in-Err-InPause-clause-runs
returns-in-Err-InPause-clause-runs g c =
    let m = g.M.Machine in
    let f = g.F.RunFeed in
    let k = g.G.MarkTake in
    let ms = c.args.machines.now in
    record {
      tree = subst (λ (l : List g.row.M.Denot). TreeRunsOn m f k c.args.parents.now ms l c.args.feed.now c.feed_all.new.feed c.args.take.now c.feed_all.new.take Stopped) (search (rules, c.in-Err-InPause.ensures.same.machines))
          (runs_on m.outputs m.near (map m.setup ms) c.args.parents.now
          (k.took c.feed_all.new.take) (fed_done (ap (λ h. handed_whole (Err h)) c.in-Err-InPause.field-0-is) c.in-Err-InPause.ensures.feeds) (f.at_end c.feed_all.new.feed) true Stopped 0 (or_paused (f.at_end c.feed_all.new.feed)) (ends_none (k.took c.feed_all.new.take))
          (λ j e. let no : nat_lt j 0 ≡ false = grind (arith, nat_tests) in absurd cc)
          (λ e. absurd cc)
          (λ e d still. absurd cc)
          (λ d. absurd cc)
          (λ paused. refl));
      reads = record { at_end = λ is. absurd cc; origin = c.in-Err-InPause.ensures.feed_origin };
      takes = runs_until k c.in-Err-InPause.ensures.takes;
    }
