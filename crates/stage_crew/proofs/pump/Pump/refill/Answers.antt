use Rattle.std.proofs.Common.{◌≡◌, ◌≤◌, ◌-◌, ℕ, List, ◌++◌, ◌∷◌, [], ◌∙◌, ap, subst, arith, refl, length, map, take, drop}
use Rattle.std.specs.List.{All}
use Rattle.la_base.specs.declared.samples.Run.{Run}
use Rattle.stage_run.specs.Inputs.{half_run_of, upper_of}
use Rattle.stage_run.specs.declared.input.HalfRun.{HalfRun}
use Rattle.stage_crew.proofs.Pumping.{pumps_end, pumps_fill, pumps_tell, pumps_then}
use Rattle.stage_crew.proofs.pump.Pump.refill.Goals as goal

pub look-requires-clause-all : goal.look-requires-clause-all
look-requires-clause-all g c = omega (arith, c.if-self-runs.false, ap length c.runs-runs.ensures)

pub returns : goal.returns
returns g c = λ sents. pumps_then g.F.RunFeed (c.look.ensures.pumps sents) (c.ask.ensures sents)

pub returns-then-look : goal.returns-then-look
returns-then-look g c = λ sents. c.look.ensures.pumps sents

pub returns-then-upper-self : goal.returns-then-upper-self
returns-then-upper-self g c = λ sents place.
    let p = c.args.self.now in
    pumps_tell g.F.RunFeed c.args.feed.now p _ sents c.high_half-upper.result place c.requires.free p.within c.if-upper-self.true refl refl refl refl refl
    (c.push.ensures ∙ ap (λ (s : HalfRun). p.row ++ s ∷ []) c.telling.ensures)

pub returns-then-self-runs : goal.returns-then-self-runs
returns-then-self-runs g c = λ sents place.
    let p = c.args.self.now in
    let n = c.fill-count.result in
    let e = c.fill-count.ensures in
    let held = c.runs-runs.ensures in
    pumps_fill g.F.RunFeed c.args.feed.now p _ sents n place c.requires.free p.within
    (subst (λ (l : List Run). n ≤ length (take (length l - p.at) (drop p.at l))) held e.within) refl refl refl refl refl
    (subst (λ (l : List Run). c.fill-count.new.self ≡ map half_run_of (take n (take (length l - p.at) (drop p.at l)))) held e.row)
    (subst (λ (u : ℕ). All (λ run. upper_of run ≡ u) (take n (take (length (g.F.RunFeed.held c.args.feed.now) - p.at) (drop p.at (g.F.RunFeed.held c.args.feed.now))))) c.if-upper-self.false
    (subst (λ (l : List Run). All (λ run. upper_of run ≡ c.high_half-upper.result) (take n (take (length l - p.at) (drop p.at l)))) held e.upper))

pub returns-then-self : goal.returns-then-self
returns-then-self g c = λ sents place.
    let p = c.args.self.now in
    pumps_end g.F.RunFeed c.args.feed.now p _ sents place c.requires.free p.within (omega (arith, c.if-self-runs.false, ap length c.runs-runs.ensures)) c.if-self.true refl refl refl refl refl
    (c.push-then-self.ensures ∙ ap (λ (s : HalfRun). p.row ++ s ∷ []) c.telling-then-self.ensures)

pub returns-then-not-may_ask : goal.returns-then-not-may_ask
returns-then-not-may_ask g c = λ sents. c.look.ensures.pumps sents
