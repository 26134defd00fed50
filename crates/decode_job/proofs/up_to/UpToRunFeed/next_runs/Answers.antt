use Rattle.std.proofs.Common.{◌≡◌, ◌+◌, ◌-◌, List, true, take, length, refl, sym, ap, subst, rules, arith}
use Rattle.std.proofs.lemmas.List.{take_all}
use Rattle.la_base.specs.Runs.{samples_of}
use Rattle.la_base.specs.declared.samples.Run.{Run}
use Rattle.tree_io.specs.Feeds.{together}
use Rattle.tree_io.proofs.Together.{together-last}
use Rattle.capture_any.specs.Reading.{is_open_of}
use Rattle.decode_job.specs.UpTo.{GaveUpTo}
use Rattle.decode_job.proofs.Limits.{cut_at, given_on, limit_cut, limit_few, limit_on, other_runs}
use Rattle.decode_job.proofs.up_to.UpToRunFeed.next_runs.Goals as goal

pub returns-then-place-runs-clause-gives : goal.returns-then-place-runs-clause-gives
returns-then-place-runs-clause-gives g c =
    let left = g.S.Source.left in
    let faults = g.S.Source.faults in
    let old = c.args.self.now in
    let next = c.next_runs in
    let runs : List Run = next.new.self.runs in
    let more : next.result ≡ true = search rules in
    let is_open : is_open_of next.new.self.capture.now ≡ true = search rules in
    let d : Run = record { value = 0; len = 1; not_empty = omega arith } in
    let fits = c.fit-place.ensures.left in
    let cut = cut_at runs c.cut.new.self c.fit-place.result.0 c.fit-place.result.1 (old.room - old.given) d (search rules) (search rules) (search rules) (c.cut.ensures d) in
    record {
      gave = λ before gave.
          subst (GaveUpTo left faults _) (sym (together-last before c.cut.new.self))
          (limit_cut left faults old _ (together before) gave runs (other_runs left faults next.new.self c.cut.new.self _ (given_on left faults old.feed next.new.self gave.all runs next.result more next.ensures.gives gave.gave)) c.if-self.false refl refl
          c.cut.new.self refl is_open refl cut.more cut.first cut.many);
      few = λ all gave. limit_few left faults _ (together all) gave;
    }

pub returns-else-place-runs-clause-gives : goal.returns-else-place-runs-clause-gives
returns-else-place-runs-clause-gives g c =
    let left = g.S.Source.left in
    let faults = g.S.Source.faults in
    let old = c.args.self.now in
    let next = c.next_runs in
    let runs : List Run = next.new.self.runs in
    let more : next.result ≡ true = search rules in
    let place : length runs ≡ c.fit-place.result.0 = search rules in
    let fits : length (samples_of (take c.fit-place.result.0 runs)) + c.fit-place.result.1 ≡ old.room - old.given = search rules in
    let whole : take c.fit-place.result.0 runs ≡ runs = take_all c.fit-place.result.0 runs (omega (arith, place)) in
    let many : length (samples_of (take c.fit-place.result.0 runs)) ≡ length (samples_of runs) = ap (λ (l : List Run). length (samples_of l)) whole in
    record {
      gave = λ before gave.
          subst (GaveUpTo left faults _) (sym (together-last before runs))
          (limit_on left faults old _ (together before) gave runs (given_on left faults old.feed next.new.self gave.all runs next.result more next.ensures.gives gave.gave) c.if-self.false refl refl
          c.if-self.false (let within = gave.within in omega (arith, fits, many, within)) (omega arith));
      few = λ all gave. limit_few left faults _ (together all) gave;
    }
