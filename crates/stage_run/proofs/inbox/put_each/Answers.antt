use Rattle.std.proofs.Common.{◌≡◌, ◌∙◌, get_or, List, length, map, ap, sym, refl, arith}
use Rattle.la_base.specs.Runs.{samples_of}
use Rattle.la_base.specs.declared.samples.Run.{Run}
use Rattle.decoder_core.specs.Inputs.{Sample}
use Rattle.stage_run.specs.Rows.{Kept}
use Rattle.stage_run.specs.declared.input.HalfRun.{HalfRun}
use Rattle.stage_run.proofs.Coming.{ended_ends, ended_items, ended_told, pushed_ends, pushed_few, pushed_items, pushed_told}
use Rattle.stage_run.proofs.inbox.put_each.Goals as goal
use Rattle.stage_run.proofs.inbox.put_each.Goals.{then-half_run-gt0, else-half_run-gt0+then-half_run-upper, else-half_run-gt0+else-half_run-upper}

pub loop-half_run-preserved : goal.loop-half_run-preserved
loop-half_run-preserved c =
    let first = c.args.upper.now in
    let xs = c.args.half_runs.now in
    let i = c.loop-half_run.half_run-index in
    let none : HalfRun = record { value = 0; len = 0 } in
    let had = c.loop-half_run.invariant in
    let old = c.loop-half_run.runs in
    let now = c.loop-half_run.upper in
    let low = c.loop-half_run-test.true in
    elim c.if-half_run-gt0.branch [
      | then-half_run-gt0 w ↦ (
          let is = w.runs-is ∙ w.push.ensures in
          let list = ap (λ (r : Kept Run). r.list) is in
          record {
            start = ap (λ (r : Kept Run). r.at) is ∙ had.start;
            few = pushed_few _ old.list _ i list had.few;
            items = ap (λ (l : List Run). map Sample (samples_of l)) list ∙ pushed_items first xs i none low now old.list _ had.told w.whole.ensures refl had.items;
            told = w.upper-is ∙ pushed_told first xs i none low now had.told w.if-half_run-gt0.true;
            ends = λ e. pushed_ends first xs i none low (had.ends (sym w.ended-is ∙ e));
          })
      | else-half_run-gt0+then-half_run-upper w ↦ (
          let zero_len = w.if-half_run-gt0.false in
          let none_len : (get_or xs i none).len ≡ 0 = omega (arith, zero_len) in
          let same = w.if-half_run-upper.true in
          record {
            start = ap (λ (r : Kept Run). r.at) w.runs-is ∙ had.start;
            few = omega (arith, ap (λ (r : Kept Run). length r.list) w.runs-is, had.few);
            items = ap (λ (r : Kept Run). map Sample (samples_of r.list)) w.runs-is ∙ ended_items first xs i none low none_len old.list had.items;
            told = w.upper-is ∙ sym same ∙ ended_told first xs i none low none_len;
            ends = λ e. ended_ends first xs i none low now had.told none_len same;
          })
      | else-half_run-gt0+else-half_run-upper w ↦ (
          let zero_len = w.if-half_run-gt0.false in
          let none_len : (get_or xs i none).len ≡ 0 = omega (arith, zero_len) in
          record {
            start = ap (λ (r : Kept Run). r.at) w.runs-is ∙ had.start;
            few = omega (arith, ap (λ (r : Kept Run). length r.list) w.runs-is, had.few);
            items = ap (λ (r : Kept Run). map Sample (samples_of r.list)) w.runs-is ∙ ended_items first xs i none low none_len old.list had.items;
            told = w.upper-is ∙ ended_told first xs i none low none_len;
            ends = λ e. pushed_ends first xs i none low (had.ends (sym w.ended-is ∙ e));
          })
    ]
