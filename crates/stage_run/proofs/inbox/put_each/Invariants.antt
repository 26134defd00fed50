use Rattle.std.proofs.Common.{◌≡◌, ◌≤◌, true, take, length, map}
use Rattle.la_base.specs.Runs.{samples_of}
use Rattle.decoder_core.specs.Inputs.{Sample}
use Rattle.stack_laws.specs.Links.{some}
use Rattle.stack_laws.specs.Feeds.{ends_feed, items_in}
use Rattle.stage_run.specs.Inputs.{feeds_in, told_behind}
use Rattle.stage_run.proofs.inbox.put_each.Given as goal

abbrev pub invariant-loop-half_run : goal.invariant-loop-half_run
invariant-loop-half_run l =
    let front = take l.half_run-index l.half_runs in
    record {
      start : l.runs.at ≡ 0;
      few : length l.runs.list ≤ l.half_run-index;
      items : map Sample (samples_of l.runs.list) ≡ items_in (feeds_in l.initial.upper front);
      told : l.upper ≡ told_behind l.initial.upper front;
      ends : l.ended ≡ true → some ends_feed (feeds_in l.initial.upper front) ≡ true;
    }
