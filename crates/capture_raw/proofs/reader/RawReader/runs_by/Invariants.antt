use Rattle.std.proofs.Common.{◌-◌, ◌≤◌, length}
use Rattle.capture_raw.proofs.Batches.{RunsOf}
use Rattle.capture_raw.proofs.reader.RawReader.runs_by.Given as goal

abbrev pub invariant-loop-count : goal.invariant-loop-count
invariant-loop-count l = record {
  room : l.count ≤ length l.into;
  within : length l.left ≤ length l.bytes;
  runs : RunsOf l.unit l.fn.self.pins.items l.bytes l.into l.count l.left;
}

abbrev pub decreases-loop-count : goal.decreases-loop-count
decreases-loop-count l = length l.into - l.count
