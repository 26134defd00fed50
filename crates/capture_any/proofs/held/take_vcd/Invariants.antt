use Rattle.std.proofs.Common.{◌≡◌, ◌≤◌, ◌+◌, ◌-◌, ◌^◌, ◌++◌, List, length}
use Rattle.la_base.specs.Runs.{samples_of}
use Rattle.la_base.specs.declared.samples.Run.{Run}
use Rattle.capture_vcd.specs.Reader.{GaveHeld, SameReader, vcd_given, vcd_open}
use Rattle.capture_any.proofs.held.take_vcd.Given as goal

abbrev pub invariant-loop-reader : goal.invariant-loop-reader
invariant-loop-reader l = record {
  new : List Run;
  into : l.into ≡ l.initial.into ++ new;
  gave : GaveHeld l.fn.reader l.reader (samples_of new);
  counts : vcd_given l.fn.reader + length (samples_of new) ≤ vcd_given l.reader;
  form : SameReader l.fn.reader l.reader;
  is_open : vcd_open l.reader ≡ vcd_open l.fn.reader;
  few : vcd_given l.fn.reader ≤ 2 ^ 60 → vcd_given l.reader ≤ 2 ^ 60;
}

abbrev pub decreases-loop-reader : goal.decreases-loop-reader
decreases-loop-reader l = 256 - length l.into
