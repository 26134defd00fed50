use Rattle.std.proofs.Common.{◌≡◌, ◌≤◌, ◌+◌, ◌-◌, ◌^◌, ◌++◌, List, length}
use Rattle.la_base.specs.Runs.{samples_of}
use Rattle.la_base.specs.declared.samples.Run.{Run}
use Rattle.capture_csv.specs.Reader.{GaveHeld, SameReader, csv_given, csv_open}
use Rattle.capture_any.proofs.held.take_csv.Given as goal

abbrev pub invariant-loop-reader : goal.invariant-loop-reader
invariant-loop-reader l = record {
  new : List Run;
  into : l.into ≡ l.initial.into ++ new;
  gave : GaveHeld l.fn.reader l.reader (samples_of new);
  counts : csv_given l.fn.reader + length (samples_of new) ≤ csv_given l.reader;
  form : SameReader l.fn.reader l.reader;
  is_open : csv_open l.reader ≡ csv_open l.fn.reader;
  few : csv_given l.fn.reader ≤ 2 ^ 60 → csv_given l.reader ≤ 2 ^ 60;
}

abbrev pub decreases-loop-reader : goal.decreases-loop-reader
decreases-loop-reader l = 256 - length l.into
