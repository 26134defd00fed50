use Rattle.std.proofs.Common.{◌≡◌, ◌≤◌, true}
use Rattle.byte_feed.specs.LineReader.{left_of}
use Rattle.la_io.specs.Reading.{Reads}
use Rattle.capture_csv.specs.Reader.{Going, SameReader, csv_given, csv_lines, csv_open}
use Rattle.capture_csv.specs.declared.phase.Phase.TheVariants.{Running}
use Rattle.capture_csv.proofs.reader.CsvReader.run_on.Given as goal

abbrev pub invariant-body : goal.invariant-body
invariant-body g l = record {
  phase : l.self.phase ≡ Running;
  is_open : csv_open l.self ≡ true;
  form : SameReader l.fn.self l.self;
  count : csv_given l.fn.self ≤ csv_given l.self;
  lines : csv_lines l.fn.self ≤ csv_lines l.self;
  faults : g.S.Source.faults l.source ≡ g.S.Source.faults l.fn.source;
  took : Reads (g.S.Source.left l.fn.source) (g.S.Source.left l.source) (Going l.fn.self) (Going l.self);
}

abbrev pub decreases-body : goal.decreases-body
decreases-body g l = left_of l.self.lines
