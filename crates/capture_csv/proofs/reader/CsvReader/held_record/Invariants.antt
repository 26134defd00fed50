use Rattle.std.proofs.Common.{◌≡◌, ◌≤◌, [], false}
use Rattle.byte_feed.specs.LineReader.{left_of}
use Rattle.capture_csv.specs.Reader.{GoesHeld, SameReader, csv_given, csv_open}
use Rattle.capture_csv.specs.Running.{held_in}
use Rattle.capture_csv.specs.declared.phase.Phase.TheVariants.{Running}
use Rattle.capture_csv.proofs.reader.CsvReader.held_record.Given as goal

abbrev pub invariant-held : goal.invariant-held
invariant-held l = record {
  phase : l.self.phase ≡ Running;
  none : held_in l.self.body ≡ false;
  gave : GoesHeld l.fn.self l.self [];
  counts : csv_given l.fn.self ≤ csv_given l.self;
  form : SameReader l.fn.self l.self;
  is_open : csv_open l.self ≡ csv_open l.fn.self;
}

abbrev pub decreases-held : goal.decreases-held
decreases-held l = left_of l.self.lines
