use Rattle.std.proofs.Common.{◌≡◌, true}
use Rattle.byte_feed.specs.Reader.{left_of}
use Rattle.la_io.specs.Reading.{Reads}
use Rattle.capture_vcd.specs.Reader.{Going, SameReader, vcd_given, vcd_open}
use Rattle.capture_vcd.specs.Stepping.{is_going}
use Rattle.capture_vcd.proofs.reader.VcdReader.run_on.Given as goal

abbrev pub invariant-body : goal.invariant-body
invariant-body g l = record {
  phase : is_going l.self.phase ≡ true;
  is_open : vcd_open l.self ≡ true;
  form : SameReader l.fn.self l.self;
  count : vcd_given l.self ≡ vcd_given l.fn.self;
  faults : g.S.Source.faults l.source ≡ g.S.Source.faults l.fn.source;
  took : Reads (g.S.Source.left l.fn.source) (g.S.Source.left l.source) (Going l.fn.self) (Going l.self);
}

abbrev pub decreases-body : goal.decreases-body
decreases-body g l = left_of l.self.tokens
