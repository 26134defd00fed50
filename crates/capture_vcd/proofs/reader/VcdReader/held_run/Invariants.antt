use Rattle.std.proofs.Common.{◌≡◌, ℕ, List, true}
use Rattle.la_io.specs.Capture.{Told}
use Rattle.byte_feed.specs.Reader.{left_of}
use Rattle.capture_vcd.specs.Reader.{Midway, SameReader, vcd_given, vcd_open}
use Rattle.capture_vcd.specs.declared.reader.Phase.TheVariants.{Running}
use Rattle.capture_vcd.proofs.reader.VcdReader.held_run.Given as goal

abbrev pub invariant-held : goal.invariant-held
invariant-held l = record {
  phase : l.self.phase ≡ Running;
  is_open : vcd_open l.self ≡ true;
  was_open : vcd_open l.fn.self ≡ true;
  form : SameReader l.fn.self l.self;
  count : vcd_given l.self ≡ vcd_given l.fn.self;
  went : (bytes : List ℕ) (told : Told) (given : List ℕ) → Midway l.fn.self bytes told given → Midway l.self bytes told given;
}

abbrev pub decreases-held : goal.decreases-held
decreases-held l = left_of l.self.tokens
