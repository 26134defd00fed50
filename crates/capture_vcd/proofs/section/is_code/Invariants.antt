use Rattle.std.proofs.Common.{◌≡◌, drop}
use Rattle.capture_vcd.specs.Header.{is_code}
use Rattle.capture_vcd.proofs.section.is_code.Given as goal

abbrev pub invariant-loop-byte : goal.invariant-loop-byte
invariant-loop-byte l = is_code (drop l.byte-index l.code) ≡ is_code l.code
