use Rattle.std.proofs.Common.{take}
use Rattle.capture_csv.specs.Plain.{IsPlain}
use Rattle.capture_csv.proofs.simple.is_plain.Given as goal

abbrev pub invariant-loop-byte : goal.invariant-loop-byte
invariant-loop-byte l = IsPlain (take l.byte-index l.text)
