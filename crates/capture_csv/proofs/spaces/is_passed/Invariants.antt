use Rattle.std.proofs.Common.{◌≡◌, drop}
use Rattle.capture_csv.specs.Records.{is_passed}
use Rattle.capture_csv.proofs.spaces.is_passed.Given as goal

abbrev pub invariant-loop-byte : goal.invariant-loop-byte
invariant-loop-byte l = is_passed (drop l.byte-index l.text) ≡ is_passed l.text
