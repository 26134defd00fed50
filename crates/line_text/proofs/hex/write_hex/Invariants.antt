use Rattle.std.proofs.Common.{◌+◌, ◌^◌, ◌≡◌, ◌<◌, ◌≤◌, drop, length, true}
use Rattle.std.specs.Fmt.{digits}
use Rattle.line_text.proofs.Hexadecimal.{hex_onto}
use Rattle.line_text.proofs.hex.write_hex.Given as goal

abbrev pub invariant-loop-rest : goal.invariant-loop-rest
invariant-loop-rest l = record {
  within : l.start ≤ 15;
  room : length l.places ≡ 16;
  small : l.rest < 16 ^ (l.start + 1);
  so_far : hex_onto (l.start + 49) l.rest (drop (l.start + 1) l.places) ≡ digits 16 true l.number;
}

abbrev pub decreases-loop-rest : goal.decreases-loop-rest
decreases-loop-rest l = l.rest
