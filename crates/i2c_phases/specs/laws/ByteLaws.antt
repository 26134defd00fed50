-- Where notes of bytes start.
use Rattle.std.proofs.Common.{ℕ, ◌≤◌, arith}
use Rattle.std.specs.Prelude.{min}
use Rattle.la_base.specs.declared.wires.Packet.{Packet}

-- a note of a byte starts where the byte does, and one from an earlier place up to it starts there
pub starts_later : (floor : ℕ) (byte : Packet) → floor ≤ byte.start
    → floor ≤ min byte.start byte.end
starts_later floor byte here = let order = byte.in_order in omega (arith, here, order)

pub spans_later : (floor first : ℕ) (byte : Packet) → floor ≤ first → floor ≤ byte.start
    → floor ≤ min first byte.end
spans_later floor first byte low here = let order = byte.in_order in omega (arith, low, here, order)
