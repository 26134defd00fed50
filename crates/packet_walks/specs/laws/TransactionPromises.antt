-- What the outputs of a device's transactions promise.
use Rattle.std.specs.Prelude.{ℕ, ◌≤◌, List, Some}
use Rattle.la_base.specs.declared.wires.Packet.{Packet}
use Rattle.la_base.specs.declared.wires.Wire.{Wire}
use Rattle.la_base.specs.declared.wires.Wire.TheVariants.{Nothing as NoWire}
use Rattle.decoder_core.specs.Packets.{IsPacketFloor, last_start}
use Rattle.packet_walks.specs.Transactions.{Device, transaction_outs, transaction_near}
use Rattle.packet_walks.specs.Promises.{Promises, Reached}
use Rattle.packet_walks.specs.laws.Steps.{Steps, transaction_walk, held_of, Pushed, Sound}

-- a transaction that packets leave open which count
abbrev pub ReachedOpen : {O : Type 0} (device : Device) → Steps O → Wire
    → (Packet → List Packet → O) → O → ℕ → Type 0
ReachedOpen device steps wants kept o last = Reached wants (held_of device steps kept) (Some o) last

-- the outputs of a device that owes what it does with one packet of a transaction keep them, and
-- the floor is the near place
abbrev pub TransactionsKeepPromises : Type 0 → Type 0
TransactionsKeepPromises O =
    (device : Device) (steps : Steps O) (wants : Wire) (kept : Packet → List Packet → O)
    → Sound device steps (ReachedOpen device steps wants kept) → Pushed device steps kept
    → Promises (transaction_walk device steps) wants NoWire (transaction_outs device)
    (held_of device steps kept)
    × ((seen : List Packet) (from : ℕ) → last_start 0 seen ≤ from
    → IsPacketFloor wants (transaction_outs device) seen from (transaction_near device seen from))
