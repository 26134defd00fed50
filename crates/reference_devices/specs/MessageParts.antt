-- Rows of packets as the reference program puts them together, packet by packet.
use Rattle.std.specs.Prelude.{ℕ, Bool, false, if◌then◌else◌, List, [], ◌∷◌, ◌++◌, length}
use Rattle.la_base.specs.declared.wires.Out.{Out}
use Rattle.la_base.specs.declared.wires.Packet.{Packet}
use Rattle.dec_modbus.specs.Modbus.{byte_outs, last_in, message_outs, together}

-- a packet joins the row before it: the last one there and this one are together
abbrev pub joins : ℕ → List Packet → Packet → Bool
joins gap [] packet = false
joins gap (first ∷ others) packet = together gap (last_in first others) packet

-- what a packet gives behind the row that nothing has ended yet
abbrev pub packet_outs : ℕ → List Packet → Packet → List Out
packet_outs gap row packet =
    if joins gap row packet then byte_outs (length row) packet
    else message_outs row ++ byte_outs 0 packet

-- the row that nothing has ended behind it
abbrev pub with_packet : ℕ → List Packet → Packet → List Packet
with_packet gap row packet = (if joins gap row packet then row else []) ++ packet ∷ []

-- the last of some rows
abbrev pub open_row : List (List Packet) → List Packet
open_row [] = []
open_row (row ∷ []) = row
open_row (row ∷ next ∷ others) = open_row (next ∷ others)
