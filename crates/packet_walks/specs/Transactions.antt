-- Transactions among packets: each runs from a packet that begins one to the next that ends one. A
-- packet that begins one inside of another begins nothing, unless it ends that too; one that ends a
-- transaction may begin the next.
use Rattle.std.specs.Prelude.{ℕ, Bool, cond, List, [], ◌∷◌, ◌++◌}
use Rattle.la_base.specs.declared.wires.Out.{Out}
use Rattle.la_base.specs.declared.wires.Packet.{Packet}
use Rattle.list_cuts.specs.Parts.{before_mark, parts}
use Rattle.decoder_core.specs.Packets.{last_start}

-- from the first packet on that passes
abbrev pub from_first : (Packet → Bool) → List Packet → List Packet
from_first test [] = []
from_first test (packet ∷ packets) = cond (test packet) (packet ∷ packets) (from_first test packets)

-- the last of some stretches of packets: the first, and those behind it
abbrev pub last_stretch : List Packet → List (List Packet) → List Packet
last_stretch stretch [] = stretch
last_stretch stretch (next ∷ others) = last_stretch next others

-- a device by its transactions: the packets that begin and end them; what the packets inside of one
-- give, behind the one that has begun it; and what the packet that ends it gives behind these
pub record Device : Type 0 where
  pub begins : Packet → Bool
  pub ends : Packet → Bool
  pub inside : List Packet → List Out
  pub closing : List Packet → List Out

-- The packets are cut into stretches: those before the first that ends a transaction, and one part
-- for each that does, from it to the next. In each stretch a transaction goes from the first packet
-- on that begins one. The last stretch is open: nothing has ended its transaction.
module _ (device : Device) where
  -- what a transaction gives up to its end, and up to where nothing has ended it
  abbrev pub closed_outs : List Packet → List Out
  closed_outs [] = []
  closed_outs (first ∷ packets) = device.inside packets ++ device.closing packets

  abbrev pub open_outs : List Packet → List Out
  open_outs [] = []
  open_outs (first ∷ packets) = device.inside packets

  -- what all stretches but the last give, by the first and those behind it
  abbrev pub ended_outs : List Packet → List (List Packet) → List Out
  ended_outs stretch [] = []
  ended_outs stretch (next ∷ others) =
      closed_outs (from_first device.begins stretch) ++ ended_outs next others

  -- the packets of the transaction that nothing has ended
  abbrev pub open_part : List Packet → List Packet
  open_part packets =
      from_first device.begins
      (last_stretch (before_mark device.ends packets) (parts device.ends packets))

  -- *outputs*: all that packets give
  unfoldable pub transaction_outs : List Packet → List Out
  transaction_outs packets =
      ended_outs (before_mark device.ends packets) (parts device.ends packets)
      ++ open_outs (open_part packets)

  -- where a transaction starts, if there is one
  abbrev pub begun_at : List Packet → ℕ → ℕ
  begun_at [] last = last
  begun_at (first ∷ packets) last = first.start

  -- *near*: the start of the packet that opened the present transaction; where none is open, the
  -- place from which on all that come start
  unfoldable pub transaction_near : List Packet → ℕ → ℕ
  transaction_near packets from = begun_at (open_part packets) from
