-- Packets and runs that are consumed step by step.
use Rattle.std.proofs.Common.{◌≡◌, ◌<◌, List, [], ◌∷◌, ◌++◌, length, Option, arith}
use Rattle.la_base.specs.declared.wires.Feed.{Feed}
use Rattle.la_base.specs.declared.wires.Feed.TheVariants.{Packet as PacketFeed}
use Rattle.la_base.specs.declared.wires.Out.{Out}
use Rattle.la_base.specs.declared.wires.Packet.{Packet}
use Rattle.decoder_core.specs.Driving.{Steps}
use Rattle.decoder_core.specs.Inputs.{Item, Pack, left_items}

one_item : (x : Item) (front rest : List Item) → x ∷ [] ≡ front ++ rest → 0 < length front → front ≡ x ∷ []
one_item x [] rest is some = absurd (omega (arith, some))
one_item x (y ∷ []) rest is some = cc
one_item x (y ∷ z ∷ front) rest is some = absurd cc

-- a step over a packet consumes it whole
pub whole_packet : (p : Packet) {before after : List Item → Type 0} {whole : List Item → List Out} {left : Option Feed} {into : List Out} → (s : Steps before after whole (PacketFeed p) left into) → s.front ≡ Pack p ∷ []
whole_packet p {left = left} s = one_item (Pack p) s.front (left_items left) s.split (let one : 0 < length (Pack p ∷ []) = omega arith in s.some one)
