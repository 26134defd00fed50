-- What a machine is given, as one list.
use Rattle.std.specs.Prelude.{ℕ, ◌^◌, List, [], ◌∷◌, map, take, Option, Some, None}
use Rattle.la_base.specs.declared.samples.Run.{Run}
use Rattle.la_base.specs.declared.wires.Packet.{Packet}
use Rattle.la_base.specs.declared.wires.Feed.{Feed}
use Rattle.la_base.specs.declared.wires.Feed.TheVariants.{Run as RunFeed, Packet as PacketFeed}
use Rattle.la_base.specs.declared.wires.Feed.TheVariants.{From, End}
use Rattle.la_base.specs.Samples.{samples}

-- one sample, or one packet
pub data Item : Type 0 where
  Sample : ℕ → Item
  Pack : Packet → Item

-- the items of a feed; the end is none
abbrev pub items_of : Feed → List Item
items_of (RunFeed run) = map Sample (samples run)
items_of (PacketFeed packet) = Pack packet ∷ []
items_of (From start) = []
items_of End = []

abbrev pub left_items : Option Feed → List Item
left_items None = []
left_items (Some feed) = items_of feed

-- a run that is left over, as a feed
abbrev pub left_feed : Option Run → Option Feed
left_feed None = None
left_feed (Some run) = Some (RunFeed run)

-- the samples among items
abbrev pub samples_in : List Item → List ℕ
samples_in [] = []
samples_in (Sample value ∷ items) = value ∷ samples_in items
samples_in (Pack packet ∷ items) = samples_in items

-- those that count
unfoldable pub counted_samples : List Item → List ℕ
counted_samples items = take (2 ^ 60) (samples_in items)
