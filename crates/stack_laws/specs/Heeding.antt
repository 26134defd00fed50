-- What feeds tell of the packets that follow them, and lists of items that *heed* it.
use Rattle.std.specs.Prelude.{ℕ, ◌-◌, max, nat_le, if◌then◌else◌, List, [], ◌∷◌, ◌++◌, drop, length}
use Rattle.la_base.specs.declared.wires.Feed.{Feed}
use Rattle.la_base.specs.declared.wires.Feed.TheVariants.{Run as RunFeed, Packet as PacketFeed}
use Rattle.la_base.specs.declared.wires.Feed.TheVariants.{From, End}
use Rattle.la_base.specs.declared.wires.Out.{Out}
use Rattle.decoder_core.specs.Inputs.{Item, items_of}
use Rattle.decoder_core.specs.Packets.{ItemsFrom}
use Rattle.decoder_core.specs.Trees.{packets_of}

-- the place that a feed tells, from which on all packets that follow start
abbrev pub place_of : Feed → ℕ
place_of (RunFeed run) = 0
place_of (PacketFeed packet) = 0
place_of (From start) = start
place_of End = 0

-- *heeds*: of a list of items that begins with those of some feeds, all packets after each feed
-- start at the place that it tells, or later
abbrev pub Heeds : List Feed → List Item → Type 0
Heeds [] items = Unit {0}
Heeds (feed ∷ feeds) items =
    ItemsFrom (place_of feed) items × Heeds feeds (drop (length (items_of feed)) items)

-- the largest place told by feeds that have no more items before them than so many
abbrev pub above_in : List Feed → ℕ → ℕ
above_in [] count = 0
above_in (feed ∷ feeds) count =
    max (place_of feed)
    (if nat_le (length (items_of feed)) count
    then above_in feeds (count - length (items_of feed)) else 0)

-- feeds without those that tell places
abbrev pub without_places : List Feed → List Feed
without_places [] = []
without_places (RunFeed run ∷ feeds) = RunFeed run ∷ without_places feeds
without_places (PacketFeed packet ∷ feeds) = PacketFeed packet ∷ without_places feeds
without_places (From start ∷ feeds) = without_places feeds
without_places (End ∷ feeds) = End ∷ without_places feeds

-- the places that a stage has told a child hold, however its own input goes on, as far as that
-- heeds what the stage was told
abbrev pub TellsPlaces : (List Item → List Out) → List Feed → List Item → List Feed → Type 0
TellsPlaces whole received consumed made =
    (more : List Item) → Heeds received (consumed ++ more)
    → Heeds made (packets_of (whole (consumed ++ more)))
