-- What is sent on links: feeds and marks, and the end behind them.
use Rattle.std.specs.Prelude.{ℕ, Bool, true, false, if◌then◌else◌, List, [], ◌∷◌, ◌++◌, Option}
use Rattle.std.specs.Prelude.{Some, None}
use Rattle.la_base.specs.declared.wires.Feed.{Feed}
use Rattle.la_base.specs.declared.wires.Feed.TheVariants.{Run as RunFeed, Packet as PacketFeed}
use Rattle.la_base.specs.declared.wires.Feed.TheVariants.{From, End}
use Rattle.la_base.specs.declared.wires.Mark.{Mark}
use Rattle.la_base.specs.declared.wires.Mark.TheVariants.{Note as NoteMark, Piece as PieceMark}
use Rattle.la_base.specs.declared.wires.Mark.TheVariants.{Floor as FloorMark, End as EndMark}
use Rattle.la_base.specs.declared.wires.Out.{Out}
use Rattle.la_base.specs.declared.wires.Out.TheVariants.{Note as NoteOut, Piece as PieceOut}
use Rattle.la_base.specs.declared.wires.Out.TheVariants.{Packet as PacketOut}
use Rattle.decoder_core.specs.Inputs.{Item, items_of}

-- the end of what is fed, and of marks
abbrev pub ends_feed : Feed → Bool
ends_feed (RunFeed run) = false
ends_feed (PacketFeed packet) = false
ends_feed (From start) = false
ends_feed End = true

abbrev pub ends_marks : Mark → Bool
ends_marks (NoteMark note) = false
ends_marks (PieceMark piece) = false
ends_marks (FloorMark start) = false
ends_marks EndMark = true

-- the end, where it has come
abbrev pub feed_end : Bool → List Feed
feed_end closed = if closed then End ∷ [] else []

abbrev pub mark_end : Bool → List Mark
mark_end closed = if closed then EndMark ∷ [] else []

-- what several feeds hold
abbrev pub items_in : List Feed → List Item
items_in [] = []
items_in (feed ∷ feeds) = items_of feed ++ items_in feeds

-- the packets among outputs, as feeds
abbrev pub feeds_of : List Out → List Feed
feeds_of [] = []
feeds_of (NoteOut note ∷ outs) = feeds_of outs
feeds_of (PieceOut piece ∷ outs) = feeds_of outs
feeds_of (PacketOut packet ∷ outs) = PacketFeed packet ∷ feeds_of outs

-- the mark of a floor, if there is one
abbrev pub floor_mark : Option ℕ → List Mark
floor_mark None = []
floor_mark (Some floor) = FloorMark floor ∷ []

-- the same for those that are fed: the place from which on all packets that follow start
abbrev pub floor_feed : Option ℕ → List Feed
floor_feed None = []
floor_feed (Some floor) = From floor ∷ []

-- whether there is a floor
abbrev pub is_floor : Option ℕ → Bool
is_floor None = false
is_floor (Some floor) = true
