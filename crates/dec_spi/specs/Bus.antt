-- SPI on a whole list of samples, by Motorola's SPI Block Guide, "Transmission Formats": bits are
-- read while the select line is active, at the edges of the clock that its polarity and phase fix.
-- A *stretch* is a row of selected samples, as long as it goes; a *sampling edge* is one at which a
-- bit is read, between two samples of a stretch.
use Rattle.std.specs.Prelude.{ℕ, zero, suc, ◌+◌, ◌/◌, ◌%◌, ◌^◌, Bool, true, false, not, ◌&&◌, ◌||◌}
use Rattle.std.specs.Prelude.{◌==◌, if◌then◌else◌, List, [], ◌∷◌, ◌++◌, length, map, Option, Some}
use Rattle.std.specs.Prelude.{None}
use Rattle.std.specs.List.{flat_map}
use Rattle.la_base.specs.Samples.{is_high}
use Rattle.la_base.specs.declared.wires.Out.{Out}
use Rattle.la_base.specs.declared.wires.PacketKind.TheVariants.{SpiSelect, SpiWord, SpiDeselect}
use Rattle.list_cuts.specs.Bits.{high_first, low_first}
use Rattle.list_cuts.specs.Groups.{groups, after_groups}
use Rattle.list_cuts.specs.Neighbours.{at_neighbours, last_of}
use Rattle.list_cuts.specs.Parts.{Part, parts_between}
use Rattle.list_cuts.specs.Places.{first_place, last_place}
use Rattle.decoder_core.specs.Outputs.{note_at, packet_at, span_note, span_piece, span_packet}
use Rattle.dec_spi.specs.declared.options.SpiOpts.{SpiOpts}

-- what happens on the bus, and at which sample: a stretch begins, or has ended; a sampling edge,
-- with the levels of MOSI and MISO
pub data Event : Type 0 where
  Select : ℕ → Event
  Deselect : ℕ → Event
  Clock : ℕ → Bool → Bool → Event

-- the level of a line; one that isn't given reads low
abbrev pub level_of : Option ℕ → ℕ → Bool
level_of None now = false
level_of (Some line) now = is_high now line

-- by the mode, which is msb_low, msb_high, lsb_low or lsb_high: the select line is active high, and
-- the least significant bit comes first
abbrev pub is_active_high : SpiOpts → Bool
is_active_high opts = opts.mode == 1 || opts.mode == 3

abbrev pub is_low_first : SpiOpts → Bool
is_low_first opts = opts.mode == 2 || opts.mode == 3

-- whether a sample is selected: the select line has its active level, or isn't given
abbrev pub selected_by : Option ℕ → Bool → ℕ → Bool
selected_by None active_high now = true
selected_by (Some line) active_high now =
    if active_high then is_high now line else not (is_high now line)

abbrev pub is_selected : SpiOpts → ℕ → Bool
is_selected opts now = selected_by opts.cs (is_active_high opts) now

-- a line rises, or falls, from one sample to the next
abbrev pub has_edge : Bool → ℕ → ℕ → ℕ → Bool
has_edge true line before now = not (is_high before line) && is_high now line
has_edge false line before now = is_high before line && not (is_high now line)

-- bits are read where the clock rises, if its polarity and its phase are equal, and else where it
-- falls
abbrev pub reads_rises : SpiOpts → Bool
reads_rises opts = opts.cpol == opts.cpha

abbrev pub is_edge : SpiOpts → ℕ → ℕ → Bool
is_edge opts before now = has_edge (reads_rises opts) opts.sck before now

-- the event at sample k, by whether the sample before it and its own are selected, whether the
-- clock has such an edge, and the levels of MOSI and MISO
abbrev pub event_by : ℕ → Bool → Bool → Bool → Bool → Bool → List Event
event_by k false true edge mosi miso = Select k ∷ []
event_by k true false edge mosi miso = Deselect k ∷ []
event_by k true true true mosi miso = Clock k mosi miso ∷ []
event_by k true true false mosi miso = []
event_by k false false edge mosi miso = []

-- the event at sample k, by the sample before it and its own; before the first one nothing is
-- selected
abbrev pub event_at : SpiOpts → ℕ → Option ℕ → ℕ → List Event
event_at opts k None now =
    event_by k false (is_selected opts now) false (level_of opts.mosi now) (level_of opts.miso now)
event_at opts k (Some before) now =
    event_by k (is_selected opts before) (is_selected opts now) (is_edge opts before now)
    (level_of opts.mosi now) (level_of opts.miso now)

-- all events of a list of samples
abbrev pub events : SpiOpts → List ℕ → List Event
events opts samples = at_neighbours (event_at opts) samples

abbrev pub place_of : Event → ℕ
place_of (Select k) = k
place_of (Deselect k) = k
place_of (Clock k mosi miso) = k

abbrev pub mosi_of : Event → Bool
mosi_of (Select k) = false
mosi_of (Deselect k) = false
mosi_of (Clock k mosi miso) = mosi

abbrev pub miso_of : Event → Bool
miso_of (Select k) = false
miso_of (Deselect k) = false
miso_of (Clock k mosi miso) = miso

-- the number that the levels of a word make up, in the order of the mode
abbrev pub value_of : Bool → List Bool → ℕ
value_of false levels = high_first levels
value_of true levels = low_first levels

-- the lowest n bytes of a number, the highest of them first
abbrev pub bytes_of : ℕ → ℕ → List ℕ
bytes_of zero number = []
bytes_of (suc n) number = number / 256 ^ n % 256 ∷ bytes_of n number

-- so many bytes of a number as pieces of a class, from one place to another
abbrev pub byte_pieces : ℕ → ℕ → ℕ → ℕ → ℕ → List Out
byte_pieces count class first last number =
    map (λ byte. span_piece class first last byte) (bytes_of count number)

-- the pieces of a word on a line that is given: as many bytes as hold its bits
abbrev pub pieces : ℕ → Option ℕ → ℕ → ℕ → ℕ → ℕ → List Out
pieces bits None class first last number = []
pieces bits (Some line) class first last number =
    byte_pieces ((bits + 7) / 8) class first last number

-- the class of a word's note, by the data lines that are given
abbrev pub word_class : Option ℕ → Option ℕ → ℕ
word_class (Some mosi) (Some miso) = 1
word_class (Some mosi) None = 2
word_class None miso = 3

-- a word, by its first and its last sampling edge and its numbers on both lines
abbrev pub word_outs : SpiOpts → ℕ → ℕ → ℕ → ℕ → List Out
word_outs opts first last mosi miso =
    span_note (word_class opts.mosi opts.miso) first last mosi miso
    ∷ pieces opts.bits opts.mosi 0 first last mosi
    ++ pieces opts.bits opts.miso 1 first last miso
    ++ span_packet SpiWord first last mosi miso ∷ []

-- the word of a group of sampling edges
abbrev pub group_outs : SpiOpts → List Event → List Out
group_outs opts clocks =
    word_outs opts (first_place place_of clocks) (last_place place_of clocks)
    (value_of (is_low_first opts) (map mosi_of clocks))
    (value_of (is_low_first opts) (map miso_of clocks))

-- the words of a stretch: its sampling edges go in groups of as many as a word has bits; fewer than
-- that give nothing
unfoldable pub words_outs : SpiOpts → List Event → List Out
words_outs opts clocks = flat_map (group_outs opts) (groups opts.bits clocks)

abbrev pub select_outs : ℕ → List Out
select_outs k = note_at 0 k 0 ∷ packet_at SpiSelect k 0 ∷ []

abbrev pub deselect_outs : ℕ → List Out
deselect_outs k = note_at 4 k 0 ∷ packet_at SpiDeselect k 0 ∷ []

-- the stretches: each from its select on, up to its deselect, if a sample stands behind it
abbrev pub begins : Event → Bool
begins (Select k) = true
begins (Deselect k) = false
begins (Clock k mosi miso) = false

abbrev pub ends : Event → Bool
ends (Select k) = false
ends (Deselect k) = true
ends (Clock k mosi miso) = false

abbrev pub stretches : List Event → List (Part Event)
stretches list = parts_between begins ends list

-- what the event gives that has ended a stretch
abbrev pub end_outs : Option Event → List Out
end_outs None = []
end_outs (Some (Select k)) = []
end_outs (Some (Deselect k)) = deselect_outs k
end_outs (Some (Clock k mosi miso)) = []

-- what a stretch gives: its select, its words and its deselect
abbrev pub stretch_by : SpiOpts → List Event → Option Event → List Out
stretch_by opts [] ended_by = []
stretch_by opts (Select k ∷ clocks) ended_by =
    select_outs k ++ words_outs opts clocks ++ end_outs ended_by
stretch_by opts (Deselect k ∷ clocks) ended_by = []
stretch_by opts (Clock k mosi miso ∷ clocks) ended_by = []

abbrev pub stretch_outs : SpiOpts → Part Event → List Out
stretch_outs opts stretch = stretch_by opts stretch.items stretch.ended_by

abbrev pub events_outs : SpiOpts → List Event → List Out
events_outs opts list = flat_map (stretch_outs opts) (stretches list)

-- *outputs*: all that samples give
unfoldable pub spi_outs : SpiOpts → List ℕ → List Out
spi_outs opts samples = events_outs opts (events opts samples)

-- the sampling edges behind the whole words of a stretch that nothing has ended
abbrev pub begun_in : SpiOpts → Option Event → List Event → List Event
begun_in opts (Some event) items = []
begun_in opts None [] = []
begun_in opts None (Select k ∷ clocks) = after_groups opts.bits clocks
begun_in opts None (Deselect k ∷ clocks) = []
begun_in opts None (Clock k mosi miso ∷ clocks) = []

abbrev pub begun_word : SpiOpts → Option (Part Event) → List Event
begun_word opts None = []
begun_word opts (Some stretch) = begun_in opts stretch.ended_by stretch.items

-- where a word has begun, else the number of samples
abbrev pub begun_at : List Event → ℕ → ℕ
begun_at [] count = count
begun_at (clock ∷ clocks) count = place_of clock

-- *near*: where the word starts that has begun and isn't given yet, else the number of samples
unfoldable pub spi_near : SpiOpts → List ℕ → ℕ
spi_near opts samples =
    begun_at (begun_word opts (last_of (stretches (events opts samples)))) (length samples)
