-- What an SPI decoder waits for, what it keeps of a bus between two events, and how one event
-- changes that.
use Rattle.std.specs.Prelude.{ℕ, ◌+◌, ◌*◌, ◌%◌, ◌^◌, min, nat_lt, Bool, true, false, ◌==◌}
use Rattle.std.specs.Prelude.{if◌then◌else◌, List, [], ◌∷◌, length, map, Option, Some, None}
use Rattle.la_base.specs.declared.wires.Out.{Out}
use Rattle.la_base.specs.declared.wires.Wire.TheVariants.{Spi as SpiWire}
use Rattle.wait_cond.specs.declared.alt.Alt.{Alt}
use Rattle.list_cuts.specs.Bits.{bit_of}
use Rattle.list_cuts.specs.Groups.{after_groups}
use Rattle.list_cuts.specs.Neighbours.{last_of}
use Rattle.list_cuts.specs.Parts.{Part}
use Rattle.list_cuts.specs.Places.{first_place}
use Rattle.sample_walks.specs.Events.{EventWalk, by_events}
use Rattle.sample_walks.specs.Walks.{walked, EndsThere}
use Rattle.dec_spi.specs.declared.held.Held.{Held}
use Rattle.dec_spi.specs.declared.held.Held.TheVariants.{Fresh, Outside, Inside}
use Rattle.dec_spi.specs.declared.options.SpiOpts.{SpiOpts}
use Rattle.dec_spi.specs.Bus.{Event, Select, Deselect, Clock, event_at, is_active_high}
use Rattle.dec_spi.specs.Bus.{is_low_first, reads_rises, is_selected, level_of, place_of, mosi_of}
use Rattle.dec_spi.specs.Bus.{miso_of, value_of, word_outs, select_outs, deselect_outs, stretches}

-- the mask of a line, if it is given; and that of the select line where it is active low, and high
abbrev pub mask_of : Option ℕ → ℕ
mask_of None = 0
mask_of (Some line) = 2 ^ line

abbrev pub low_mask : Option ℕ → Bool → ℕ
low_mask cs true = 0
low_mask cs false = mask_of cs

abbrev pub high_mask : Option ℕ → Bool → ℕ
high_mask cs true = mask_of cs
high_mask cs false = 0

-- the sample is selected
abbrev pub select_alt : Option ℕ → Bool → Alt
select_alt cs high =
    record {
      low = low_mask cs high;
      high = high_mask cs high;
      rise = 0;
      fall = 0;
      edge = 0;
      steady = 0;
      skip = 0;
    }

-- it is selected as the one before it was, and the clock has an edge at which a bit is read
abbrev pub rise_mask : ℕ → Bool → ℕ
rise_mask sck true = 2 ^ sck
rise_mask sck false = 0

abbrev pub fall_mask : ℕ → Bool → ℕ
fall_mask sck true = 0
fall_mask sck false = 2 ^ sck

abbrev pub clock_alt : ℕ → Bool → Option ℕ → Bool → Alt
clock_alt sck rises cs high = record {
  low = low_mask cs high;
  high = high_mask cs high;
  rise = rise_mask sck rises;
  fall = fall_mask sck rises;
  edge = 0;
  steady = mask_of cs;
  skip = 0;
}

abbrev pub clock_alt_of : SpiOpts → Alt
clock_alt_of opts = clock_alt opts.sck (reads_rises opts) opts.cs (is_active_high opts)

-- the select line changes
abbrev pub change_alt : ℕ → Alt
change_alt line =
    record { low = 0; high = 0; rise = 0; fall = 0; edge = 2 ^ line; steady = 0; skip = 0 }

abbrev pub change_alts : Option ℕ → List Alt
change_alts None = []
change_alts (Some line) = change_alt line ∷ []

-- what each event but the first meets, and nothing else does. No edge is met at sample 0, so the
-- first wait is for a level
abbrev pub event_alts : SpiOpts → List Alt
event_alts opts =
    clock_alt opts.sck (reads_rises opts) opts.cs (is_active_high opts) ∷ change_alts opts.cs

abbrev pub spi_alts : SpiOpts → Held → List Alt
spi_alts opts Fresh = select_alt opts.cs (is_active_high opts) ∷ []
spi_alts opts Outside = event_alts opts
spi_alts opts (Inside word) = event_alts opts

-- no sample was selected yet
abbrev pub is_fresh : Held → Bool
is_fresh Fresh = true
is_fresh Outside = false
is_fresh (Inside word) = false

-- a stretch with so many bits of a word, the numbers that they make up, and the place of the first
-- of them
abbrev pub inside : ℕ → ℕ → ℕ → ℕ → Held
inside count mosi miso first =
    Inside (record { count = count; mosi = mosi; miso = miso; first = first })

-- a stretch that has just begun
abbrev pub begun : Held
begun = inside 0 0 0 0

-- what is kept of the clocks behind the whole words of a stretch
abbrev pub held_by : SpiOpts → List Event → Held
held_by opts rest =
    inside (length rest) (value_of (is_low_first opts) (map mosi_of rest))
    (value_of (is_low_first opts) (map miso_of rest)) (first_place place_of rest)

abbrev pub held_in : SpiOpts → Option Event → List Event → Held
held_in opts (Some event) items = Outside
held_in opts None [] = Outside
held_in opts None (Select k ∷ clocks) = held_by opts (after_groups opts.bits clocks)
held_in opts None (Deselect k ∷ clocks) = Outside
held_in opts None (Clock k mosi miso ∷ clocks) = Outside

-- what is kept of the last stretch
abbrev pub held_last : SpiOpts → Option (Part Event) → Held
held_last opts None = Fresh
held_last opts (Some stretch) = held_in opts stretch.ended_by stretch.items

abbrev pub held_after : SpiOpts → List Event → Held
held_after opts list = held_last opts (last_of (stretches list))

-- a number of so many bits with one more bit behind them; a decoder that stands for no samples may
-- have counted any number
abbrev pub with_bit : Bool → ℕ → ℕ → Bool → ℕ
with_bit false count number level = number % 2 ^ 31 * 2 + bit_of level
with_bit true count number level = number % 2 ^ min count 31 + bit_of level * 2 ^ min count 31

-- where the word starts that clock k belongs to
abbrev pub start_of : ℕ → ℕ → ℕ → ℕ
start_of count first k = if count == 0 then k else first

-- what a clock gives in a stretch, and what is then kept
abbrev pub clock_gives : SpiOpts → ℕ → ℕ → ℕ → ℕ → ℕ → Bool → Bool → List Out
clock_gives opts count mosi miso first k out back =
    if nat_lt (count + 1) opts.bits then []
    else word_outs opts (start_of count first k) k (with_bit (is_low_first opts) count mosi out)
    (with_bit (is_low_first opts) count miso back)

abbrev pub clock_next : SpiOpts → ℕ → ℕ → ℕ → ℕ → ℕ → Bool → Bool → Held
clock_next opts count mosi miso first k out back =
    if nat_lt (count + 1) opts.bits then inside (count + 1)
    (with_bit (is_low_first opts) count mosi out) (with_bit (is_low_first opts) count miso back)
    (start_of count first k)
    else begun

-- what an event gives, and what is then kept
abbrev pub gives : SpiOpts → Held → Event → List Out
gives opts held (Select k) = select_outs k
gives opts Fresh (Deselect k) = []
gives opts Outside (Deselect k) = []
gives opts (Inside word) (Deselect k) = deselect_outs k
gives opts Fresh (Clock k out back) = []
gives opts Outside (Clock k out back) = []
gives opts (Inside word) (Clock k out back) =
    clock_gives opts word.count word.mosi word.miso word.first k out back

abbrev pub next : SpiOpts → Held → Event → Held
next opts held (Select k) = begun
next opts Fresh (Deselect k) = Fresh
next opts Outside (Deselect k) = Outside
next opts (Inside word) (Deselect k) = Outside
next opts Fresh (Clock k out back) = Fresh
next opts Outside (Clock k out back) = Outside
next opts (Inside word) (Clock k out back) =
    clock_next opts word.count word.mosi word.miso word.first k out back

-- where the word starts that has begun, else the number of samples
abbrev pub near_by : Held → ℕ → ℕ
near_by Fresh count = count
near_by Outside count = count
near_by (Inside word) count = if word.count == 0 then count else word.first

-- the event at a stop, by what is kept, whether the sample is selected, and the levels of MOSI and
-- MISO
abbrev pub event_by_held : Held → ℕ → Bool → Bool → Bool → Event
event_by_held Fresh at selected out back = Select at
event_by_held Outside at selected out back = Select at
event_by_held (Inside word) at selected out back =
    if selected then Clock at out back else Deselect at

-- a clock, by its sample
abbrev pub clock_of : SpiOpts → ℕ → ℕ → Event
clock_of opts at value = Clock at (level_of opts.mosi value) (level_of opts.miso value)

abbrev pub event_of : SpiOpts → Held → ℕ → ℕ → Event
event_of opts held at value =
    event_by_held held at (is_selected opts value) (level_of opts.mosi value)
    (level_of opts.miso value)

abbrev pub spi_walk : SpiOpts → EventWalk Held Event
spi_walk opts = record {
  event_at = event_at opts;
  begin = Fresh;
  next = next opts;
  gives = gives opts;
  alts = spi_alts opts;
  near = near_by;
  event_of = λ held at value met. event_of opts held at value;
  wire = SpiWire;
}

-- the last sample is one with an event, or there is none
abbrev pub EndsAtEvent : SpiOpts → List ℕ → Type 0
EndsAtEvent opts list = EndsThere (by_events (spi_walk opts)) list

-- what is kept of samples
abbrev pub held_at : SpiOpts → List ℕ → Held
held_at opts list = walked (by_events (spi_walk opts)) list
