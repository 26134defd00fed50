-- What a decoder of a serial line keeps between two stops, what it waits for, and what one more
-- sample gives and changes.
use Rattle.std.specs.Prelude.{ℕ, zero, suc, ◌+◌, ◌-◌, ◌*◌, ◌/◌, ◌^◌, ◌%◌, min, nat_lt, Bool, false}
use Rattle.std.specs.Prelude.{not, ◌==◌, ◌&&◌, if◌then◌else◌, List, [], ◌∷◌, ◌++◌, length, Option}
use Rattle.std.specs.Int.RustNames.{count_ones}
use Rattle.la_base.specs.Samples.{is_high}
use Rattle.la_base.specs.declared.samples.Rate.{Rate}
use Rattle.la_base.specs.declared.wires.Out.{Out}
use Rattle.wait_cond.specs.declared.alt.Alt.{Alt}
use Rattle.list_cuts.specs.Bits.{bit_of, low_first}
use Rattle.decoder_core.specs.Outputs.{span_note}
use Rattle.sample_walks.specs.Walks.{Walk}
use Rattle.dec_uart.specs.declared.held.Held.{Held}
use Rattle.dec_uart.specs.declared.held.Held.TheVariants as held
use Rattle.dec_uart.specs.declared.options.UartOpts.{UartOpts}
use Rattle.dec_uart.specs.Chain.{Shape, any_high, is_fall}
use Rattle.dec_uart.specs.Frames.{parity_of, before_stop, last_bit, bit_point, breaks, told_outs}
use Rattle.dec_uart.specs.Frames.{break_outs}

-- what samples leave: no frame is open; in the frame that begins at f, with the levels at those of
-- its points that were read; or the frame that begins at f was low at all its points, and the line
-- is still low
pub data Kept : Type 0 where
  Idle : Kept
  Inside : ℕ → List Bool → Kept
  Low : ℕ → Kept

-- a level at point 0 that is high
abbrev pub is_false_start : List Bool → Bool → Bool
is_false_start [] level = level
is_false_start (first ∷ levels) level = false

-- what is kept behind all points of a frame
abbrev pub after_all : ℕ → List Bool → Kept
after_all f levels = if any_high levels then Idle else Low f

-- what one more point of the frame that begins at f gives, at sample q, and what is then kept
abbrev pub point_gives : Shape → ℕ → List Bool → ℕ → Bool → List Out
point_gives c f levels q level =
    if is_false_start levels level then c.false_start f q
    else (if nat_lt (length levels) c.last then [] else c.frame f q (levels ++ level ∷ []))

abbrev pub point_next : Shape → ℕ → List Bool → Bool → Kept
point_next c f levels level =
    if is_false_start levels level then Idle
    else (if nat_lt (length levels) c.last then Inside f (levels ++ level ∷ [])
    else after_all f (levels ++ level ∷ []))

-- where the frame starts that is open, else the number of samples
abbrev pub line_near : Kept → ℕ → ℕ
line_near Idle next = next
line_near (Inside f levels) next = f
line_near (Low f) next = f

-- the line falls; it is high; so many samples lie behind the last stop
abbrev pub fall_alt : ℕ → Alt
fall_alt rx = record { low = 0; high = 0; rise = 0; fall = 2 ^ rx; edge = 0; steady = 0; skip = 0 }

abbrev pub high_alt : ℕ → Alt
high_alt rx = record { low = 0; high = 2 ^ rx; rise = 0; fall = 0; edge = 0; steady = 0; skip = 0 }

abbrev pub skip_alt : ℕ → Alt
skip_alt count =
    record { low = 0; high = 0; rise = 0; fall = 0; edge = 0; steady = 0; skip = count }

module _ (c : Shape) where
  abbrev pub line_next : Kept → ℕ → Option ℕ → ℕ → Kept
  line_next Idle q before now = if is_fall c.rx before now then Inside q [] else Idle
  line_next (Inside f levels) q before now =
      if nat_lt q (f + c.point (length levels)) then Inside f levels
      else point_next c f levels (is_high now c.rx)
  line_next (Low f) q before now = if is_high now c.rx then Idle else Low f

  abbrev pub line_gives : Kept → ℕ → Option ℕ → ℕ → List Out
  line_gives Idle q before now = []
  line_gives (Inside f levels) q before now =
      if nat_lt q (f + c.point (length levels)) then []
      else point_gives c f levels q (is_high now c.rx)
  line_gives (Low f) q before now = if is_high now c.rx then c.rise f q else []

  abbrev pub line_moves : Kept → ℕ → Option ℕ → ℕ → Bool
  line_moves Idle q before now = is_fall c.rx before now
  line_moves (Inside f levels) q before now = not (nat_lt q (f + c.point (length levels)))
  line_moves (Low f) q before now = is_high now c.rx

  -- how far behind the start of a frame the last of so many points is; the start itself where there
  -- is none
  abbrev pub reached_by : ℕ → ℕ
  reached_by zero = 0
  reached_by (suc i) = c.point i

  abbrev pub line_alt : Kept → Alt
  line_alt Idle = fall_alt c.rx
  line_alt (Inside f levels) = skip_alt (c.point (length levels) - reached_by (length levels))
  line_alt (Low f) = high_alt c.rx

  abbrev pub line_walk : Walk Kept
  line_walk = record {
    begin = Idle;
    next = line_next;
    gives = line_gives;
    moves = line_moves;
    alts = λ kept. line_alt kept ∷ [];
    near = line_near;
  }

  -- what a decoder holds of that
  abbrev pub held_of : Kept → Held
  held_of Idle = held.Idle
  held_of (Inside f levels) =
      held.Inside f (length levels) (low_first levels) (reached_by (length levels))
  held_of (Low f) = held.Low f

-- the number of some levels, the first the lowest, with that of one more behind the first i
abbrev pub with_level : ℕ → ℕ → Bool → ℕ
with_level i word level = word % 2 ^ i + bit_of level * 2 ^ i

-- what a frame says, by the number of the levels at its points
abbrev pub word_data : UartOpts → ℕ → ℕ
word_data opts word = word / 2 % 2 ^ opts.bits

abbrev pub word_parity : UartOpts → ℕ → Bool
word_parity opts word =
    breaks (parity_of opts.parity) (is_high word (opts.bits + 1))
    (count_ones (word / 2 % 2 ^ (opts.bits + 1)))

abbrev pub word_stop : UartOpts → ℕ → Bool
word_stop opts word = not (word / 2 ^ before_stop opts == 2 ^ opts.stop - 1)

abbrev pub word_outs : UartOpts → ℕ → ℕ → ℕ → List Out
word_outs opts f at word =
    told_outs opts f at (word_data opts word) (word_parity opts word) (word_stop opts word)

-- what point i of a frame gives, and what is then held
abbrev pub point_outs : UartOpts → ℕ → ℕ → ℕ → ℕ → Bool → List Out
point_outs opts f i word at level =
    if (i == 0) && level then span_note 0 f at 0 0 ∷ []
    else (if nat_lt i (last_bit opts) then []
    else word_outs opts f at (with_level i word level))

abbrev pub held_after : ℕ → ℕ → Held
held_after f word = if word == 0 then held.Low f else held.Idle

abbrev pub point_held : UartOpts → ℕ → ℕ → ℕ → ℕ → Bool → Held
point_held opts f i word at level =
    if (i == 0) && level then held.Idle
    else (if nat_lt i (last_bit opts) then held.Inside f (i + 1) (with_level i word level) (at - f)
    else held_after f (with_level i word level))

-- what a stop gives, and what is then held; a decoder that stands for no samples may hold any
-- numbers
abbrev pub stop_outs : UartOpts → Rate → Held → ℕ → Bool → List Out
stop_outs opts rate held.Idle at level = []
stop_outs opts rate (held.Inside f i word reached) at level =
    point_outs opts f (min i (last_bit opts)) word at level
stop_outs opts rate (held.Low f) at level = break_outs opts rate f at

abbrev pub stop_held : UartOpts → Held → ℕ → Bool → Held
stop_held opts held.Idle at level = held.Inside at 0 0 0
stop_held opts (held.Inside f i word reached) at level =
    point_held opts f (min i (last_bit opts)) word at level
stop_held opts (held.Low f) at level = held.Idle

-- what is waited for, and where the frame starts that is open
abbrev pub held_alt : UartOpts → Rate → Held → Alt
held_alt opts rate held.Idle = fall_alt opts.rx
held_alt opts rate (held.Inside f i word reached) =
    skip_alt (bit_point opts rate (min i (last_bit opts)) - reached)
held_alt opts rate (held.Low f) = high_alt opts.rx

abbrev pub held_near : Held → ℕ → ℕ
held_near held.Idle next = next
held_near (held.Inside f i word reached) next = f
held_near (held.Low f) next = f

-- how many samples come up to the next point of the frame that is open, that one too; 0 where none
-- is open
abbrev pub held_time : UartOpts → Rate → Held → ℕ
held_time opts rate held.Idle = 0
held_time opts rate (held.Inside f i word reached) =
    bit_point opts rate (min i (last_bit opts)) - reached
held_time opts rate (held.Low f) = 0

-- whether a stop is a point before the last that gives nothing, and what is held where such a point
-- is taken, and no other
abbrev pub is_point : ℕ → Held → Bool → Bool
is_point last held.Idle level = false
is_point last (held.Inside f i word reached) level = nat_lt i last && not ((i == 0) && level)
is_point last (held.Low f) level = false

abbrev pub point_taken : ℕ → Held → ℕ → Bool → Held
point_taken last held.Idle at level = held.Idle
point_taken last (held.Inside f i word reached) at level =
    if nat_lt i last && not ((i == 0) && level)
    then held.Inside f (i + 1) (with_level i word level) (at - f)
    else held.Inside f i word reached
point_taken last (held.Low f) at level = held.Low f
