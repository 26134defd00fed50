-- What a serial line gives, on a whole list of samples: start-stop characters (ISO 1177), each a
-- start bit, which is low, the data with the least significant bit first, a parity bit, if there is
-- one, and stop bits, which are high. Parities, frame errors and breaks are those of the line
-- control and line status registers of the 16550; where bits are read is this project's own.
use Rattle.std.specs.Prelude.{ℕ, ◌+◌, ◌*◌, ◌/◌, ◌%◌, ◌-◌, nat_lt, Bool, false, not, ◌==◌}
use Rattle.std.specs.Prelude.{if◌then◌else◌, List, [], ◌∷◌, ◌++◌, take, drop, get_or, map}
use Rattle.std.specs.List.{list_any, count_by, range_with_len}
use Rattle.la_base.specs.declared.samples.Rate.{Rate}
use Rattle.la_base.specs.declared.wires.Out.{Out}
use Rattle.la_base.specs.declared.wires.PacketKind.TheVariants.{UartFrame, UartBreak}
use Rattle.list_cuts.specs.Bits.{bit_of, low_first}
use Rattle.decoder_core.specs.Outputs.{span_note, span_piece, span_packet}
use Rattle.rate_math.specs.Counts.{point, samples_of_bits}
use Rattle.dec_uart.specs.declared.options.Parity.{Parity}
use Rattle.dec_uart.specs.declared.options.Parity.TheVariants.{Without, Odd, Even, Zero, One}
use Rattle.dec_uart.specs.declared.options.UartOpts.{UartOpts}
use Rattle.dec_uart.specs.Chain.{Shape, chain_outs, chain_near}

-- the parity of its place among none, odd, even, zero, one
abbrev pub parity_of : ℕ → Parity
parity_of place =
    if place == 0 then Without
    else if place == 1 then Odd
    else if place == 2 then Even
    else if place == 3 then Zero
    else One

abbrev pub parity_bits : Parity → ℕ
parity_bits Without = 0
parity_bits Odd = 1
parity_bits Even = 1
parity_bits Zero = 1
parity_bits One = 1

-- how many bits of a frame stand before the stop bits, and the number of the last bit; the start
-- bit is bit 0
abbrev pub before_stop : UartOpts → ℕ
before_stop opts = 1 + opts.bits + parity_bits (parity_of opts.parity)

abbrev pub last_bit : UartOpts → ℕ
last_bit opts = before_stop opts + opts.stop - 1

-- where bit i of a frame is read, counted from its start: rounded down at each bit, so that nothing
-- adds up
abbrev pub bit_point : UartOpts → Rate → ℕ → ℕ
bit_point opts rate i = point rate.num rate.den opts.baud opts.sp i

-- where each bit is read that a frame can have
abbrev pub points_of : UartOpts → Rate → List ℕ
points_of opts rate = map (bit_point opts rate) (range_with_len 0 13)

-- how many samples a break has at least: those of all bits of a frame
abbrev pub break_length : UartOpts → Rate → ℕ
break_length opts rate = samples_of_bits rate.num rate.den opts.baud (last_bit opts + 1)

-- the data of the bits of a frame
abbrev pub data_of : UartOpts → List Bool → ℕ
data_of opts levels = low_first (take opts.bits (drop 1 levels))

-- how many ones data and parity bit have together
abbrev pub ones_of : UartOpts → List Bool → ℕ
ones_of opts levels = count_by (λ level. level) (take (opts.bits + 1) (drop 1 levels))

-- whether a parity bit, and the number of ones in data and parity bit together, break a parity
abbrev pub breaks : Parity → Bool → ℕ → Bool
breaks Without bit ones = false
breaks Odd bit ones = ones % 2 == 0
breaks Even bit ones = ones % 2 == 1
breaks Zero bit ones = bit
breaks One bit ones = not bit

abbrev pub parity_wrong : UartOpts → List Bool → Bool
parity_wrong opts levels =
    breaks (parity_of opts.parity) (get_or levels (opts.bits + 1) false) (ones_of opts levels)

-- whether a stop bit is low
abbrev pub stop_wrong : UartOpts → List Bool → Bool
stop_wrong opts levels = list_any not (drop (before_stop opts) levels)

-- a byte, or two bytes with the higher first
abbrev pub pieces : UartOpts → ℕ → ℕ → ℕ → List Out
pieces opts f end value =
    if opts.bits == 9 then span_piece 0 f end (value / 256) ∷ span_piece 0 f end (value % 256) ∷ []
    else span_piece 0 f end value ∷ []

-- a frame from f to end with this data, and whether its parity and a stop bit are wrong
abbrev pub told_outs : UartOpts → ℕ → ℕ → ℕ → Bool → Bool → List Out
told_outs opts f end value parity stop =
    span_note 1 f end value 0
    ∷ (if parity then span_note 2 f end 0 0 ∷ [] else [])
    ++ (if stop then span_note 3 f end 0 0 ∷ [] else [])
    ++ pieces opts f end value
    ++ span_packet UartFrame f end value (bit_of parity + 2 * bit_of stop) ∷ []

abbrev pub frame_outs : UartOpts → ℕ → ℕ → List Bool → List Out
frame_outs opts f end levels =
    told_outs opts f end (data_of opts levels) (parity_wrong opts levels) (stop_wrong opts levels)

-- a line that is low from f up to r, where a frame was low at all its points: a break, if it is
-- long enough
abbrev pub break_outs : UartOpts → Rate → ℕ → ℕ → List Out
break_outs opts rate f r =
    if nat_lt (r - f) (break_length opts rate) then []
    else span_note 4 f r 0 0 ∷ span_packet UartBreak f r 0 0 ∷ []

-- a false start, whole frames and breaks
abbrev pub shape_of : UartOpts → Rate → Shape
shape_of opts rate = record {
  rx = opts.rx;
  last = last_bit opts;
  point = bit_point opts rate;
  false_start = λ f k. span_note 0 f k 0 0 ∷ [];
  frame = frame_outs opts;
  rise = break_outs opts rate;
}

-- *outputs*: all that samples give
abbrev pub uart_outs : UartOpts → Rate → List ℕ → List Out
uart_outs opts rate samples = chain_outs (shape_of opts rate) samples

-- *near*: where the frame starts that has begun and has something still to give, else the number of
-- samples
abbrev pub uart_near : UartOpts → Rate → List ℕ → ℕ
uart_near opts rate samples = chain_near (shape_of opts rate) samples
