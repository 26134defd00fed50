-- The lines of a bus as masks of the lower half of a sample, and the clocks that are taken by them.
use Rattle.std.specs.Prelude.{ℕ, ◌+◌, nat_lt, Bool, true, false, not, ◌==◌, ◌&&◌, if◌then◌else◌}
use Rattle.std.specs.Prelude.{Option, Some, None, List, []}
use Rattle.std.specs.Int.Bits.{bit_and}
use Rattle.la_base.specs.declared.wires.Out.{Out}
use Rattle.dec_spi.specs.declared.held.Bits.{Bits}
use Rattle.dec_spi.specs.declared.held.Held.{Held}
use Rattle.dec_spi.specs.declared.held.Held.TheVariants.{Fresh, Outside, Inside}
use Rattle.dec_spi.specs.declared.lines.Lines.{Lines}
use Rattle.dec_spi.specs.declared.options.SpiOpts.{SpiOpts}
use Rattle.dec_spi.specs.Bus.{is_active_high, is_low_first, word_outs}
use Rattle.dec_spi.specs.laws.Machine.{mask_of, high_mask, with_bit, start_of}

-- a line lies in the lower half, or isn't given
abbrev pub is_low : Option ℕ → Bool
is_low None = true
is_low (Some line) = nat_lt line 64

abbrev pub low_lines : SpiOpts → Lines
low_lines opts = record {
  select = mask_of opts.cs;
  active = high_mask opts.cs (is_active_high opts);
  mosi = mask_of opts.mosi;
  miso = mask_of opts.miso;
  low_first = is_low_first opts;
}

-- no sample is selected by these
abbrev pub no_lines : Lines
no_lines = record { select = 0; active = 1; mosi = 0; miso = 0; low_first = false }

abbrev pub lines_of : SpiOpts → Lines
lines_of opts =
    if is_low opts.cs && is_low opts.mosi && is_low opts.miso then low_lines opts else no_lines

-- the line of a mask is high in this half
abbrev pub reads : ℕ → ℕ → Bool
reads mask low = not (bit_and low mask == 0)

-- a half is that of a selected sample
abbrev pub selects : Lines → ℕ → Bool
selects lines low = bit_and low lines.select == lines.active

-- a word that hasn't begun
abbrev pub no_bits : Bits
no_bits = record { count = 0; mosi = 0; miso = 0; first = 0 }

-- the present word behind one more clock
abbrev pub grown : Lines → Bits → ℕ → ℕ → Bits
grown lines word k low = record {
  count = word.count + 1;
  mosi = with_bit lines.low_first word.count word.mosi (reads lines.mosi low);
  miso = with_bit lines.low_first word.count word.miso (reads lines.miso low);
  first = start_of word.count word.first k;
}

-- what a clock gives, and what is then kept of the present word
abbrev pub bits_give : SpiOpts → Lines → Bits → ℕ → ℕ → List Out
bits_give opts lines word k low =
    if nat_lt (word.count + 1) opts.bits then []
    else word_outs opts (grown lines word k low).first k (grown lines word k low).mosi
    (grown lines word k low).miso

abbrev pub bits_next : SpiOpts → Lines → Bits → ℕ → ℕ → Bits
bits_next opts lines word k low =
    if nat_lt (word.count + 1) opts.bits then grown lines word k low else no_bits

-- a clock in a stretch; what it gives, and what is then kept. No other event gives or changes
-- anything here
abbrev pub is_clock : Lines → Held → ℕ → Bool
is_clock lines Fresh low = false
is_clock lines Outside low = false
is_clock lines (Inside word) low = selects lines low

abbrev pub clock_outs : SpiOpts → Lines → Held → ℕ → ℕ → List Out
clock_outs opts lines Fresh k low = []
clock_outs opts lines Outside k low = []
clock_outs opts lines (Inside word) k low =
    if selects lines low then bits_give opts lines word k low else []

abbrev pub clocked : SpiOpts → Lines → Held → ℕ → ℕ → Held
clocked opts lines Fresh k low = Fresh
clocked opts lines Outside k low = Outside
clocked opts lines (Inside word) k low =
    Inside (if selects lines low then bits_next opts lines word k low else word)
