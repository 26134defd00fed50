-- What a decoder of a serial line stands for, and how it is opened.
use Rattle.std.specs.Prelude.{ℕ, ◌≡◌, List, [], ◌∷◌, Result, Ok, Err}
use Rattle.la_base.specs.declared.samples.Rate.{Rate}
use Rattle.decoder_core.specs.declared.faults.OptFault.{OptFault}
use Rattle.decoder_core.specs.declared.faults.OptFault.TheVariants.{Range, Rate as TooSlow}
use Rattle.wait_cond.specs.declared.alt.Alt.{Alt}
use Rattle.sample_walks.specs.Walks.{walked, EndsThere}
use Rattle.dec_uart.specs.declared.held.Line.{Line}
use Rattle.dec_uart.specs.declared.held.Uart.{Uart}
use Rattle.dec_uart.specs.declared.options.UartOpts.{UartOpts}
use Rattle.dec_uart.specs.Frames.{shape_of}
use Rattle.dec_uart.specs.Ranges.{InRange, FastEnough}
use Rattle.dec_uart.specs.laws.Machine.{held_alt, held_of, line_walk}

-- the line of a decoder: its options and the rate
abbrev pub line_of : Uart → Line
line_of machine = machine.line

-- what a decoder waits for
abbrev pub alts_of : Uart → List Alt
alts_of machine = held_alt machine.line.opts machine.line.rate machine.held ∷ []

-- a decoder stands for samples that end with a stop, or for none: it holds what they leave
abbrev pub StandsFor : Uart → List ℕ → Type 0
StandsFor machine list =
    EndsThere (line_walk (shape_of machine.line.opts machine.line.rate)) list
    × (machine.held ≡ held_of (shape_of machine.line.opts machine.line.rate)
    (walked (line_walk (shape_of machine.line.opts machine.line.rate)) list))

-- a decoder of these options at this rate that stands for no samples; Range exactly where an option
-- is out of range, else Rate exactly where the rate is too low
abbrev pub Opens : ℕ → UartOpts → Rate → Result Uart OptFault → Type 0
Opens most opts rate (Ok machine) =
    InRange most opts × FastEnough opts rate × ((line_of machine).opts ≡ opts)
    × ((line_of machine).rate ≡ rate) × StandsFor machine []
Opens most opts rate (Err Range) = ¬ InRange most opts
Opens most opts rate (Err TooSlow) = InRange most opts × (¬ FastEnough opts rate)
