-- What goes by the mode.
use Rattle.std.specs.Prelude.{ℕ, Option, Some, None}
use Rattle.la_base.specs.declared.samples.Rate.{Rate}
use Rattle.capture_csv.specs.Times.{sample_at}
use Rattle.capture_csv.specs.declared.span.Span.{Span}
use Rattle.la_base.specs.declared.modes.CsvMode.{CsvMode}
use Rattle.la_base.specs.declared.modes.CsvMode.TheVariants.{Rows, Times}

-- how many fields stand before those of the channels
abbrev pub skips : CsvMode → ℕ
skips Rows = 0
skips Times = 1

-- the sample of the last record
abbrev pub at_of : Option Span → ℕ
at_of None = 0
at_of (Some span) = span.at

-- and that of its time
abbrev pub sample_of : Rate → Option Span → ℕ
sample_of rate None = 0
sample_of rate (Some span) = sample_at rate.num rate.den span.start span.last
