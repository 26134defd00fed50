-- One taking of bytes after another, and what a reader stands for behind them.
use Rattle.std.proofs.Common.{◌≡◌, ℕ, ◌^◌, ◌≤◌, ◌<◌, List, sym, ◌∙◌, subst, arith, Option, Some, None, Bool, true, false}
use Rattle.la_io.specs.Capture.{Told}
use Rattle.byte_feed.specs.LineReader.{number_of}
use Rattle.capture_csv.specs.Modes.{at_of}
use Rattle.capture_csv.specs.Reader.{Going, SameReader, csv_given, csv_mode, given_at}
use Rattle.capture_csv.specs.Running.{held_in}
use Rattle.la_base.specs.declared.modes.CsvMode.{CsvMode}
use Rattle.la_base.specs.declared.modes.CsvMode.TheVariants.{Rows, Times}
use Rattle.capture_csv.specs.declared.phase.Phase.{Phase}
use Rattle.capture_csv.specs.declared.phase.Phase.TheVariants.{Running, Ended, Empty, Refused}
use Rattle.capture_csv.specs.declared.reader.CsvReader.{CsvReader}
use Rattle.capture_csv.specs.declared.span.Span.{Span}

-- what stays, stays
pub same_on : (old mid new : CsvReader) → SameReader old mid → SameReader mid new → SameReader old new
same_on old mid new one two = record { mode = two.mode ∙ one.mode; header = two.header ∙ one.header; names = two.names ∙ one.names; rate = two.rate ∙ one.rate; pins = two.pins ∙ one.pins }

-- it goes on where no sample was held
pub unflushed : (old new : CsvReader) → new ≡ old → (bytes : List ℕ) (told : Told) (given : List ℕ) → Going old bytes told given → Going new bytes told given
unflushed old new same bytes told given going = subst (λ (r : CsvReader). Going r bytes told given) (sym same) going

-- the measure never passes 2^60
at_few : (span : Option Span) → at_of span < 2 ^ 60
at_few None = omega arith
at_few (Some span) = span.few

pub given_few : (mode : CsvMode) (phase : Phase) (number : ℕ) (held : Bool) (span : Option Span) → number ≤ 2 ^ 60 → given_at mode phase number held (at_of span) ≤ 2 ^ 60
given_few Rows phase number true span few = omega (arith, few)
given_few Rows phase number false span few = omega (arith, few)
given_few Times Running number held span few = let less = at_few span in omega (arith, less)
given_few Times Ended number held span few = let less = at_few span in omega (arith, less)
given_few Times Empty number held span few = let less = at_few span in omega (arith, less)
given_few Times (Refused fault) number held span few = let less = at_few span in omega (arith, less)

pub reader_few : (reader : CsvReader) → csv_given reader ≤ 2 ^ 60
reader_few reader = given_few (csv_mode reader) reader.phase (number_of reader.lines) (held_in reader.body) reader.body.span reader.lines.small
