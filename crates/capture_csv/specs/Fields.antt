-- The fields of a line: those of the one record that it is.
use Rattle.std.specs.Prelude.{ℕ, List, [], Option, Some, None}
use Rattle.csv.specs.Machine.{Read, next_record}
use Rattle.csv.specs.Reading.{default_config}
use Rattle.csv.specs.declared.parser.State.TheVariants as st

-- the fields of a record, and none where there is no record
abbrev pub record_fields : Option Read → List (List ℕ)
record_fields None = []
record_fields (Some read) = read.0

-- the record of a line as `csv` reads it in its usual settings (RFC 4180, section 2), from its
-- start to its end, where a quote that is open ends too
unfoldable pub fields_in : List ℕ → List (List ℕ)
fields_in line = record_fields (next_record default_config st.StartRecord [] [] line)
