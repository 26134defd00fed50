-- What the bytes of a CSV capture give.
use Rattle.std.specs.Prelude.{ℕ, ◌+◌, ◌*◌, ◌^◌, ◌==◌, nat_le, nat_lt, Bool, true, false}
use Rattle.std.specs.Prelude.{if◌then◌else◌, List, [], ◌∷◌, ◌++◌, length, map, drop, get_or, codes}
use Rattle.std.specs.Prelude.{Option, Some, None, Result, Ok, Err}
use Rattle.std.specs.Fmt.{decimal}
use Rattle.std.specs.List.{range_with_len}
use Rattle.la_base.specs.Naming.{same_name}
use Rattle.la_io.specs.declared.fault.CaptureFault.{CaptureFault}
use Rattle.la_io.specs.declared.fault.CaptureFault.TheVariants as fault
use Rattle.la_io.specs.Capture.{Told, Head, Good, Bad, Unread, Ending, Clean, Faulty, Open}
use Rattle.la_io.specs.Capture.{Captured}
use Rattle.text_parts.specs.Reading.{read_front}
use Rattle.byte_feed.specs.Parts.{Fed}
use Rattle.byte_feed.specs.Lines.{lines_of}
use Rattle.capture_csv.specs.Records.{Record, records_in}
use Rattle.capture_csv.specs.Times.{from_zero, sample_at, time_in}
use Rattle.la_base.specs.declared.modes.CsvMode.{CsvMode}
use Rattle.la_base.specs.declared.modes.CsvMode.TheVariants.{Rows, Times}

-- the level of a field, which stands in this column of this line
abbrev pub level_of : ℕ → ℕ → List ℕ → Result Bool CaptureFault
level_of line column field = if same_name (codes "0") field then Ok false
    else if same_name (codes "1") field then Ok true
    else Err (fault.Field line column)

abbrev pub before_levels : Result Bool CaptureFault → Result (List Bool) CaptureFault
    → Result (List Bool) CaptureFault
before_levels (Err fault) levels = Err fault
before_levels (Ok level) (Err fault) = Err fault
before_levels (Ok level) (Ok levels) = Ok (level ∷ levels)

-- the levels of fields, the first of which stands in this column; or the first fault among them
abbrev pub levels_of : ℕ → ℕ → List (List ℕ) → Result (List Bool) CaptureFault
levels_of line column [] = Ok []
levels_of line column (field ∷ fields) =
    before_levels (level_of line column field) (levels_of line (column + 1) fields)

-- what a record without a fault says: the levels of all channels, and the time from which on they
-- hold, 0 where it tells none
pub record Taken : Type 0 where
  pub time : ℕ
  pub levels : List Bool

abbrev pub taken_at : ℕ → Result (List Bool) CaptureFault → Result Taken CaptureFault
taken_at time (Err fault) = Err fault
taken_at time (Ok levels) = Ok (record { time = time; levels = levels })

-- the first time and the last one of records, or this one where there is none
abbrev pub first_time : ℕ → List Taken → ℕ
first_time time [] = time
first_time time (taken ∷ rest) = taken.time

abbrev pub last_time : ℕ → List Taken → ℕ
last_time time [] = time
last_time time (taken ∷ rest) = last_time taken.time rest

-- a record of this time: it isn't before the last one, and its sample is below 2^60
abbrev pub timed : ℕ → ℕ → List Taken → ℕ → Result (List Bool) CaptureFault → Option ℕ
    → Result Taken CaptureFault
timed num den before line levels None = Err (fault.Time line)
timed num den before line levels (Some time) =
    if nat_lt time (last_time time before)
    then Err (fault.TimeBack line (from_zero (last_time time before)) (from_zero time))
    else if nat_le (2 ^ 60) (sample_at num den (first_time time before) time)
    then Err (fault.TimeLarge line)
    else taken_at time levels

-- what the fields of a record say behind those before it
abbrev pub fields_say : CsvMode → ℕ → ℕ → List Taken → ℕ → List (List ℕ) → Result Taken CaptureFault
fields_say Rows num den before line fields = taken_at 0 (levels_of line 1 fields)
fields_say Times num den before line [] = Err (fault.Time line)
fields_say Times num den before line (field ∷ fields) =
    timed num den before line (levels_of line 2 fields) (time_in field)

-- a record has as many fields as the first
abbrev pub record_says : CsvMode → ℕ → ℕ → ℕ → List Taken → Record → Result Taken CaptureFault
record_says mode num den want before row =
    if length row.1 == want then fields_say mode num den before row.0 row.1
    else Err (fault.Columns row.0 want (length row.1))

-- a word of levels, the first as its lowest bit
abbrev pub word_bits : List Bool → ℕ
word_bits [] = 0
word_bits (level ∷ levels) = (if level then 1 else 0) + 2 * word_bits levels

-- the word whose bit j is the level of channel pins[j]
abbrev pub word_of : List ℕ → List Bool → ℕ
word_of pins levels = word_bits (map (λ pin. get_or levels pin false) pins)

-- the levels of the last record whose sample is at most k
abbrev pub levels_at : ℕ → ℕ → ℕ → ℕ → List Bool → List Taken → List Bool
levels_at num den start k so_far [] = so_far
levels_at num den start k so_far (taken ∷ rest) =
    levels_at num den start k
    (if nat_le (sample_at num den start taken.time) k then taken.levels else so_far) rest

-- the words at so many samples from the first time on
unfoldable pub words_from : ℕ → ℕ → List ℕ → ℕ → List Taken → ℕ → List ℕ
words_from num den pins start taken count =
    map (λ k. word_of pins (levels_at num den start k [] taken)) (range_with_len 0 count)

-- how many samples are settled up to the sample of the last record: at a clean end it is the last,
-- else those before it
abbrev pub count_by : Ending → ℕ → ℕ
count_by Clean last = last + 1
count_by (Faulty fault) last = last
count_by Open last = last

abbrev pub timed_words : ℕ → ℕ → List ℕ → List Taken → Ending → List ℕ
timed_words num den pins [] ending = []
timed_words num den pins (first ∷ rest) ending =
    words_from num den pins first.time (first ∷ rest)
    (count_by ending (sample_at num den first.time (last_time first.time rest)))

-- the samples that records settle: each is one; or they are those between their times
abbrev pub settled_by : CsvMode → ℕ → ℕ → List ℕ → List Taken → Ending → List ℕ
settled_by Rows num den pins taken ending = map (λ taken. word_of pins taken.levels) taken
settled_by Times num den pins taken ending = timed_words num den pins taken ending

-- the fields of a record that belong to channels
abbrev pub channel_fields : CsvMode → List (List ℕ) → List (List ℕ)
channel_fields Rows fields = fields
channel_fields Times fields = drop 1 fields

-- D0, D1 and so on
unfoldable pub plain_names : ℕ → List (List ℕ)
plain_names count = map (λ channel. codes "D" ++ decimal channel) (range_with_len 0 count)

-- the names of the channels, by the fields of the first record
abbrev pub names_by : CsvMode → Bool → List (List ℕ) → List (List ℕ)
names_by mode true fields = channel_fields mode fields
names_by mode false fields = plain_names (length (channel_fields mode fields))

-- the records of the body: a first record that gives names is none of them
abbrev pub body_of : Bool → Record → List Record → List Record
body_of true first rest = rest
body_of false first rest = first ∷ rest

-- how a body ends: with its first fault, else as its lines do
abbrev pub body_ending : Ending → Option CaptureFault → Ending
body_ending how (Some fault) = Faulty fault
body_ending how None = how

-- what a body gives
abbrev pub body_by : CsvMode → Head → ℕ → ℕ → List ℕ → Ending → List Taken × Option CaptureFault
    → Captured
body_by mode head num den pins how read = record {
  head = head;
  settled = settled_by mode num den pins read.0 (body_ending how read.1);
  ending = body_ending how read.1;
}

-- no record came: the head is whole where the lines end clean
abbrev pub no_record : ℕ → ℕ → Ending → Captured
no_record num den Clean = record { head = Good [] num den; settled = []; ending = Clean }
no_record num den (Faulty fault) = record { head = Bad fault; settled = []; ending = Faulty fault }
no_record num den Open = record { head = Unread; settled = []; ending = Open }

-- what records give
abbrev pub records_give : CsvMode → Bool → ℕ → ℕ → List ℕ → Ending → List Record → Captured
records_give mode header num den pins how [] = no_record num den how
records_give mode header num den pins how (first ∷ rest) =
    if nat_lt 4096 (length (channel_fields mode first.1))
    then record {
      head = Bad (fault.TooMany first.0);
      settled = [];
      ending = Faulty (fault.TooMany first.0);
    }
    else body_by mode (Good (names_by mode header first.1) num den) num den pins how
    (read_front (record_says mode num den (length first.1)) [] (body_of header first rest))

-- what lines give
abbrev pub lines_give : CsvMode → Bool → ℕ → ℕ → List ℕ → Fed → Captured
lines_give mode header num den pins fed =
    records_give mode header num den pins fed.ending (records_in fed.items)

-- what the bytes of a CSV capture give, at so many samples in so many seconds, with these channels
-- as the bits of the samples
unfoldable pub csv_capture : CsvMode → Bool → ℕ → ℕ → List ℕ → List ℕ → Told → Captured
csv_capture mode header num den pins bytes told =
    lines_give mode header num den pins (lines_of bytes told)
