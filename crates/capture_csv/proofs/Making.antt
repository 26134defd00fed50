-- A reader behind its first record.
use Rattle.std.proofs.Common.{◌≡◌, ℕ, ◌-◌, ◌^◌, ◌≤◌, List, [], ◌∷◌, ◌++◌, length, refl, sym, ◌∙◌, ap, subst, arith, nat_lt, Option, Some, None, Result, Ok, Err, Bool, true, false}
use Rattle.std.proofs.lemmas.Bool.{cond-true, cond-false, lt-ltb, le-ltb}
use Rattle.text_parts.specs.Places.{Placed}
use Rattle.la_base.specs.declared.samples.Rate.{Rate}
use Rattle.la_io.specs.declared.fault.CaptureError.{CaptureError}
use Rattle.la_io.specs.declared.fault.CaptureError.TheVariants as error
use Rattle.la_io.specs.declared.fault.CaptureFault.{CaptureFault}
use Rattle.la_io.specs.declared.fault.CaptureFault.TheVariants as fault
use Rattle.la_io.specs.Capture.{Told, AtEnd, Cut, Good, Bad, Ending, Clean, Faulty, Open, Captured, Ends}
use Rattle.byte_feed.specs.LineReader.{Stands, is_spent, taken_of, text_of}
use Rattle.byte_feed.specs.Lines.{lines_of}
use Rattle.byte_feed.specs.Parts.{Fed, behind}
use Rattle.byte_feed.specs.declared.lines.Lines.{Lines}
use Rattle.capture_csv.specs.Csv.{Taken, body_by, body_of, channel_fields, csv_capture, lines_give, names_by, record_says, records_give, settled_by}
use Rattle.text_parts.specs.Reading.{after_one, read_front}
use Rattle.capture_csv.specs.Modes.{skips}
use Rattle.capture_csv.specs.Opening.{Blank, FirstSays, HasFirst, IsNew, Makes, MakesEmpty, Opened, StartsAs}
use Rattle.capture_csv.specs.Reader.{NoRecord, StandsAs, csv_names}
use Rattle.capture_csv.specs.Records.{Record, is_passed, records_in, without_marks}
use Rattle.capture_csv.specs.Running.{BodyStands, row_of, want_in}
use Rattle.la_base.specs.declared.modes.CsvMode.{CsvMode}
use Rattle.la_base.specs.declared.modes.CsvMode.TheVariants.{Rows, Times}
use Rattle.capture_csv.specs.declared.phase.Phase.{Phase}
use Rattle.capture_csv.specs.declared.phase.Phase.TheVariants.{Running, Ended, Empty, Refused}
use Rattle.capture_csv.specs.declared.reader.CsvReader.{CsvReader}
use Rattle.capture_csv.proofs.Answering.{csv_is, given_lines}
use Rattle.capture_csv.proofs.Beginning.{no_record_is}
use Rattle.text_parts.proofs.FrontLemmas.{front_some}
use Rattle.capture_csv.proofs.Longer.{records_more}

-- how many channels a record has
pub channels_len : (mode : CsvMode) (fields : List (List ℕ)) → length (channel_fields mode fields) ≡ length fields - skips mode
channels_len Rows fields = omega arith
channels_len Times [] = omega arith
channels_len Times (field ∷ fields) = omega arith

-- the lines up to the first record
pub first_row : (items : List Placed) (number : ℕ) (text : List ℕ) → records_in items ≡ [] → is_passed (without_marks text) ≡ false → records_in (items ++ (number, text) ∷ []) ≡ row_of number (without_marks text) ∷ []
first_row items number text none passed =
    records_more items ((number, text) ∷ []) ∙ (λ i. none i ++ (cond-false (is_passed (without_marks text)) [] (row_of number (without_marks text) ∷ []) passed i ++ []))

-- a first record that has a fault is none
pub first_fault : (judge : List Taken → Record → Result Taken CaptureFault) (first : Record) (taken : List Taken) (f : CaptureFault) → read_front judge [] (first ∷ []) ≡ (taken, Some f) → taken ≡ []
first_fault judge first taken f is = by_said (judge [] first) is where
  by_said : (r : Result Taken CaptureFault) → after_one (λ values rest. read_front judge values rest) [] [] r ≡ (taken, Some f) → taken ≡ []
  by_said (Ok value) is = let other = ap (λ (r : List Taken × Option CaptureFault). r.1) is in cc
  by_said (Err why) is = sym (ap (λ (r : List Taken × Option CaptureFault). r.0) is)

none_settled : (mode : CsvMode) (num den : ℕ) (pins : List ℕ) (how : Ending) → settled_by mode num den pins [] how ≡ []
none_settled Rows num den pins how = refl
none_settled Times num den pins how = refl

-- a capture whose first record is too wide
too_wide : (mode : CsvMode) (header : Bool) (num den : ℕ) (pins bytes : List ℕ) (told : Told) (items : List Placed) (after : Fed) (first : Record) → records_in items ≡ first ∷ [] → nat_lt 4096 (length (channel_fields mode first.1)) ≡ true
    → lines_of bytes told ≡ behind items after → (csv_capture mode header num den pins bytes told).head ≡ Bad (fault.TooMany first.0)
unfolding csv_capture
too_wide mode header num den pins bytes told items after first records wide fed =
    ap (λ (f : Fed). (lines_give mode header num den pins f).head) fed
    ∙ ap (λ (l : List Record). (records_give mode header num den pins after.ending l).head) (records_more items after.items ∙ ap (λ (l : List Record). l ++ records_in after.items) records)
    ∙ ap (λ (c : Captured). c.head) (cond-true (nat_lt 4096 (length (channel_fields mode first.1))) _ _ wide)

-- behind the line of the first record
module _ (mode : CsvMode) (header : Bool) (rate : Rate) (lines : Lines) (left : Option (List ℕ)) (bytes : List ℕ) (number : ℕ) (has : HasFirst lines left bytes number) (fresh : is_spent lines ≡ false) where
  abbrev first : Record
  first = row_of number (without_marks (text_of lines))

  abbrev items : List Placed
  items = has.items ++ (number, text_of lines) ∷ []

  records : records_in items ≡ first ∷ []
  records = first_row has.items number (text_of lines) has.none has.some

  abbrev after : (rest : Fed) × (lines_of bytes has.told ≡ behind items rest)
  after = given_lines lines bytes has.told items has.stands has.few

  -- a first record that has a fault
  stops : (pins : List ℕ) (f : CaptureFault) (taken : List Taken) → nat_lt 4096 (length (channel_fields mode first.1)) ≡ false → header ≡ false
      → read_front (record_says mode rate.num rate.den (length first.1)) [] (first ∷ []) ≡ (taken, Some f) → Ends (csv_capture mode header rate.num rate.den pins bytes has.told) [] (Faulty f)
  stops pins f taken few header_is read =
      let judge = record_says mode rate.num rate.den (length first.1) in
      let head = Good (names_by mode header first.1) rate.num rate.den in
      let how = after.0.ending in
      let more = records_in after.0.items in
      let none = first_fault judge first taken f read in
      let whole = csv_is mode header rate.num rate.den pins bytes has.told items after.0.items how first [] records few after.1 in
      let read_is : read_front judge [] (body_of header first more) ≡ ([], Some f) =
      ap (λ (h : Bool). read_front judge [] (body_of h first more)) header_is ∙ front_some judge [] (first ∷ []) more f (ap (λ (r : List Taken × Option CaptureFault). r.1) read) ∙ read ∙ ap (λ (l : List Taken). (l, Some f)) none in
      let is = whole ∙ ap (λ (r : List Taken × Option CaptureFault). body_by mode head rate.num rate.den pins how r) read_is in
      record { settled = ap (λ (c : Captured). c.settled) is ∙ none_settled mode rate.num rate.den pins (Faulty f); ending = ap (λ (c : Captured). c.ending) is }

  -- what it stands for, where nothing was given
  begins : (reader : CsvReader) (phase : Phase) → reader.lines ≡ lines → nat_lt 4096 (length (channel_fields mode first.1)) ≡ false → want_in reader.body ≡ length first.1 → csv_names reader ≡ names_by mode header first.1
      → IsNew mode header rate reader → StartsAs phase header reader.body first → StandsAs phase reader bytes has.told []
  begins reader Running lines_is few want names new starts = record {
    items = items;
    first = first;
    rest = [];
    records = records;
    head = record {
      few = ap (λ (m : CsvMode). nat_lt 4096 (length (channel_fields m first.1))) new.mode_is ∙ few;
      want_is = want;
      names_are = names ∙ (λ i. names_by (sym new.mode_is i) (sym new.header_is i) first.1);
    };
    fresh = ap is_spent lines_is ∙ fresh;
    lines = subst (λ (l : Lines). Stands l bytes has.told items) (sym lines_is) has.stands;
    few = subst (λ (l : Lines). taken_of l ≤ 2 ^ 60) (sym lines_is) has.few;
    body = subst (λ (h : Bool). BodyStands reader.body (body_of h first []) []) (sym new.header_is) starts;
  }
  begins reader Ended lines_is few want names new starts = absurd starts
  begins reader Empty lines_is few want names new starts = absurd starts
  begins reader (Refused f) lines_is few want names new starts =
      let read : read_front (record_says mode rate.num rate.den (length first.1)) [] (first ∷ []) ≡ (starts.1.taken, Some f) =
      (λ i. read_front (record_says (sym new.mode_is i) (sym new.rate_is i).num (sym new.rate_is i).den (sym want i)) [] (first ∷ [])) ∙ starts.1.read in
      record {
        none = refl;
        ends = λ pins. coe 0 1 (i. Ends (csv_capture (sym new.mode_is i) (sym new.header_is i) (sym new.rate_is i).num (sym new.rate_is i).den pins bytes has.told) [] (Faulty f)) (stops pins f starts.1.taken few starts.0 read);
      }

  -- what the answer of what is made there means
  pub opens_first : (result : Result CsvReader CaptureError) → Makes lines number mode header rate result → Opened mode header rate bytes left result
  opens_first (Ok reader) makes =
      let few = le-ltb _ _ makes.1 in (
        has.told,
        has.at_end,
        begins reader reader.phase makes.0 few makes.2 makes.3 makes.4 makes.5,
        ap (λ (c : Captured). c.head) (csv_is mode header rate.num rate.den [] bytes has.told items after.0.items after.0.ending first [] records few after.1) ∙ ap (λ (l : List (List ℕ)). Good l rate.num rate.den) (sym makes.3),
      )
  opens_first (Err (error.Fault f)) makes =
      (has.told, has.at_end, too_wide mode header rate.num rate.den [] bytes has.told items after.0 first records (lt-ltb _ _ makes.1) after.1 ∙ ap (λ (x : CaptureFault). Bad x) (sym makes.0))
  opens_first (Err error.Read) makes = absurd makes
  opens_first (Err error.NoMemory) makes = tt

-- where no record came
pub opens_none : (mode : CsvMode) (header : Bool) (rate : Rate) (lines : Lines) (left : Option (List ℕ)) (bytes : List ℕ) (result : Result CsvReader CaptureError) → FirstSays lines left bytes (Ok None) → MakesEmpty mode header rate result → Opened mode header rate bytes left result
opens_none mode header rate lines left bytes (Ok reader) says makes =
    let new = makes.0 in
    let is = λ (pins : List ℕ). no_record_is mode header rate.num rate.den pins bytes AtEnd says.0 Clean says.2 says.3 in
    let none : NoRecord reader bytes AtEnd [] = record {
      told_end = refl;
      none = refl;
      ends = λ pins. coe 0 1 (i. Ends (csv_capture (sym new.mode_is i) (sym new.header_is i) (sym new.rate_is i).num (sym new.rate_is i).den pins bytes AtEnd) [] Clean)
          (record { settled = ap (λ (c : Captured). c.settled) (is pins); ending = ap (λ (c : Captured). c.ending) (is pins) });
    } in
    (AtEnd, (λ e. says.1), subst (λ (p : Phase). StandsAs p reader bytes AtEnd []) (sym makes.2) none, ap (λ (c : Captured). c.head) (is []) ∙ ap (λ (l : List (List ℕ)). Good l rate.num rate.den) (sym makes.1))
opens_none mode header rate lines left bytes (Err why) says makes = subst (λ (w : CaptureError). Opened mode header rate bytes left (Err w)) (sym makes) tt

-- where the lines stopped
pub opens_error : (mode : CsvMode) (header : Bool) (rate : Rate) (lines : Lines) (left : Option (List ℕ)) (bytes : List ℕ) (why : CaptureError) → FirstSays lines left bytes (Err why) → Opened mode header rate bytes left (Err why)
opens_error mode header rate lines left bytes (error.Fault f) says = (says.0, says.2, ap (λ (c : Captured). c.head) (no_record_is mode header rate.num rate.den [] bytes says.0 says.1 (Faulty f) says.3 says.4))
opens_error mode header rate lines left bytes error.Read says = ap (λ (c : Captured). c.head) (no_record_is mode header rate.num rate.den [] bytes Cut says.0 Open says.1 says.2)
opens_error mode header rate lines left bytes error.NoMemory says = absurd says

-- no line was read
pub blank_new : (lines : Lines) (left : Option (List ℕ)) → Stands lines [] Cut [] → Blank lines left []
blank_new lines left stands = record { told = Cut; items = []; at_end = λ e. cc; stands = stands; none = refl }
