-- What the answers of a reader mean, from the lines that it read.
use Rattle.std.proofs.Common.{◌≡◌, ℕ, ◌+◌, ◌^◌, ◌≤◌, ◌<◌, List, [], ◌∷◌, ◌++◌, length, take, refl, sym, ◌∙◌, ap, subst, arith, nat_lt, Option, Some, None, Result, Ok, Err, Bool, true, false, IfSome, replicate, length-append}
use Rattle.std.proofs.lemmas.Bool.{cond-true, cond-false}
use Rattle.std.proofs.lemmas.List.{append-nil, length-replicate}
use Rattle.text_parts.specs.Places.{Placed}
use Rattle.la_base.specs.Samples.{samples}
use Rattle.la_base.specs.declared.samples.Run.{Run}
use Rattle.la_io.specs.declared.fault.CaptureError.{CaptureError}
use Rattle.la_io.specs.declared.fault.CaptureError.TheVariants as error
use Rattle.la_io.specs.declared.fault.CaptureFault.{CaptureFault}
use Rattle.la_io.specs.declared.fault.CaptureFault.TheVariants as fault
use Rattle.la_io.specs.Capture.{Told, AtEnd, Cut, Good, Ending, Clean, Faulty, Open, Captured, Ends}
use Rattle.byte_feed.specs.Parts.{Fed, behind}
use Rattle.byte_feed.specs.Lines.{lines_of}
use Rattle.byte_feed.specs.LineReader.{Answers, Stands, ended_of, is_spent, taken_of, text_of}
use Rattle.byte_feed.specs.Feeding.{told_of}
use Rattle.byte_feed.specs.declared.fault.FeedFault.{FeedFault}
use Rattle.byte_feed.specs.declared.fault.FeedFault.TheVariants.{Read, TooLong, Bytes, Spent}
use Rattle.byte_feed.specs.declared.lines.Lines.{Lines}
use Rattle.byte_feed.specs.Errors.{error_of}
use Rattle.byte_feed.proofs.LineStanding.{lines_first}
use Rattle.byte_feed.proofs.LinesCut.{lines_place}
use Rattle.capture_csv.specs.Csv.{Taken, body_by, body_of, channel_fields, csv_capture, names_by, record_says, records_give, settled_by}
use Rattle.text_parts.specs.Reading.{read_front}
use Rattle.capture_csv.specs.Modes.{skips}
use Rattle.capture_csv.specs.Plain.{NeedsCsv}
use Rattle.capture_csv.specs.Reader.{CsvStands, FirstIs, Going, LineSays, NextLine, StandsAs, StepAnswers, WantsAt, csv_by, csv_header, csv_lines, csv_mode, csv_names, csv_pins, csv_rate, given_at}
use Rattle.la_io.specs.Reading.{Behind, CaptureCause, run_samples}
use Rattle.capture_csv.specs.Records.{Record, is_passed, record_of, records_in, without_marks}
use Rattle.capture_csv.specs.Running.{BodyFaulty, BodyStands, EndSays, FieldsAnswer, Flushes, held_in, pins_in, row_of, want_in}
use Rattle.capture_csv.specs.declared.body.Body.{Body}
use Rattle.la_base.specs.declared.modes.CsvMode.{CsvMode}
use Rattle.la_base.specs.declared.modes.CsvMode.TheVariants.{Rows, Times}
use Rattle.la_io.specs.declared.answer.Step.{Step}
use Rattle.la_io.specs.declared.answer.Step.TheVariants.{Went, Gave, Over}
use Rattle.capture_csv.specs.declared.phase.Phase.{Phase}
use Rattle.capture_csv.specs.declared.phase.Phase.TheVariants.{Running}
use Rattle.capture_csv.specs.declared.reader.CsvReader.{CsvReader}
use Rattle.text_parts.proofs.FrontLemmas.{front_some}
use Rattle.capture_csv.proofs.Longer.{records_more}
use Rattle.capture_csv.proofs.Taking.{gave_before, gave_open}

-- the records of one more line
pub row_more : (items : List Placed) (number : ℕ) (text : List ℕ) (first : Record) (rest : List Record) → records_in items ≡ first ∷ rest → is_passed (without_marks text) ≡ false
    → records_in (items ++ (number, text) ∷ []) ≡ first ∷ (rest ++ row_of number (without_marks text) ∷ [])
row_more items number text first rest is passed =
    records_more items ((number, text) ∷ []) ∙ (λ i. is i ++ (record_is i ++ []))
  where
    record_is : record_of (number, text) ≡ row_of number (without_marks text) ∷ []
    record_is = cond-false (is_passed (without_marks text)) _ _ passed

pub row_passed : (items : List Placed) (number : ℕ) (text : List ℕ) (first : Record) (rest : List Record) → records_in items ≡ first ∷ rest → is_passed (without_marks text) ≡ true → records_in (items ++ (number, text) ∷ []) ≡ first ∷ rest
row_passed items number text first rest is passed =
    records_more items ((number, text) ∷ []) ∙ (λ i. is i ++ (cond-true (is_passed (without_marks text)) [] (row_of number (without_marks text) ∷ []) passed i ++ [])) ∙ append-nil (first ∷ rest)

pub body_more : (header : Bool) (first : Record) (rest others : List Record) → body_of header first (rest ++ others) ≡ body_of header first rest ++ others
body_more true first rest others = refl
body_more false first rest others = refl

-- what lines give behind a first record
module _ (mode : CsvMode) (header : Bool) (num den : ℕ) (pins : List ℕ) where
  pub csv_is : (bytes : List ℕ) (told : Told) (items more : List Placed) (how : Ending) (first : Record) (rest : List Record) → records_in items ≡ first ∷ rest → nat_lt 4096 (length (channel_fields mode first.1)) ≡ false
      → lines_of bytes told ≡ record { items = items ++ more; ending = how }
      → csv_capture mode header num den pins bytes told ≡ body_by mode (Good (names_by mode header first.1) num den) num den pins how (read_front (record_says mode num den (length first.1)) [] (body_of header first (rest ++ records_in more)))
  unfolding csv_capture
  csv_is bytes told items more how first rest records few fed =
      ap (λ (f : Fed). records_give mode header num den pins f.ending (records_in f.items)) fed
      ∙ ap (λ (l : List Record). records_give mode header num den pins how l) (records_more items more ∙ ap (λ (l : List Record). l ++ records_in more) records)
      ∙ cond-false (nat_lt 4096 (length (channel_fields mode first.1))) _ _ few

  -- all of them without a fault
  pub csv_ends : (bytes : List ℕ) (told : Told) (items : List Placed) (how : Ending) (first : Record) (rest : List Record) (want : ℕ) (taken : List Taken) (given : List ℕ) → records_in items ≡ first ∷ rest → nat_lt 4096 (length (channel_fields mode first.1)) ≡ false → want ≡ length first.1
      → lines_of bytes told ≡ record { items = items; ending = how } → read_front (record_says mode num den want) [] (body_of header first rest) ≡ (taken, None) → settled_by mode num den pins taken how ≡ given
      → Ends (csv_capture mode header num den pins bytes told) given how
  csv_ends bytes told items how first rest want taken given records few want_is fed read gave =
      let head = Good (names_by mode header first.1) num den in
      let whole = csv_is bytes told items [] how first rest records few (fed ∙ (λ i. record { items = sym (append-nil items) i; ending = how })) in
      let read_is : read_front (record_says mode num den (length first.1)) [] (body_of header first (rest ++ [])) ≡ (taken, None) =
      (λ i. read_front (record_says mode num den (sym want_is i)) [] (body_of header first (append-nil rest i))) ∙ read in
      let is = whole ∙ ap (λ (r : List Taken × Option CaptureFault). body_by mode head num den pins how r) read_is in
      record { settled = ap (λ (c : Captured). c.settled) is ∙ gave; ending = ap (λ (c : Captured). c.ending) is }

  -- and a fault of one of them
  pub csv_faulty : (bytes : List ℕ) (told : Told) (items : List Placed) (after : Fed) (first : Record) (rest : List Record) (row : Record) (want : ℕ) (taken : List Taken) (given : List ℕ) (f : CaptureFault) → records_in items ≡ first ∷ (rest ++ row ∷ [])
      → nat_lt 4096 (length (channel_fields mode first.1)) ≡ false → want ≡ length first.1 → lines_of bytes told ≡ behind items after
      → read_front (record_says mode num den want) [] (body_of header first rest ++ row ∷ []) ≡ (taken, Some f) → given ≡ settled_by mode num den pins taken (Faulty f)
      → Ends (csv_capture mode header num den pins bytes told) given (Faulty f)
  csv_faulty bytes told items after first rest row want taken given f records few want_is fed read gave =
      let head = Good (names_by mode header first.1) num den in
      let whole = csv_is bytes told items after.items after.ending first (rest ++ row ∷ []) records few fed in
      let parts = body_of header first rest ++ row ∷ [] in
      let read_is : read_front (record_says mode num den (length first.1)) [] (body_of header first ((rest ++ row ∷ []) ++ records_in after.items)) ≡ (taken, Some f) =
      (λ i. read_front (record_says mode num den (sym want_is i)) [] ((body_more header first (rest ++ row ∷ []) (records_in after.items) ∙ ap (λ (l : List Record). l ++ records_in after.items) (body_more header first rest (row ∷ []))) i))
      ∙ front_some (record_says mode num den want) [] parts (records_in after.items) f (ap (λ (r : List Taken × Option CaptureFault). r.1) read) ∙ read in
      let is = whole ∙ ap (λ (r : List Taken × Option CaptureFault). body_by mode head num den pins after.ending r) read_is in
      record { settled = ap (λ (c : Captured). c.settled) is ∙ sym gave; ending = ap (λ (c : Captured). c.ending) is }

-- the lines that a reader gave are the first of those of the bytes
pub given_lines : (lines : Lines) (bytes : List ℕ) (told : Told) (items : List Placed) → Stands lines bytes told items → taken_of lines ≤ 2 ^ 60 → (rest : Fed) × (lines_of bytes told ≡ behind items rest)
given_lines lines bytes told items st few =
    let taken = st.stands.taken in
    let rest = lines_first lines.intake.value lines.over lines.number lines.ended bytes items (omega (arith, taken, few)) st.stands in
    (rest.0, ap (λ (t : Told). lines_of bytes t) st.told_is ∙ rest.1)

-- a record's answer, as that of its line
module _ (reader new : CsvReader) (bytes : List ℕ) (told : Told) (given : List ℕ) (items : List Placed) (number : ℕ) (first : Record) (rest : List Record) (records : records_in items ≡ first ∷ rest)
    (head : FirstIs (csv_mode reader) (csv_header reader) (want_in reader.body) (csv_names reader) first) (lines : Stands reader.lines bytes told (items ++ (number, text_of reader.lines) ∷ [])) (few : taken_of reader.lines ≤ 2 ^ 60) where
  abbrev item : Placed
  item = (number, text_of reader.lines)

  abbrev row : Record
  row = row_of number (without_marks (text_of reader.lines))

  abbrev after : (rest : Fed) × (lines_of bytes told ≡ behind (items ++ (number, text_of reader.lines) ∷ []) rest)
  after = given_lines reader.lines bytes told (items ++ (number, text_of reader.lines) ∷ []) lines few

  pub line_faulty : (f : CaptureFault) → is_passed (without_marks (text_of reader.lines)) ≡ false → csv_mode new ≡ csv_mode reader → csv_header new ≡ csv_header reader → csv_rate new ≡ csv_rate reader → want_in new.body ≡ want_in reader.body
      → BodyFaulty new.body (body_of (csv_header reader) first rest ++ row_of number (without_marks (text_of reader.lines)) ∷ []) given f → Ends (csv_by new bytes told) given (Faulty f)
  line_faulty f passed mode header rate want faulty =
      csv_faulty (csv_mode new) (csv_header new) (csv_rate new).num (csv_rate new).den (csv_pins new) bytes told (items ++ item ∷ []) after.0 first rest row (want_in new.body) faulty.taken given f
      (row_more items number (text_of reader.lines) first rest records passed)
      (ap (λ (m : CsvMode). nat_lt 4096 (length (channel_fields m first.1))) mode ∙ head.few) (want ∙ head.want_is) after.1
      (ap (λ (h : Bool). read_front (record_says (csv_mode new) (csv_rate new).num (csv_rate new).den (want_in new.body)) [] (body_of h first rest ++ row ∷ [])) header ∙ faulty.read) faulty.gave

  -- memory is wanted for it
  pub line_wants : NeedsCsv (without_marks (text_of reader.lines)) → number ≡ csv_lines reader → new.lines ≡ reader.lines → new.body ≡ reader.body → csv_header new ≡ csv_header reader → BodyStands reader.body (body_of (csv_header reader) first rest) given → held_in reader.body ≡ false
      → (count : ℕ) × (count < length bytes) × WantsAt new.lines bytes count × (given ≡ (csv_by new (take count bytes) Cut).settled)
  line_wants needs last lines_are body header stands held = by_items items refl where
    by_items : (l : List Placed) → items ≡ l → (count : ℕ) × (count < length bytes) × WantsAt new.lines bytes count × (given ≡ (csv_by new (take count bytes) Cut).settled)
    by_items [] is = let none = sym records ∙ ap records_in is in cc
    by_items (one ∷ others) is =
        let taken = lines.stands.taken in
        let all : lines_of bytes told ≡ behind ((one ∷ others) ++ item ∷ []) after.0 = after.1 ∙ ap (λ (l : List Placed). behind (l ++ item ∷ []) after.0) is in
        let place = lines_place bytes told one others item after.0 (omega (arith, taken, few)) all in
        let ends = csv_ends (csv_mode reader) (csv_header reader) (csv_rate reader).num (csv_rate reader).den (csv_pins reader) (take place.0 bytes) Cut (one ∷ others) Open first rest (want_in reader.body) stands.taken given
        (ap records_in (sym is) ∙ records) head.few head.want_is place.4 stands.read (sym (gave_open (csv_mode reader) (csv_rate reader) (csv_pins reader) (held_in reader.body) stands.taken given stands.gave held)) in
        let same : csv_by new (take place.0 bytes) Cut ≡ csv_by reader (take place.0 bytes) Cut = λ i. csv_capture (body i).mode (header i) (body i).rate.num (body i).rate.den (pins_in (body i)) (take place.0 bytes) Cut in
        let next : NextLine bytes place.0 item = record { some = place.2; feed = place.3; lines = one ∷ others; before = place.4; told = told; rest = after.0; all = all } in
        let wants : WantsAt reader.lines bytes place.0 = record { next = subst (λ (n : ℕ). NextLine bytes place.0 (n, text_of reader.lines)) last next; needs = needs } in
        (place.0, place.1, subst (λ (l : Lines). WantsAt l bytes place.0) (sym lines_are) wants, sym (ap (λ (c : Captured). c.settled) same ∙ ends.settled))

-- what a record gave, of the text of its line
pub answer_of : (body : Body) (records : List Record) (given : List ℕ) (number : ℕ) (text line more : List ℕ) (said : Result (Option Run) CaptureFault) (run : Option Run) → text ≡ line → said ≡ Ok run
    → FieldsAnswer body (records ++ row_of number text ∷ []) given said → given ++ run_samples run ≡ more → BodyStands body (records ++ row_of number line ∷ []) more
answer_of body records given number text line more said run same is answer gave =
    coe 0 1 (i. BodyStands body (records ++ row_of number (same i) ∷ []) (gave i)) (subst (λ (r : Result (Option Run) CaptureFault). FieldsAnswer body (records ++ row_of number text ∷ []) given r) is answer)

-- it goes on behind one more line
module _ (reader new : CsvReader) (bytes : List ℕ) (told : Told) (given : List ℕ) (items : List Placed) (number : ℕ) (first : Record) (rest : List Record) (records : records_in items ≡ first ∷ rest)
    (head : FirstIs (csv_mode reader) (csv_header reader) (want_in reader.body) (csv_names reader) first) (lines : Stands reader.lines bytes told (items ++ (number, text_of reader.lines) ∷ [])) (few : taken_of reader.lines ≤ 2 ^ 60) (fresh : is_spent reader.lines ≡ false)
    (lines_is : new.lines ≡ reader.lines) (mode : csv_mode new ≡ csv_mode reader) (header : csv_header new ≡ csv_header reader) (want : want_in new.body ≡ want_in reader.body) (names : csv_names new ≡ csv_names reader) where
  first_is : FirstIs (csv_mode new) (csv_header new) (want_in new.body) (csv_names new) first
  first_is = coe 0 1 (i. FirstIs (sym mode i) (sym header i) (sym want i) (sym names i) first) head

  lines_are : Stands new.lines bytes told (items ++ (number, text_of reader.lines) ∷ [])
  lines_are = subst (λ (l : Lines). Stands l bytes told (items ++ (number, text_of reader.lines) ∷ [])) (sym lines_is) lines

  pub goes_passed : is_passed (without_marks (text_of reader.lines)) ≡ true → BodyStands new.body (body_of (csv_header reader) first rest) given → Going new bytes told given
  goes_passed passed body = record {
    items = items ++ (number, text_of reader.lines) ∷ [];
    first = first;
    rest = rest;
    records = row_passed items number (text_of reader.lines) first rest records passed;
    head = first_is;
    fresh = ap is_spent lines_is ∙ fresh;
    lines = lines_are;
    few = subst (λ (l : Lines). taken_of l ≤ 2 ^ 60) (sym lines_is) few;
    body = subst (λ (h : Bool). BodyStands new.body (body_of h first rest) given) (sym header) body;
  }

  pub goes_taken : is_passed (without_marks (text_of reader.lines)) ≡ false → BodyStands new.body (body_of (csv_header reader) first rest ++ row_of number (without_marks (text_of reader.lines)) ∷ []) given → Going new bytes told given
  goes_taken passed body =
      let row = row_of number (without_marks (text_of reader.lines)) in record {
        items = items ++ (number, text_of reader.lines) ∷ [];
        first = first;
        rest = rest ++ row ∷ [];
        records = row_more items number (text_of reader.lines) first rest records passed;
        head = first_is;
        fresh = ap is_spent lines_is ∙ fresh;
        lines = lines_are;
        few = subst (λ (l : Lines). taken_of l ≤ 2 ^ 60) (sym lines_is) few;
        body = subst (λ (l : List Record). BodyStands new.body l given) (sym (body_more (csv_header new) first rest (row ∷ []) ∙ ap (λ (h : Bool). body_of h first rest ++ row ∷ []) header)) body;
      }

-- it stands where it runs
pub runs_on : (reader : CsvReader) (bytes : List ℕ) (told : Told) (given : List ℕ) → reader.phase ≡ Running → Going reader bytes told given → CsvStands reader bytes told given
runs_on reader bytes told given is going = subst (λ (p : Phase). StandsAs p reader bytes told given) (sym is) going

pub is_going : (reader : CsvReader) (bytes : List ℕ) (told : Told) (given : List ℕ) → reader.phase ≡ Running → CsvStands reader bytes told given → Going reader bytes told given
is_going reader bytes told given is stands = subst (λ (p : Phase). StandsAs p reader bytes told given) is stands

-- a sample that was held is given
pub flushed_run : (old new : CsvReader) (run : Option Run) → new.lines ≡ old.lines → csv_header new ≡ csv_header old → csv_names new ≡ csv_names old → csv_mode new ≡ csv_mode old → want_in new.body ≡ want_in old.body → Flushes old.body new.body run
    → (bytes : List ℕ) (told : Told) (given : List ℕ) → Going old bytes told given → Going new bytes told (given ++ run_samples run)
flushed_run old new run lines header names mode want flushes bytes told given going = record {
  items = going.items;
  first = going.first;
  rest = going.rest;
  records = going.records;
  head = coe 0 1 (i. FirstIs (sym mode i) (sym header i) (sym want i) (sym names i) going.first) going.head;
  fresh = ap is_spent lines ∙ going.fresh;
  lines = subst (λ (l : Lines). Stands l bytes told going.items) (sym lines) going.lines;
  few = subst (λ (l : Lines). taken_of l ≤ 2 ^ 60) (sym lines) going.few;
  body = subst (λ (h : Bool). BodyStands new.body (body_of h going.first going.rest) (given ++ run_samples run)) (sym header) (flushes (body_of (csv_header old) going.first going.rest) given going.body);
}

-- a measure that rises with a sample that was held
pub flush_counts : (mode other : CsvMode) (phase : Phase) (number : ℕ) (held still : Bool) (at : ℕ) (len : ℕ) → held ≡ true → still ≡ false → skips mode ≡ 0 → other ≡ mode → 1 ≤ number → len ≡ 1 → (now : ℕ) → given_at mode phase number held at + len ≤ given_at other phase number still now
flush_counts Rows other phase number held still at len held_is still_is rows same some one now =
    coe 0 1 (i. given_at Rows phase number (sym held_is i) at + sym one i ≤ given_at (sym same i) phase number (sym still_is i) now) (omega (arith, some))
flush_counts Times other phase number held still at len held_is still_is rows same some one now = absurd (omega (arith, rows))

-- the end came
module _ (reader : CsvReader) (bytes : List ℕ) (given : List ℕ) (going_items : List Placed) (first : Record) (rest : List Record) (records : records_in going_items ≡ first ∷ rest)
    (head : FirstIs (csv_mode reader) (csv_header reader) (want_in reader.body) (csv_names reader) first) (whole : lines_of bytes AtEnd ≡ record { items = going_items; ending = Clean }) (stands : BodyStands reader.body (body_of (csv_header reader) first rest) given) (held : held_in reader.body ≡ false) where
  pub end_is : (run : Option Run) → EndSays reader.body run → Ends (csv_by reader bytes AtEnd) (given ++ run_samples run) Clean
  end_is run says =
      let said = says (body_of (csv_header reader) first rest) given stands held in
      csv_ends (csv_mode reader) (csv_header reader) (csv_rate reader).num (csv_rate reader).den (csv_pins reader) bytes AtEnd going_items Clean first rest (want_in reader.body) said.0 (given ++ run_samples run) records head.few head.want_is whole said.1 said.2

-- the lines stopped
pub lines_stop : (reader : CsvReader) (bytes : List ℕ) (told : Told) (given : List ℕ) (items : List Placed) (how : Ending) (first : Record) (rest : List Record) → records_in items ≡ first ∷ rest
    → FirstIs (csv_mode reader) (csv_header reader) (want_in reader.body) (csv_names reader) first → lines_of bytes told ≡ record { items = items; ending = how } → (how ≡ Clean → ⊥) → BodyStands reader.body (body_of (csv_header reader) first rest) given → held_in reader.body ≡ false
    → Ends (csv_by reader bytes told) given how
lines_stop reader bytes told given items Clean first rest records head whole other stands held = absurd (other refl)
lines_stop reader bytes told given items (Faulty f) first rest records head whole other stands held =
    csv_ends (csv_mode reader) (csv_header reader) (csv_rate reader).num (csv_rate reader).den (csv_pins reader) bytes told items (Faulty f) first rest (want_in reader.body) stands.taken given records head.few head.want_is whole stands.read
    (sym (gave_before (csv_mode reader) (csv_rate reader) (csv_pins reader) (held_in reader.body) stands.taken given f stands.gave held))
lines_stop reader bytes told given items Open first rest records head whole other stands held =
    csv_ends (csv_mode reader) (csv_header reader) (csv_rate reader).num (csv_rate reader).den (csv_pins reader) bytes told items Open first rest (want_in reader.body) stands.taken given records head.few head.want_is whole stands.read
    (sym (gave_open (csv_mode reader) (csv_rate reader) (csv_pins reader) (held_in reader.body) stands.taken given stands.gave held))

-- what an error of the lines says
pub stop_says : (reader : CsvReader) (lines : Lines) (left : Option (List ℕ)) (early : Told) (bytes before : List ℕ) (given : List ℕ) (items : List Placed) (first : Record) (rest : List Record) (fault : FeedFault) (answer : CaptureError) → answer ≡ error_of fault
    → records_in items ≡ first ∷ rest → FirstIs (csv_mode reader) (csv_header reader) (want_in reader.body) (csv_names reader) first → BodyStands reader.body (body_of (csv_header reader) first rest) given → held_in reader.body ≡ false
    → (early ≡ AtEnd → bytes ≡ []) → (early ≡ AtEnd → ended_of lines ≡ true) → Answers lines left (before ++ bytes) items (Err fault) → Behind left before early bytes (λ all told. StepAnswers reader all told given (Err answer))
stop_says reader lines left early bytes before given items first rest Read answer is records head stands held none stays says = record {
  told = Cut;
  none = none;
  still = λ e. absurd (let bad : true ≡ false = sym (stays e) ∙ says.0 in cc);
  at_end = λ e. cc;
  says = subst (λ (w : CaptureError). StepAnswers reader (before ++ bytes) Cut given (Err w)) (sym is) (refl, lines_stop reader (before ++ bytes) Cut given items Open first rest records head says.1 (λ e. cc) stands held);
}
stop_says reader lines left early bytes before given items first rest (TooLong at) answer is records head stands held none stays says = record {
  told = says.0;
  none = none;
  still = λ e. says.2 ∙ ap told_of (stays e);
  at_end = says.1;
  says = subst (λ (w : CaptureError). StepAnswers reader (before ++ bytes) says.0 given (Err w)) (sym is) (lines_stop reader (before ++ bytes) says.0 given items (Faulty (fault.TooLong at)) first rest records head says.3 (λ e. cc) stands held);
}
stop_says reader lines left early bytes before given items first rest Bytes answer is records head stands held none stays says = record {
  told = Cut;
  none = none;
  still = λ e. absurd (let bad : true ≡ false = sym (stays e) ∙ says.0 in cc);
  at_end = λ e. cc;
  says = subst (λ (w : CaptureError). StepAnswers reader (before ++ bytes) Cut given (Err w)) (sym is) (lines_stop reader (before ++ bytes) Cut given items (Faulty fault.Bytes) first rest records head says.1 (λ e. cc) stands held);
}
stop_says reader lines left early bytes before given items first rest Spent answer is records head stands held none stays says = absurd says

-- the end stays told
pub told_on : (lines : Lines) (bytes before : List ℕ) (early : Told) (items : List Placed) → Stands lines before early items → early ≡ AtEnd → ended_of lines ≡ true
told_on lines bytes before early items st e = by_ended (ended_of lines) refl where
  by_ended : (b : Bool) → ended_of lines ≡ b → ended_of lines ≡ true
  by_ended true is = is
  by_ended false is = let bad : AtEnd ≡ Cut = sym e ∙ st.told_is ∙ ap told_of is in cc

-- an answer that isn't that the source failed, behind a call that didn't
pub no_read : {T : Type 0} (before now : ℕ) (result : Result T CaptureError) → (result ≡ Err error.Read → ⊥) → now ≡ before → CaptureCause before now result
no_read before now (Ok x) other same = same
no_read before now (Err (error.Fault f)) other same = same
no_read before now (Err error.Read) other same = absurd (other refl)
no_read before now (Err error.NoMemory) other same = same

-- what a line said, as the answer of a step
pub line_step : (new : CsvReader) (bytes : List ℕ) (told : Told) (given : List ℕ) (result : Result Step CaptureError) → new.phase ≡ Running → LineSays new bytes told given result → StepAnswers new bytes told given result
line_step new bytes told given (Ok Went) running says = says
line_step new bytes told given (Ok (Gave run)) running says = runs_on new bytes told (given ++ samples run) running says
line_step new bytes told given (Ok Over) running says = absurd says
line_step new bytes told given (Err why) running says = says

pub few_of : (taken : ℕ) (o : Option ℕ) (number : ℕ) → o ≡ Some number → IfSome o (λ _. taken ≤ 2 ^ 60) → taken ≤ 2 ^ 60
few_of taken o number is h = subst (λ (x : Option ℕ). IfSome x (λ _. taken ≤ 2 ^ 60)) is h

pub some_samples : (given : List ℕ) (run : Run) → 0 < length (given ++ samples run)
unfolding samples
some_samples given run = let some = run.not_empty in omega (arith, some, length-append given (replicate run.len run.value), length-replicate run.len run.value)
