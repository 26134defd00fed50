-- What a longer input keeps of a front that is cut.
use Rattle.std.proofs.Common.{◌≡◌, ℕ, ◌^◌, ◌==◌, ◌≤◌, inl, inr, List, [], ◌∷◌, ◌++◌, length, map, refl, sym, ◌∙◌, ap, subst, arith, append_assoc, Option, Some, None, Result, Ok, Err, Bool, true, false, cond, nat_lt, nat_le}
use Rattle.std.proofs.lemmas.Bool.{ltb-false}
use Rattle.std.proofs.lemmas.List.{append-nil}
use Rattle.std.proofs.lemmas.List.{map-append}
use Rattle.text_parts.specs.Places.{Placed}
use Rattle.la_io.specs.declared.fault.CaptureFault.{CaptureFault}
use Rattle.la_io.specs.declared.fault.CaptureFault.TheVariants as fault
use Rattle.la_io.specs.Capture.{Cut, Head, Good, Bad, Ending, Clean, Faulty, Open, Captured}
use Rattle.byte_feed.specs.Parts.{Fed}
use Rattle.byte_feed.specs.Lines.{lines_of}
use Rattle.byte_feed.specs.Laws.{Extends}
use Rattle.byte_feed.proofs.LinesLonger.{lines_extend}
use Rattle.capture_csv.specs.Records.{Record, record_of, records_in}
use Rattle.capture_csv.specs.Times.{from_zero, sample_at, time_in}
use Rattle.capture_csv.specs.Csv.{Taken, body_by, body_ending, body_of, channel_fields, count_by, csv_capture, fields_say, first_time, last_time, levels_of, lines_give, names_by, record_says, records_give, settled_by, taken_at, timed, timed_words, word_of}
use Rattle.text_parts.specs.Reading.{after_one, read_front}
use Rattle.capture_csv.specs.Laws.{GoesOn, LongerGoesOn, PinsLeaveTheEnding, PinsLeaveTheHead}
use Rattle.capture_csv.specs.Stretches.{LateFrom}
use Rattle.la_base.specs.declared.modes.CsvMode.{CsvMode}
use Rattle.la_base.specs.declared.modes.CsvMode.TheVariants.{Rows, Times}
use Rattle.text_parts.proofs.FrontLemmas.{front_keeps, front_none, front_some}
use Rattle.capture_csv.proofs.Words.{sample_rises, words_longer}

-- the records of more lines
pub records_more : (lines more : List Placed) → records_in (lines ++ more) ≡ records_in lines ++ records_in more
records_more [] more = refl
records_more (line ∷ lines) more = ap (λ (l : List Record). record_of line ++ l) (records_more lines more) ∙ sym (append_assoc (record_of line) (records_in lines) (records_in more))

-- the last time of one more record
pub last_on : (time : ℕ) (taken : List Taken) (t : Taken) → last_time time (taken ++ t ∷ []) ≡ t.time
last_on time [] t = refl
last_on time (x ∷ taken) t = last_on x.time taken t

taken_time : (time : ℕ) (levels : Result (List Bool) CaptureFault) (t : Taken) → taken_at time levels ≡ Ok t → time ≡ t.time
taken_time time (Ok levels) t is = cc
taken_time time (Err f) t is = cc

timed_late : (num den line : ℕ) (before : List Taken) (levels : Result (List Bool) CaptureFault) (said : Option ℕ) (t : Taken) → timed num den before line levels said ≡ Ok t → last_time t.time before ≤ t.time
timed_late num den line before levels None t is = cc
timed_late num den line before levels (Some time) t is = by_back (nat_lt time (last_time time before)) refl is where
  late : (b : Bool) → cond b (Err (fault.TimeLarge line)) (taken_at time levels) ≡ Ok t → last_time time before ≤ time → last_time t.time before ≤ t.time
  late true e h = cc
  late false e h = subst (λ (n : ℕ). last_time n before ≤ n) (taken_time time levels t e) h

  by_back : (b : Bool) → nat_lt time (last_time time before) ≡ b
      → cond b (Err (fault.TimeBack line (from_zero (last_time time before)) (from_zero time))) (cond (nat_le (2 ^ 60) (sample_at num den (first_time time before) time)) (Err (fault.TimeLarge line)) (taken_at time levels)) ≡ Ok t → last_time t.time before ≤ t.time
  by_back true e h = cc
  by_back false e h = late (nat_le (2 ^ 60) (sample_at num den (first_time time before) time)) h (ltb-false time (last_time time before) e)

-- a record with a time isn't before the last one
pub said_late : (num den want : ℕ) (before : List Taken) (row : Record) (t : Taken) → record_says Times num den want before row ≡ Ok t → last_time t.time before ≤ t.time
said_late num den want before row t is = by_count (length row.1 == want) is where
  by_fields : (fields : List (List ℕ)) → fields_say Times num den before row.0 fields ≡ Ok t → last_time t.time before ≤ t.time
  by_fields [] h = cc
  by_fields (field ∷ fields) h = timed_late num den row.0 before (levels_of row.0 2 fields) (time_in field) t h

  by_count : (b : Bool) → cond b (fields_say Times num den before row.0 row.1) (Err (fault.Columns row.0 want (length row.1))) ≡ Ok t → last_time t.time before ≤ t.time
  by_count true h = by_fields row.1 h
  by_count false h = cc

late_weaker : (a b : ℕ) (taken : List Taken) → a ≤ b → LateFrom b taken → LateFrom a taken
late_weaker a b [] few late = tt
late_weaker a b (t ∷ taken) few late = (omega (arith, few, late.0), late_weaker a b taken few late.1)

-- what records say behind others is late, and the last time doesn't fall
abbrev Late : ℕ → ℕ → Taken → List Taken → List Record → Type 0
Late num den b bs parts = (want : ℕ) → (rest : List Taken) × ((read_front (record_says Times num den want) (b ∷ bs) parts).0 ≡ b ∷ (bs ++ rest)) × LateFrom (last_time b.time bs) rest × (last_time b.time bs ≤ last_time b.time (bs ++ rest))

front_late : (num den : ℕ) (b : Taken) (bs : List Taken) (parts : List Record) → Late num den b bs parts
front_late num den b bs [] want = ([], ap (λ (l : List Taken). b ∷ l) (sym (append-nil bs)), tt, omega (arith, ap (λ (l : List Taken). last_time b.time l) (append-nil bs)))
front_late num den b bs (part ∷ parts) want = by_judge (record_says Times num den want (b ∷ bs) part) refl (λ t. front_late num den b (bs ++ t ∷ []) parts want) where
  Said : Result Taken CaptureFault → Type 0
  Said r = (rest : List Taken) × ((after_one (λ values rest. read_front (record_says Times num den want) values rest) (b ∷ bs) parts r).0 ≡ b ∷ (bs ++ rest)) × LateFrom (last_time b.time bs) rest × (last_time b.time bs ≤ last_time b.time (bs ++ rest))

  by_judge : (r : Result Taken CaptureFault) → record_says Times num den want (b ∷ bs) part ≡ r
      → ((t : Taken) → (rest : List Taken) × ((read_front (record_says Times num den want) (b ∷ (bs ++ t ∷ [])) parts).0 ≡ b ∷ ((bs ++ t ∷ []) ++ rest)) × LateFrom (last_time b.time (bs ++ t ∷ [])) rest × (last_time b.time (bs ++ t ∷ []) ≤ last_time b.time ((bs ++ t ∷ []) ++ rest))) → Said r
  by_judge (Err f) is next = ([], ap (λ (l : List Taken). b ∷ l) (sym (append-nil bs)), tt, omega (arith, ap (λ (l : List Taken). last_time b.time l) (append-nil bs)))
  by_judge (Ok t) is next =
      let on = next t in
      let rises : last_time b.time bs ≤ t.time = said_late num den want (b ∷ bs) part t is in
      let last = last_on b.time bs t in
      let joins = append_assoc bs (t ∷ []) on.0 in
      (t ∷ on.0, on.1 ∙ ap (λ (l : List Taken). b ∷ l) joins, (rises, late_weaker (last_time b.time bs) (last_time b.time (bs ++ t ∷ [])) on.0 (omega (arith, rises, last)) on.2), omega (arith, rises, last, on.3, ap (λ (l : List Taken). last_time b.time l) joins))

goes_same : (front whole : Captured) → whole ≡ front → GoesOn front whole
goes_same front whole same = record {
  settled = ([], ap (λ (c : Captured). c.settled) same ∙ sym (append-nil front.settled));
  fault = λ fault e. same;
  good = λ names num den e. ap (λ (c : Captured). c.head) same ∙ e;
  bad = λ fault e. ap (λ (c : Captured). c.head) same ∙ e;
}

count_grows : (how : Ending) (x y : ℕ) → x ≤ y → x ≤ count_by how y
count_grows Clean x y few = omega (arith, few)
count_grows (Faulty f) x y few = few
count_grows Open x y few = few

module _ (num den : ℕ) (pins : List ℕ) where
  -- the samples of records, and of more behind them
  pub settled_more : (mode : CsvMode) (want : ℕ) (before : List Taken) (others : List Record) (how : Ending)
      → (more : List ℕ) × (settled_by mode num den pins (read_front (record_says mode num den want) before others).0 how ≡ settled_by mode num den pins before Open ++ more)
  settled_more Rows want before others how =
      let keeps = front_keeps (record_says Rows num den want) before others in
      (map (λ (t : Taken). word_of pins t.levels) keeps.0, ap (λ (l : List Taken). map (λ (t : Taken). word_of pins t.levels) l) keeps.1 ∙ map-append (λ (t : Taken). word_of pins t.levels) before keeps.0)
  settled_more Times want [] others how = (_, refl)
  settled_more Times want (b ∷ bs) others how =
      let late = front_late num den b bs others want in
      let last = last_time b.time bs in
      let at = sample_at num den b.time last in
      let to = sample_at num den b.time (last_time b.time (bs ++ late.0)) in
      let longer = words_longer num den pins b.time last at (count_by how to) (b ∷ bs) late.0 late.2 (omega arith) (count_grows how at to (sample_rises num den b.time last (last_time b.time (bs ++ late.0)) late.3)) in
      (longer.0, ap (λ (l : List Taken). timed_words num den pins l how) late.1 ∙ longer.1)

  module _ (mode : CsvMode) (head : Head) (want : ℕ) where
    abbrev body : Ending → List Taken × Option CaptureFault → Captured
    body how read = body_by mode head num den pins how read

    -- a body with a fault ends so, whatever its lines do
    same_fault : (how other : Ending) (read : List Taken × Option CaptureFault) (fault : CaptureFault) → read.1 ≡ Some fault → body how read ≡ body other read
    same_fault how other read fault is =
        ap (λ (o : Option CaptureFault). body how (read.0, o)) is ∙ sym (ap (λ (o : Option CaptureFault). body other (read.0, o)) is)

    body_goes : (how : Ending) (parts others : List Record) → GoesOn (body Open (read_front (record_says mode num den want) [] parts)) (body how (read_front (record_says mode num den want) [] (parts ++ others)))
    body_goes how parts others = by_fault (read_front (record_says mode num den want) [] parts).1 refl where
      judge : List Taken → Record → Result Taken CaptureFault
      judge = record_says mode num den want

      read : List Taken × Option CaptureFault
      read = read_front (record_says mode num den want) [] parts

      by_fault : (o : Option CaptureFault) → read.1 ≡ o → GoesOn (body Open read) (body how (read_front (record_says mode num den want) [] (parts ++ others)))
      by_fault (Some fault) is = goes_same _ _ (ap (λ (r : List Taken × Option CaptureFault). body how r) (front_some (record_says mode num den want) [] parts others fault is) ∙ same_fault how Open read fault is)
      by_fault None is =
          let on = front_none (record_says mode num den want) [] parts others is in
          let next = read_front (record_says mode num den want) read.0 others in
          let ending : body_ending Open read.1 ≡ Open = ap (λ (o : Option CaptureFault). body_ending Open o) is in
          let more = settled_more mode want read.0 others (body_ending how next.1) in
          record {
            settled = (
              more.0,
              ap (λ (r : List Taken × Option CaptureFault). (body how r).settled) on ∙ more.1 ∙ ap (λ (e : Ending). settled_by mode num den pins read.0 e ++ more.0) (sym ending),
            );
            fault = λ fault e. let bad = sym ending ∙ e in cc;
            good = λ names num den e. e;
            bad = λ fault e. e;
          }

  module _ (mode : CsvMode) (header : Bool) where
    abbrev gives : Ending → List Record → Captured
    gives how records = records_give mode header num den pins how records

    body_more : (b : Bool) (first : Record) (rest others : List Record) → body_of b first (rest ++ others) ≡ body_of b first rest ++ others
    body_more true first rest others = refl
    body_more false first rest others = refl

    records_go : (how : Ending) (records others : List Record) → GoesOn (gives Open records) (gives how (records ++ others))
    records_go how [] others = record {
      settled = (_, refl);
      fault = λ fault e. cc;
      good = λ names num den e. cc;
      bad = λ fault e. cc;
    }
    records_go how (first ∷ rest) others = by_many (nat_lt 4096 (length (channel_fields mode first.1))) where
      many : Captured
      many = record { head = Bad (fault.TooMany first.0); settled = []; ending = Faulty (fault.TooMany first.0) }

      head : Head
      head = Good (names_by mode header first.1) num den

      judge : List Taken → Record → Result Taken CaptureFault
      judge = record_says mode num den (length first.1)

      by_many : (b : Bool) → GoesOn (cond b many (body_by mode head num den pins Open (read_front (record_says mode num den (length first.1)) [] (body_of header first rest))))
          (cond b many (body_by mode head num den pins how (read_front (record_says mode num den (length first.1)) [] (body_of header first (rest ++ others)))))
      by_many true = goes_same _ _ refl
      by_many false = subst (λ (l : List Record). GoesOn (body_by mode head num den pins Open (read_front (record_says mode num den (length first.1)) [] (body_of header first rest))) (body_by mode head num den pins how (read_front (record_says mode num den (length first.1)) [] l)))
          (sym (body_more header first rest others)) (body_goes mode head (length first.1) how (body_of header first rest) others)

    lines_go : (front whole : Fed) → Extends front whole → GoesOn (lines_give mode header num den pins front) (lines_give mode header num den pins whole)
    lines_go front whole (inr same) = goes_same _ _ (ap (λ (f : Fed). lines_give mode header num den pins f) same.2)
    lines_go front whole (inl cut) =
        subst (λ (h : Ending). GoesOn (gives h (records_in front.items)) (gives whole.ending (records_in whole.items))) (sym cut.0)
        (subst (λ (l : List Record). GoesOn (gives Open (records_in front.items)) (gives whole.ending l)) (sym (ap records_in cut.2 ∙ records_more front.items cut.1))
        (records_go whole.ending (records_in front.items) (records_in cut.1)))

pub longer_goes_on : LongerGoesOn
unfolding csv_capture
longer_goes_on mode header num den pins front more told = lines_go num den pins mode header (lines_of front Cut) (lines_of (front ++ more) told) (lines_extend front more told)

same_by : (pins others : List ℕ) (mode : CsvMode) (header : Bool) (num den : ℕ) (how : Ending) (records : List Record)
    → ((records_give mode header num den pins how records).head ≡ (records_give mode header num den others how records).head) × ((records_give mode header num den pins how records).ending ≡ (records_give mode header num den others how records).ending)
same_by pins others mode header num den Clean [] = (refl, refl)
same_by pins others mode header num den (Faulty f) [] = (refl, refl)
same_by pins others mode header num den Open [] = (refl, refl)
same_by pins others mode header num den how (first ∷ rest) = by_many (nat_lt 4096 (length (channel_fields mode first.1))) where
  G : List ℕ → Bool → Captured
  G pins b = cond b (record { head = Bad (fault.TooMany first.0); settled = []; ending = Faulty (fault.TooMany first.0) })
      (body_by mode (Good (names_by mode header first.1) num den) num den pins how (read_front (record_says mode num den (length first.1)) [] (body_of header first rest)))

  by_many : (b : Bool) → ((G pins b).head ≡ (G others b).head) × ((G pins b).ending ≡ (G others b).ending)
  by_many true = (refl, refl)
  by_many false = (refl, refl)

pub pins_leave_the_head : PinsLeaveTheHead
unfolding csv_capture
pins_leave_the_head mode header num den pins others bytes told = let fed = lines_of bytes told in (same_by pins others mode header num den fed.ending (records_in fed.items)).0

pub pins_leave_the_ending : PinsLeaveTheEnding
unfolding csv_capture
pins_leave_the_ending mode header num den pins others bytes told = let fed = lines_of bytes told in (same_by pins others mode header num den fed.ending (records_in fed.items)).1
