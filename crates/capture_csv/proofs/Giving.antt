-- What a reader has given is a front of what its bytes settle.
use Rattle.std.proofs.Common.{append_assoc, ◌≡◌, ℕ, List, [], ◌∷◌, ◌++◌, length, map, sym, ◌∙◌, ap, Option, Bool, true, false}
use Rattle.std.proofs.lemmas.List.{append-nil, map-append}
use Rattle.la_base.specs.declared.samples.Rate.{Rate}
use Rattle.la_io.specs.declared.fault.CaptureFault.{CaptureFault}
use Rattle.la_io.specs.Capture.{Told, Good, Open, Captured}
use Rattle.capture_csv.specs.Csv.{Taken, body_by, body_ending, body_of, names_by, record_says, settled_by, word_of}
use Rattle.text_parts.specs.Reading.{read_front}
use Rattle.capture_csv.specs.Reader.{Going, GivenIsFront, StandsAs, csv_by, csv_header, csv_mode, csv_pins, csv_rate}
use Rattle.capture_csv.specs.Records.{records_in}
use Rattle.capture_csv.specs.Running.{Gave, held_in, want_in}
use Rattle.la_base.specs.declared.modes.CsvMode.{CsvMode}
use Rattle.la_base.specs.declared.modes.CsvMode.TheVariants.{Rows, Times}
use Rattle.capture_csv.specs.declared.phase.Phase.{Phase}
use Rattle.capture_csv.specs.declared.phase.Phase.TheVariants.{Running, Ended, Empty, Refused}
use Rattle.capture_csv.specs.declared.reader.CsvReader.{CsvReader}
use Rattle.capture_csv.proofs.Answering.{body_more, csv_is, given_lines}
use Rattle.text_parts.proofs.FrontLemmas.{front_none}
use Rattle.capture_csv.proofs.Longer.{settled_more}

-- the samples given are the first of those settled where the lines go on
gave_front : (mode : CsvMode) (rate : Rate) (pins : List ℕ) (held : Bool) (taken : List Taken) (given : List ℕ) → Gave mode rate pins held taken given → (rest : List ℕ) × (settled_by mode rate.num rate.den pins taken Open ≡ given ++ rest)
gave_front Rows rate pins false taken given gave = ([], sym gave ∙ sym (append-nil given))
gave_front Rows rate pins true taken given gave =
    let word = λ (t : Taken). word_of pins t.levels in
    (map word (gave.1 ∷ []), ap (λ (l : List Taken). map word l) gave.2 ∙ map-append word gave.0 (gave.1 ∷ []) ∙ ap (λ (l : List ℕ). l ++ map word (gave.1 ∷ [])) (sym gave.3))
gave_front Times rate pins held taken given gave = ([], sym gave.1 ∙ sym (append-nil given))

going_front : (reader : CsvReader) (bytes : List ℕ) (told : Told) (given : List ℕ) → Going reader bytes told given → (rest : List ℕ) × ((csv_by reader bytes told).settled ≡ given ++ rest)
going_front reader bytes told given st =
    let mode = csv_mode reader in
    let header = csv_header reader in
    let num = (csv_rate reader).num in
    let den = (csv_rate reader).den in
    let pins = csv_pins reader in
    let after = given_lines reader.lines bytes told st.items st.lines st.few in
    let how = after.0.ending in
    let others = records_in after.0.items in
    let judge = record_says mode num den (want_in reader.body) in
    let head = Good (names_by mode header st.first.1) num den in
    let parts = body_of header st.first st.rest in
    let body = st.body in
    let whole = csv_is mode header num den pins bytes told st.items after.0.items how st.first st.rest st.records st.head.few after.1 in
    let next = read_front judge body.taken others in
    let read_is : read_front (record_says mode num den (length st.first.1)) [] (body_of header st.first (st.rest ++ others)) ≡ next =
    (λ i. read_front (record_says mode num den (sym st.head.want_is i)) [] (body_more header st.first st.rest others i))
    ∙ front_none judge [] parts others (ap (λ (r : List Taken × Option CaptureFault). r.1) body.read) ∙ (λ i. read_front judge (body.read i).0 others) in
    let more = settled_more num den pins mode (want_in reader.body) body.taken others (body_ending how next.1) in
    let front = gave_front mode (csv_rate reader) pins (held_in reader.body) body.taken given body.gave in (
      front.0 ++ more.0,
      ap (λ (c : Captured). c.settled) whole ∙ ap (λ (r : List Taken × Option CaptureFault). (body_by mode head num den pins how r).settled) read_is ∙ more.1 ∙ ap (λ (l : List ℕ). l ++ more.0) front.1 ∙ append_assoc given front.0 more.0,
    )

pub given_is_front : GivenIsFront
given_is_front reader bytes told given stands = by_phase reader.phase stands where
  by_phase : (phase : Phase) → StandsAs phase reader bytes told given → (rest : List ℕ) × ((csv_by reader bytes told).settled ≡ given ++ rest)
  by_phase Running st = going_front reader bytes told given st
  by_phase Ended st = ([], st.ends.settled ∙ sym (append-nil given))
  by_phase Empty st = ([], (st.ends (csv_pins reader)).settled ∙ sym st.none ∙ sym (append-nil given))
  by_phase (Refused f) st = ([], (st.ends (csv_pins reader)).settled ∙ sym st.none ∙ sym (append-nil given))
