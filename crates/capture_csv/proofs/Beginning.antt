-- The lines before the first record, and what it begins.
use Rattle.std.proofs.Common.{◌≡◌, ℕ, ◌^◌, ◌≤◌, List, [], ◌∷◌, ◌++◌, sym, ◌∙◌, ap, subst, Option, Some, Ok, Err, Bool, true, false}
use Rattle.std.proofs.lemmas.Bool.{cond-true}
use Rattle.text_parts.specs.Places.{Placed}
use Rattle.la_io.specs.declared.fault.CaptureError.{CaptureError}
use Rattle.la_io.specs.Capture.{Told, Cut, Ending}
use Rattle.byte_feed.specs.Lines.{lines_of}
use Rattle.byte_feed.specs.Parts.{Fed}
use Rattle.byte_feed.specs.LineReader.{Answers, taken_of, text_of}
use Rattle.byte_feed.specs.declared.fault.FeedFault.{FeedFault}
use Rattle.byte_feed.specs.declared.fault.FeedFault.TheVariants.{Read, TooLong, Bytes, Spent}
use Rattle.byte_feed.specs.declared.lines.Lines.{Lines}
use Rattle.capture_csv.specs.Csv.{csv_capture, lines_give, no_record, records_give}
use Rattle.byte_feed.specs.Errors.{error_of}
use Rattle.capture_csv.specs.Opening.{Blank, FirstSays, HasFirst}
use Rattle.capture_csv.specs.Records.{Record, is_passed, records_in, without_marks}
use Rattle.capture_csv.specs.Running.{row_of}
use Rattle.la_base.specs.declared.modes.CsvMode.{CsvMode}
use Rattle.capture_csv.proofs.Longer.{records_more}

-- one more line that is passed over
pub blank_more : (items : List Placed) (number : ℕ) (text : List ℕ) → records_in items ≡ [] → is_passed (without_marks text) ≡ true → records_in (items ++ (number, text) ∷ []) ≡ []
blank_more items number text none passed =
    records_more items ((number, text) ∷ []) ∙ (λ i. none i ++ (cond-true (is_passed (without_marks text)) [] (row_of number (without_marks text) ∷ []) passed i ++ []))

pub blank_next : (new : Lines) (left : Option (List ℕ)) (bytes : List ℕ) (items : List Placed) (number : ℕ) → records_in items ≡ [] → is_passed (without_marks (text_of new)) ≡ true → Answers new left bytes items (Ok (Some number)) → Blank new left bytes
blank_next new left bytes items number none passed says = record {
  told = says.0;
  items = items ++ (number, text_of new) ∷ [];
  at_end = says.1;
  stands = says.2;
  none = blank_more items number (text_of new) none passed;
}

-- the first record
pub first_next : (new : Lines) (left : Option (List ℕ)) (bytes : List ℕ) (items : List Placed) (number : ℕ) → records_in items ≡ [] → is_passed (without_marks (text_of new)) ≡ false → taken_of new ≤ 2 ^ 60 → Answers new left bytes items (Ok (Some number)) → HasFirst new left bytes number
first_next new left bytes items number none some few says = record {
  told = says.0;
  items = items;
  at_end = says.1;
  stands = says.2;
  none = none;
  some = some;
  few = few;
}

-- the lines stopped before it
pub first_stops : (new : Lines) (left : Option (List ℕ)) (bytes : List ℕ) (items : List Placed) (why : FeedFault) (answer : CaptureError) → answer ≡ error_of why → records_in items ≡ [] → Answers new left bytes items (Err why) → FirstSays new left bytes (Err answer)
first_stops new left bytes items Read answer is none says = subst (λ (w : CaptureError). FirstSays new left bytes (Err w)) (sym is) (items, says.1, none)
first_stops new left bytes items (TooLong at) answer is none says = subst (λ (w : CaptureError). FirstSays new left bytes (Err w)) (sym is) (says.0, items, says.1, says.3, none)
first_stops new left bytes items Bytes answer is none says = subst (λ (w : CaptureError). FirstSays new left bytes (Err w)) (sym is) (Cut, items, (λ e. cc), says.1, none)
first_stops new left bytes items Spent answer is none says = absurd says

-- what a capture without a record gives
pub no_record_is : (mode : CsvMode) (header : Bool) (num den : ℕ) (pins bytes : List ℕ) (told : Told) (items : List Placed) (how : Ending) → lines_of bytes told ≡ record { items = items; ending = how } → records_in items ≡ [] → csv_capture mode header num den pins bytes told ≡ no_record num den how
unfolding csv_capture
no_record_is mode header num den pins bytes told items how fed none =
    ap (λ (f : Fed). lines_give mode header num den pins f) fed ∙ ap (λ (l : List Record). records_give mode header num den pins how l) none
