-- Rows that repeat the one before them.
use Rattle.std.proofs.Common.{◌≡◌, ℕ, zero, suc, ◌+◌, List, [], ◌∷◌, ◌++◌, map, replicate, refl, sym, ◌∙◌, ap, subst, arith, append_assoc, None, Bool, true, false}
use Rattle.std.proofs.lemmas.Bool.{cond-false}
use Rattle.std.proofs.lemmas.List.{append-nil, length-map, replicate-append-replicate}
use Rattle.byte_feed.specs.Lines.{repeated}
use Rattle.byte_feed.specs.LineReader.{GaveAgain, is_spent, number_of, taken_of, text_of}
use Rattle.la_base.specs.declared.modes.CsvMode.{CsvMode}
use Rattle.capture_csv.specs.Csv.{body_of}
use Rattle.capture_csv.specs.Fields.{fields_in}
use Rattle.capture_csv.specs.Reader.{FirstIs, GoesHeld, csv_header, csv_names}
use Rattle.capture_csv.specs.Records.{Record, is_passed, record_of, records_in, trimmed, without_marks}
use Rattle.capture_csv.specs.Running.{BodyAt, BodyStands, FoundIs, IsRow, held_in, mode_in, pins_in, row_of, want_in}
use Rattle.capture_csv.specs.declared.body.Body.{Body}
use Rattle.capture_csv.specs.declared.reader.CsvReader.{CsvReader}
use Rattle.capture_csv.specs.declared.span.Found.{Found}
use Rattle.capture_csv.proofs.Answering.{body_more}
use Rattle.capture_csv.proofs.Longer.{records_more}
use Rattle.capture_csv.proofs.Taking.{flushed, row_said, row_taken, said}

-- one sample more of the same value, and so many
pub run_again : (len value more word : ℕ) → word ≡ value → replicate len value ++ replicate more word ≡ replicate (len + more) value
run_again len value more word same = ap (λ (w : ℕ). replicate len value ++ replicate more w) same ∙ replicate-append-replicate len more value

module _ (body : Body) (text : List ℕ) (row : IsRow body (without_marks text)) (held : held_in body ≡ false) where
  -- one row more is one sample more
  one_row : (line : ℕ) (records : List Record) (given : List ℕ) → BodyStands body records given → BodyStands body (records ++ row_of line (without_marks text) ∷ []) (given ++ body.word ∷ [])
  one_row line records given st =
      let fields : List (List ℕ) = map trimmed (fields_in (without_marks text)) in
      let levels = body.levels.items in
      let found : Found = record { time = None; bad = None } in
      let found_is : FoundIs body.mode fields levels found = subst (λ (m : CsvMode). FoundIs m fields levels found) (sym row.rows) row.levels in
      let says = said body.mode body.rate.num body.rate.den body.want records st.taken line fields st.read (length-map (fields_in (without_marks text)) trimmed ∙ row.all)
      ∙ (row_said body.mode body.rate.num body.rate.den line st.taken fields levels found row.rows found_is).1 refl in
      let taken = row_taken body.mode body.rate body.want (pins_in body) levels levels body.word body.word body.span body.held records given line fields row.rows st held says row.word in
      let gave = flushed body.mode body.rate body.want (pins_in body) levels body.word body.span true (records ++ (line, fields) ∷ []) (given ++ []) (body.word ∷ []) refl refl taken in
      coe 0 1 (i. BodyAt body.mode body.rate body.want (pins_in body) levels body.word body.span (sym held i) (records ++ (line, fields) ∷ []) (append-nil given i ++ body.word ∷ [])) gave

  -- and so many are so many
  rows_again : (count lines : ℕ) (records : List Record) (given : List ℕ) → BodyStands body records given → BodyStands body (records ++ records_in (repeated lines text count)) (given ++ replicate count body.word)
  rows_again zero lines records given st = coe 0 1 (i. BodyStands body (sym (append-nil records) i) (sym (append-nil given) i)) st
  rows_again (suc count) lines records given st =
      let one = row_of (lines + 1) (without_marks text) in
      let others = records_in (repeated (lines + 1) text count) in
      let rest = rows_again count (lines + 1) (records ++ one ∷ []) (given ++ body.word ∷ []) (one_row (lines + 1) records given st) in
      let is : record_of (lines + 1, text) ≡ one ∷ [] = cond-false (is_passed (without_marks text)) [] (one ∷ []) row.some in
      let all : (records ++ one ∷ []) ++ others ≡ records ++ (record_of (lines + 1, text) ++ others) = append_assoc records (one ∷ []) others ∙ ap (λ (l : List Record). records ++ (l ++ others)) (sym is) in
      let more : (given ++ body.word ∷ []) ++ replicate count body.word ≡ given ++ replicate (suc count) body.word = append_assoc given (body.word ∷ []) (replicate count body.word) in
      coe 0 1 (i. BodyStands body (all i) (more i)) rest

-- the lines that were given again are rows of the body
pub rows_go : (old new : CsvReader) (count : ℕ) → old.is_row ≡ true → held_in old.body ≡ false → new.body ≡ old.body → csv_header new ≡ csv_header old → csv_names new ≡ csv_names old
    → GaveAgain old.lines new.lines count → is_spent new.lines ≡ is_spent old.lines → taken_of new.lines ≡ taken_of old.lines → GoesHeld old new (replicate count old.body.word)
rows_go old new count is held body header names gave spent taken bytes told given going =
    let lines = repeated (number_of old.lines) (text_of old.lines) count in
    let few = going.few in
    let body_is = rows_again old.body (text_of old.lines) (old.row is) held count (number_of old.lines) (body_of (csv_header old) going.first going.rest) given going.body in
    let all : body_of (csv_header old) going.first going.rest ++ records_in lines ≡ body_of (csv_header new) going.first (going.rest ++ records_in lines) =
    sym (body_more (csv_header old) going.first going.rest (records_in lines)) ∙ ap (λ (h : Bool). body_of h going.first (going.rest ++ records_in lines)) (sym header) in
    record {
      items = going.items ++ lines;
      first = going.first;
      rest = going.rest ++ records_in lines;
      records = records_more going.items lines ∙ ap (λ (l : List Record). l ++ records_in lines) going.records;
      head = coe 0 1 (i. FirstIs (mode_in (sym body i)) (sym header i) (want_in (sym body i)) (sym names i) going.first) going.head;
      fresh = spent ∙ going.fresh;
      lines = gave bytes told going.items going.lines;
      few = omega (arith, few, taken);
      body = coe 0 1 (i. BodyStands (sym body i) (all i) (given ++ replicate count old.body.word)) body_is;
    }
