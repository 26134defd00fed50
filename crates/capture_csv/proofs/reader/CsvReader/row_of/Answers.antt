use Rattle.std.proofs.Common.{◌≡◌, ◌∙◌, ◌++◌, ap, sym, subst, refl, arith, List, [], ◌∷◌, ℕ, true, false}
use Rattle.capture_csv.specs.Csv.{body_of}
use Rattle.capture_csv.specs.Reader.{csv_header}
use Rattle.capture_csv.specs.Records.{is_passed, without_marks}
use Rattle.capture_csv.specs.Running.{BodyStands, IsRow, row_of}
use Rattle.byte_feed.specs.LineReader.{rest_of, text_of}
use Rattle.capture_csv.specs.declared.reader.CsvReader.{CsvReader}
use Rattle.capture_csv.proofs.Answering.{goes_taken}
use Rattle.capture_csv.proofs.DigitLines.{digits_bare, digits_one}
use Rattle.capture_csv.proofs.reader.CsvReader.row_of.Goals as goal

pub pass-requires-clause-one : goal.pass-requires-clause-one
pass-requires-clause-one c =
    let digits = c.row.ensures.digits c.if-not-row.false in
    digits_one (rest_of c.args.self.now.lines) c.in-Some.text.now c.row_len-len.result c.args.quoted digits.0 c.in-Some.ensures.0.held c.in-Some.ensures.1 digits.2

pub invariant_of-self-2-clause-row : goal.invariant_of-self-2-clause-row
invariant_of-self-2-clause-row c = λ yes.
    let digits = c.row.ensures.digits c.if-not-row.false in
    let text : text_of c.pass.new.self ≡ c.in-Some.text.now = c.pass.ensures.text ∙ sym c.in-Some.ensures.1 in
    let same : without_marks (text_of c.pass.new.self) ≡ c.in-Some.text.now = ap without_marks (text ∙ digits.2) ∙ (digits_bare c.args.quoted digits.0 digits.1).0 ∙ sym digits.2 in
    subst (λ (l : List ℕ). IsRow c.row.new.self l) (sym same) (c.row.ensures.row c.if-not-row.false)

pub returns-clause-goes : goal.returns-clause-goes
returns-clause-goes c = λ yes bytes told given going.
    let s = c.args.self.now in
    let passed = c.pass.ensures in
    let digits = c.row.ensures.digits c.if-not-row.false in
    let form = c.row.ensures.form in
    let at : CsvReader = record { lines = c.pass.new.self; body = s.body; names = s.names; header = s.header; phase = s.phase; is_open = s.is_open; is_row = false; row = λ e. cc; fresh = λ e. passed.spent ∙ s.fresh e; counted = λ held. absurd (let bad : true ≡ false = sym held ∙ c.requires.held in cc) } in
    let text : text_of c.pass.new.self ≡ c.in-Some.text.now = passed.text ∙ sym c.in-Some.ensures.1 in
    let bare = digits_bare c.args.quoted digits.0 digits.1 in
    let same : without_marks (text_of c.pass.new.self) ≡ c.in-Some.text.now = ap without_marks (text ∙ digits.2) ∙ bare.0 ∙ sym digits.2 in
    let records = body_of (csv_header s) going.first going.rest in
    goes_taken at _ bytes told _ going.items c.pass.result going.first going.rest going.records going.head (passed.gave bytes told going.items going.lines) (omega (arith, passed.taken, going.few)) (passed.spent ∙ going.fresh) refl form.mode refl form.want refl
    (ap is_passed (same ∙ digits.2) ∙ bare.1)
    (subst (λ (l : List ℕ). BodyStands c.row.new.self (records ++ row_of c.pass.result l ∷ []) (given ++ [])) (sym same) (c.row.ensures.says c.if-not-row.false c.pass.result records given going.body c.requires.held))
