use Rattle.std.proofs.Common.{◌≡◌, ◌∙◌, ◌++◌, ◌+◌, ap, sym, subst, refl, arith, List, [], ◌∷◌, ℕ, Option, Some, None, Ok, true, false, length}
use Rattle.std.proofs.lemmas.List.{append-nil}
use Rattle.la_base.specs.Samples.{samples}
use Rattle.la_base.specs.declared.samples.Run.{Run}
use Rattle.la_base.specs.declared.modes.CsvMode.TheVariants.{Rows, Times}
use Rattle.byte_feed.specs.LineReader.{text_of}
use Rattle.capture_csv.specs.Csv.{body_of}
use Rattle.capture_csv.specs.Reader.{csv_header}
use Rattle.capture_csv.specs.Records.{is_passed, without_marks}
use Rattle.capture_csv.specs.Running.{BodyStands, at_in, row_of}
use Rattle.capture_csv.specs.declared.reader.CsvReader.{CsvReader}
use Rattle.capture_csv.proofs.Answering.{answer_of, goes_passed, goes_taken}
use Rattle.capture_csv.proofs.HeldLines.{line_counts, passed_counts, timed_unheld}
use Rattle.capture_csv.proofs.Trimming.{marks_len}
use Rattle.capture_csv.proofs.reader.CsvReader.held_line.Goals as goal

pub sound_record-requires-clause-few : goal.sound_record-requires-clause-few
sound_record-requires-clause-few c = let short = c.in-Some.ensures.0.short in omega (arith, ap length c.without_marks-text.ensures, marks_len c.in-Some.line.now, short)

pub returns-then-is_passed-clause-goes : goal.returns-then-is_passed-clause-goes
returns-then-is_passed-clause-goes c =
    let s = c.args.self.now in
    let passed = c.pass.ensures in
    let at : CsvReader = record { lines = c.pass.new.self; body = s.body; names = s.names; header = s.header; phase = s.phase; is_open = s.is_open; is_row = false; row = λ e. cc; fresh = λ e. passed.spent ∙ s.fresh e; counted = λ held. absurd (let bad : true ≡ false = sym held ∙ c.requires.held in cc) } in
    let text : text_of c.pass.new.self ≡ c.in-Some.line.now = passed.text ∙ sym c.in-Some.ensures.2 in
    let over = ap (λ (l : List ℕ). is_passed (without_marks l)) text ∙ ap is_passed (sym c.without_marks-text.ensures) ∙ sym c.is_passed.ensures ∙ c.if-is_passed.true in (
      (λ bytes told given going.
          goes_passed at _ bytes told _ going.items c.pass.result going.first going.rest going.records going.head (passed.gave bytes told going.items going.lines) (omega (arith, passed.taken, going.few)) (passed.spent ∙ going.fresh) refl refl refl refl refl over
          (subst (λ (l : List ℕ). BodyStands s.body (body_of (csv_header s) going.first going.rest) l) (sym (append-nil given)) going.body)),
      passed.progress,
      passed_counts s.body.mode s.body.mode s.phase s.lines.number c.pass.new.self.number s.body.held s.body.held (at_in s.body) (at_in s.body) refl c.requires.going (passed.counted ∙ passed.number) c.requires.held refl,
    )

pub returns-in-Some-None-clause-goes : goal.returns-in-Some-None-clause-goes
returns-in-Some-None-clause-goes c =
    let s = c.args.self.now in
    let passed = c.pass-in-Some-None.ensures in
    let form = c.in-Some-None.ensures.form in
    let at : CsvReader = record { lines = c.pass-in-Some-None.new.self; body = s.body; names = s.names; header = s.header; phase = s.phase; is_open = s.is_open; is_row = false; row = λ e. cc; fresh = λ e. passed.spent ∙ s.fresh e; counted = λ held. absurd (let bad : true ≡ false = sym held ∙ c.requires.held in cc) } in
    let text : text_of c.pass-in-Some-None.new.self ≡ c.in-Some.line.now = passed.text ∙ sym c.in-Some.ensures.2 in
    let other = ap (λ (l : List ℕ). is_passed (without_marks l)) text ∙ ap is_passed (sym c.without_marks-text.ensures) ∙ sym c.is_passed.ensures ∙ c.if-is_passed.false in
    let number : c.number-number.result + 1 ≡ c.pass-in-Some-None.result = ap (λ (n : ℕ). n + 1) c.number-number.ensures ∙ sym passed.number in
    let is = ap (λ (o : Option Run). Ok o) c.in-Some-None.field-0-is in
    let counts = rw c.in-Some-None.field-0-is at c.in-Some-None.ensures.counts in (
      (λ bytes told given going.
          let records = body_of (csv_header s) going.first going.rest in
          goes_taken at _ bytes told _ going.items c.pass-in-Some-None.result going.first going.rest going.records going.head (passed.gave bytes told going.items going.lines) (omega (arith, passed.taken, going.few)) (passed.spent ∙ going.fresh) refl form.mode refl form.want refl other
          (subst (λ (n : ℕ). BodyStands c.sound_record.new.self (records ++ row_of n (without_marks (text_of c.pass-in-Some-None.new.self)) ∷ []) (given ++ [])) number
          (answer_of c.sound_record.new.self records given (c.number-number.result + 1) _ _ _ _ None (c.without_marks-text.ensures ∙ ap without_marks (sym text)) is (c.in-Some-None.ensures.says records given going.body c.requires.held) refl))),
      passed.progress,
      passed_counts s.body.mode c.sound_record.new.self.mode s.phase s.lines.number c.pass-in-Some-None.new.self.number s.body.held c.sound_record.new.self.held (at_in s.body) (at_in c.sound_record.new.self) form.mode c.requires.going (passed.counted ∙ passed.number) c.requires.held (omega (arith, counts)),
    )

pub returns-in-Some-Some-clause-goes : goal.returns-in-Some-Some-clause-goes
returns-in-Some-Some-clause-goes c =
    let s = c.args.self.now in
    let passed = c.pass-in-Some-Some.ensures in
    let form = c.in-Some-Some.ensures.form in
    let run = c.in-Some-Some.run' in
    let at : CsvReader = record { lines = c.pass-in-Some-Some.new.self; body = s.body; names = s.names; header = s.header; phase = s.phase; is_open = s.is_open; is_row = false; row = λ e. cc; fresh = λ e. passed.spent ∙ s.fresh e; counted = λ held. absurd (let bad : true ≡ false = sym held ∙ c.requires.held in cc) } in
    let text : text_of c.pass-in-Some-Some.new.self ≡ c.in-Some.line.now = passed.text ∙ sym c.in-Some.ensures.2 in
    let other = ap (λ (l : List ℕ). is_passed (without_marks l)) text ∙ ap is_passed (sym c.without_marks-text.ensures) ∙ sym c.is_passed.ensures ∙ c.if-is_passed.false in
    let number : c.number-number.result + 1 ≡ c.pass-in-Some-Some.result = ap (λ (n : ℕ). n + 1) c.number-number.ensures ∙ sym passed.number in
    let is = ap (λ (o : Option Run). Ok o) c.in-Some-Some.field-0-is in
    let times = rw c.in-Some-Some.field-0-is at c.in-Some-Some.ensures.rows in
    let counts = rw c.in-Some-Some.field-0-is at c.in-Some-Some.ensures.counts in (
      (λ bytes told given going.
          let records = body_of (csv_header s) going.first going.rest in
          goes_taken at _ bytes told _ going.items c.pass-in-Some-Some.result going.first going.rest going.records going.head (passed.gave bytes told going.items going.lines) (omega (arith, passed.taken, going.few)) (passed.spent ∙ going.fresh) refl form.mode refl form.want refl other
          (subst (λ (n : ℕ). BodyStands c.sound_record.new.self (records ++ row_of n (without_marks (text_of c.pass-in-Some-Some.new.self)) ∷ []) (given ++ samples run)) number
          (answer_of c.sound_record.new.self records given (c.number-number.result + 1) _ _ _ _ (Some run) (c.without_marks-text.ensures ∙ ap without_marks (sym text)) is (c.in-Some-Some.ensures.says records given going.body c.requires.held) refl))),
      timed_unheld c.sound_record.new.self (form.mode ∙ times),
      line_counts s.body.mode c.sound_record.new.self.mode s.phase s.lines.number c.pass-in-Some-Some.new.self.number s.body.held c.sound_record.new.self.held (at_in s.body) (at_in c.sound_record.new.self) run.len form.mode c.requires.going (passed.counted ∙ passed.number) c.requires.held (omega (arith, counts)) (λ e. absurd (let bad : Rows ≡ Times = sym e ∙ times in cc)),
    )
