use Rattle.std.proofs.Common.{◌≡◌, ◌∙◌, ap, sym, subst, refl, arith, length, map, [], ◌∷◌, None, List, ℕ}
use Rattle.std.proofs.lemmas.List.{length-map}
use Rattle.capture_csv.specs.Digits.{AreDigits, digit_of}
use Rattle.capture_csv.specs.Fields.{fields_in}
use Rattle.capture_csv.specs.Modes.{skips}
use Rattle.capture_csv.specs.Records.{is_passed, trimmed}
use Rattle.capture_csv.specs.Values.{LevelsRead}
use Rattle.la_base.specs.declared.modes.CsvMode.TheVariants.{Rows}
use Rattle.capture_csv.proofs.DigitLines.{digits_bare, digits_line, digits_read, digits_some}
use Rattle.capture_csv.proofs.Lines.{found_of, still_stands}
use Rattle.capture_csv.proofs.Plain.{line_read}
use Rattle.capture_csv.proofs.body.Body.row.Goals as goal

pub returns-clause-says : goal.returns-clause-says
returns-clause-says c = λ yes line records given st held.
    let s = c.args.self.now in
    let mid = c.put_line.new.self in
    let form = c.put_line.ensures.form in
    let text = c.args.text.now in
    let levels = mid.levels.items in
    let put = c.put_line.ensures.put c.if-not-put_line.false in
    let fields : List (List ℕ) = map (λ level. digit_of level ∷ []) levels in
    let simple = digits_line c.args.quoted text levels put.1 in
    let read = line_read text fields (omega (arith, ap length put.1, digits_some c.args.quoted levels put.0)) simple in
    let rows = form.mode ∙ c.requires in
    let all : length levels ≡ mid.want = omega (arith, mid.fits, ap skips rows) in
    c.put_row.ensures.says line (record { time = None; bad = None }) refl s.levels.items (map trimmed (fields_in text)) records given
    (length-map (fields_in text) trimmed ∙ ap length read ∙ length-map levels (λ level. digit_of level ∷ []) ∙ all)
    (found_of Rows mid.mode _ _ _ _ rows (sym read) (digits_read c.args.quoted text levels 1 put.1 put.0 fields simple))
    (still_stands s mid records given form st) (form.held ∙ held)

pub returns-clause-row : goal.returns-clause-row
returns-clause-row c = λ yes.
    let mid = c.put_line.new.self in
    let new = c.put_row.new.self in
    let form = c.put_row.ensures.form in
    let text = c.args.text.now in
    let levels = mid.levels.items in
    let put = c.put_line.ensures.put c.if-not-put_line.false in
    let fields : List (List ℕ) = map (λ level. digit_of level ∷ []) levels in
    let simple = digits_line c.args.quoted text levels put.1 in
    let read = line_read text fields (omega (arith, ap length put.1, digits_some c.args.quoted levels put.0)) simple in
    let rows = c.put_line.ensures.form.mode ∙ c.requires in
    let all : length levels ≡ mid.want = omega (arith, mid.fits, ap skips rows) in
    record {
      rows = form.mode ∙ rows;
      some = ap is_passed put.1 ∙ (digits_bare c.args.quoted levels put.0).1;
      all = ap length read ∙ length-map levels (λ level. digit_of level ∷ []) ∙ all ∙ sym form.want;
      levels = coe 0 1 (i. LevelsRead 1 (map trimmed (sym read i)) (sym c.put_row.ensures.levels i).items None) (digits_read c.args.quoted text levels 1 put.1 put.0 fields simple);
      word = c.put_row.ensures.word;
    }

pub returns-then-not-put_line-clause-other : goal.returns-then-not-put_line-clause-other
returns-then-not-put_line-clause-other c = λ e digits.
    let s = c.args.self.now in
    let all : s.want ≡ length s.levels.items = omega (arith, s.fits, ap skips c.requires) in
    c.put_line.ensures.other c.if-not-put_line.true (subst (λ (n : ℕ). AreDigits c.args.quoted c.args.text.now n) all digits)
