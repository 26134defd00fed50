use Rattle.std.proofs.Common.{◌≡◌, true, Ok, sym, ◌∙◌, ap, rules}
use Rattle.la_base.specs.Naming.{number_after}
use Rattle.text_parts.specs.Numbers.{is_number}
use Rattle.text_parts.proofs.NumberLemmas.{parsed, accepted, outside}
use Rattle.text_parts.proofs.numbers.number_in.Goals as goal

pub returns-in_default-clause-gives : goal.returns-in_default-clause-gives
returns-in_default-clause-gives c =
    let e : is_number c.args.text.now ≡ true = search rules in
    let p = parsed c.args.text.now c.parse.result c.parse.ensures.value.0 e c.if-text-gt-MOST_DIGITS.false in
    absurd (c.in_default.not-Ok _ p)

pub returns-then-number-least-clause-gives : goal.returns-then-number-least-clause-gives
returns-then-number-least-clause-gives c =
    let e : is_number c.args.text.now ≡ true = search rules in
    let p = parsed c.args.text.now c.parse.result c.parse.ensures.value.0 e c.if-text-gt-MOST_DIGITS.false in
    let n : c.in-Ok.number ≡ number_after 0 c.args.text.now = cc in
    sym (outside c.args.text.now _ _ e c.if-text-gt-MOST_DIGITS.false (rw n at c.then-number-least.either))

pub returns-clause-gives : goal.returns-clause-gives
returns-clause-gives c =
    let e : is_number c.args.text.now ≡ true = search rules in
    let p = parsed c.args.text.now c.parse.result c.parse.ensures.value.0 e c.if-text-gt-MOST_DIGITS.false in
    let n : c.in-Ok.number ≡ number_after 0 c.args.text.now = cc in
    ap Ok n ∙ sym (accepted c.args.text.now _ _ e c.if-text-gt-MOST_DIGITS.false (rw n at c.if-number-least.false) (rw n at c.if-most-number.false))
