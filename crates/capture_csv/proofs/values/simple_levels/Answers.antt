use Rattle.std.proofs.Common.{◌∙◌, refl, arith, length-set, true, false}
use Rattle.std.proofs.lemmas.List.{take_rest}
use Rattle.capture_csv.proofs.DigitLines.{digits_read}
use Rattle.capture_csv.proofs.FieldLevels.{half_done, none_read, simple_begins, simple_fault, simple_next}
use Rattle.capture_csv.proofs.SimpleLines.{first_taken}
use Rattle.capture_csv.proofs.values.simple_levels.Goals as goal

pub returns-then-are_digits-clause-levels : goal.returns-then-are_digits-clause-levels
returns-then-are_digits-clause-levels c = λ fields line same.
    let digits = c.are_digits.ensures.digits c.if-are_digits.true in
    digits_read false c.args.text.now c.put_digits.new.levels c.args.column c.put_digits.ensures.digits (omega (arith, digits.some, c.put_digits.ensures.len)) fields line

pub returns-then-are_quoted-clause-levels : goal.returns-then-are_quoted-clause-levels
returns-then-are_quoted-clause-levels c = λ fields line same.
    let digits = c.are_quoted.ensures.digits c.if-are_quoted.true in
    digits_read true c.args.text.now c.put_quoted.new.levels c.args.column c.put_quoted.ensures.digits (omega (arith, digits.some, c.put_quoted.ensures.len)) fields line

pub loop-k-init : goal.loop-k-init
loop-k-init c = record {
  within = omega arith;
  same = refl;
  read = λ fields line same. none_read c.args.text.now c.args.column fields c.args.levels.now line same;
}

pub first_len-len-requires : goal.first_len-len-requires
first_len-len-requires c =
    let inv = c.loop-k.invariant in
    let some = c.requires.some in
    simple_begins c.args.text.now _ c.loop-k.from c.args.column c.loop-k.k some.0 c.loop-k.levels (take_rest c.args.text.now c.loop-k.from) (inv.read some.0 some.1 some.2) (omega (arith, inv.same, c.loop-k-test.true))

pub text_in-requires : goal.text_in-requires
text_in-requires c =
    let inv = c.loop-k.invariant in
    let some = c.requires.some in
    first_taken _ c.first_len-len.result
    (simple_begins c.args.text.now _ c.loop-k.from c.args.column c.loop-k.k some.0 c.loop-k.levels (take_rest c.args.text.now c.loop-k.from) (inv.read some.0 some.1 some.2) (omega (arith, inv.same, c.loop-k-test.true)))
    c.first_len-len.ensures.first

pub returns-in-None-clause-levels : goal.returns-in-None-clause-levels
returns-in-None-clause-levels c = λ fields line same.
    let inv = c.loop-k.invariant in
    simple_fault c.args.text.now _ c.loop-k.from c.args.column c.loop-k.k fields c.loop-k.levels (take_rest c.args.text.now c.loop-k.from) (inv.read fields line same) (omega (arith, inv.same, c.loop-k-test.true))
    c.first_len-len.result c.first_len-len.ensures.first c.text_in.result.now c.text_in.ensures c.in-None.ensures

pub loop-k-preserved : goal.loop-k-preserved
loop-k-preserved c =
    let inv = c.loop-k.invariant in
    record {
      within = omega (arith, c.min-from.ensures);
      same = length-set c.loop-k.levels c.loop-k.k c.in-Some.level ∙ inv.same;
      read = λ fields line same.
          simple_next c.args.text.now _ c.loop-k.from c.args.column c.loop-k.k fields c.loop-k.levels (take_rest c.args.text.now c.loop-k.from) (inv.read fields line same) (omega (arith, inv.same, c.loop-k-test.true))
          c.first_len-len.result c.first_len-len.ensures.first c.text_in.result.now c.text_in.ensures c.in-Some.level c.min-from.result c.in-Some.ensures c.min-from.ensures;
    }

pub returns-clause-levels : goal.returns-clause-levels
returns-clause-levels c = λ fields line same.
    let read = c.loop-k.invariant.read fields line same in
    half_done c.args.column fields c.loop-k.levels c.loop-k.k _ read.half (omega (arith, c.loop-k.invariant.same, c.loop-k-test.false))
