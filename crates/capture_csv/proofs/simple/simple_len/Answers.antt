use Rattle.std.proofs.Common.{arith, ap, length, length-drop}
use Rattle.std.proofs.lemmas.List.{take_rest}
use Rattle.capture_csv.proofs.SimpleLines.{plain_begins, plain_first, plain_is_first, quoted_ends, quoted_first, quoted_is_first}
use Rattle.capture_csv.proofs.simple.simple_len.Goals as goal

pub returns-then-not-is_plain : goal.returns-then-not-is_plain
returns-then-not-is_plain c = λ begins.
    let at = c.byte_at-len.ensures in
    c.is_plain.ensures.other c.if-not-is_plain.true (plain_begins c.args.text.now c.byte_at-len.result c.if-not-is_quoted.ensures at.within at.before at.here begins)

pub returns-then-not-is_quoted : goal.returns-then-not-is_quoted
returns-then-not-is_quoted c =
    let at = c.byte_at-len.ensures in
    let text = c.args.text.now in
    let n = c.byte_at-len.result in (
      at.within,
      plain_is_first text n c.if-not-is_quoted.ensures at.within at.before at.here (c.is_plain.ensures.plain c.if-not-is_plain.false),
      plain_first text n c.if-not-is_quoted.ensures at.within at.before at.here,
    )

pub returns-then-text-len : goal.returns-then-text-len
returns-then-text-len c = λ begins.
    let at = c.byte_at-len-2.ensures in
    let text = c.args.text.now in
    let ends = quoted_ends text _ c.byte_at-len-2.result c.if-not-is_quoted.ensures (take_rest text 1) at.within at.before at.here begins in
    omega (arith, ends.0, c.if-text-len.true, ap length (take_rest text 1), length-drop 1 text)

pub returns-then-not-ends_at : goal.returns-then-not-ends_at
returns-then-not-ends_at c = λ begins.
    let at = c.byte_at-len-2.ensures in
    let text = c.args.text.now in
    c.if-not-ends_at.ensures (quoted_ends text _ c.byte_at-len-2.result c.if-not-is_quoted.ensures (take_rest text 1) at.within at.before at.here begins).1

pub returns : goal.returns
returns c =
    let at = c.byte_at-len-2.ensures in
    let text = c.args.text.now in
    let n = c.byte_at-len-2.result in
    let rest = take_rest text 1 in (
      omega (arith, at.within, c.if-text-len.false, ap length rest, length-drop 1 text, c.if-not-is_quoted.ensures.0),
      quoted_is_first text _ n c.if-not-is_quoted.ensures rest at.within at.before at.here (omega (arith, at.within, c.if-text-len.false, ap length rest, length-drop 1 text, c.if-not-is_quoted.ensures.0)) c.if-not-ends_at.ensures,
      quoted_first text _ n c.if-not-is_quoted.ensures rest at.within at.before at.here,
    )
