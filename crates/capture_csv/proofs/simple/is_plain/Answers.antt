use Rattle.std.proofs.Common.{sym, subst, List, ℕ}
use Rattle.std.proofs.lemmas.List.{take_more}
use Rattle.capture_csv.specs.Plain.{IsPlain}
use Rattle.capture_csv.proofs.Plain.{plain_at, plain_more}
use Rattle.capture_csv.proofs.simple.is_plain.Goals as goal

pub loop-byte-preserved : goal.loop-byte-preserved
loop-byte-preserved c = subst (λ (l : List ℕ). IsPlain l) (sym (take_more c.args.text.now c.loop-byte.byte-index 0 c.loop-byte-test.true)) (plain_more _ _ c.loop-byte.invariant (c.is_plain_byte.ensures.plain c.if-not-is_plain_byte.false))

pub returns-then-not-is_plain_byte-clause-other : goal.returns-then-not-is_plain_byte-clause-other
returns-then-not-is_plain_byte-clause-other c = λ e plain. c.is_plain_byte.ensures.other c.if-not-is_plain_byte.true (plain_at c.args.text.now c.loop-byte.byte-index plain c.loop-byte-test.true)
