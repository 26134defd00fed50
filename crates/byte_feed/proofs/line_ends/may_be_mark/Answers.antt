use Rattle.std.proofs.Common.{sym, ◌∙◌, arith}
use Rattle.byte_feed.proofs.Marks.{mark_front}
use Rattle.byte_feed.proofs.line_ends.may_be_mark.Goals as goal

pub returns-then-bytes-lt3-clause-may : goal.returns-then-bytes-lt3-clause-may
returns-then-bytes-lt3-clause-may c = λ is. mark_front c.args.bytes.now (omega (arith, c.if-bytes-lt3.true)) (sym c.starts_with.ensures.value ∙ is)
