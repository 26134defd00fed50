use Rattle.std.proofs.Common.{◌∙◌, ap, sym}
use Rattle.capture_make.specs.Made.{next_number}
use Rattle.capture_make.proofs.Numbers.{number_zero, number_more}
use Rattle.capture_make.proofs.drawing.draw.Goals as goal

pub loop-init : goal.loop-init
loop-init c = (sym (number_zero c.args.seed), c.requires.seed)

pub loop-preserved : goal.loop-preserved
loop-preserved c =
    (c.next_number-number.ensures.next ∙ ap next_number c.loop.invariant.0 ∙ sym (number_more c.args.seed c.loop.counter), c.next_number-number.ensures.small)
