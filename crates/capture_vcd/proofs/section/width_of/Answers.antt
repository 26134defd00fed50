use Rattle.std.proofs.Common.{◌∙◌, arith, ap, sym, subst, List, ℕ, Err}
use Rattle.capture_vcd.specs.Header.{has_no_channel, is_code}
use Rattle.capture_vcd.specs.Gathered.{WidthGives}
use Rattle.capture_vcd.proofs.Declaring.{variable_fault}
use Rattle.capture_vcd.proofs.section.width_of.Goals as goal

pub returns-in-Err : goal.returns-in-Err
returns-in-Err c =
    variable_fault c.args.at c.args.before c.args.words.now _ _ _ c.in-Err.fault (omega (arith, c.if-words-lt4.false))
    (sym (ap is_code c.deref.ensures.value) ∙ sym c.is_code.ensures ∙ c.if-not-is_code.false)
    (sym (ap has_no_channel c.deref-2.ensures.value) ∙ sym c.has_no_channel.ensures ∙ c.if-has_no_channel.false)
    (subst (λ (l : List ℕ). WidthGives c.args.at c.args.before l (Err c.in-Err.fault)) c.deref-3.ensures.value c.in-Err.ensures)
