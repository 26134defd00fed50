use Rattle.std.proofs.Common.{ℕ, ◌++◌, sym, ◌∙◌, ap}
use Rattle.std.specs.Prelude.{codes}
use Rattle.std.specs.Fmt.{decimal}
use Rattle.dec_midi.specs.Texts.{note_text}
use Rattle.dec_midi.proofs.texts.text.Goals as goal

pub returns-in-7-clause-text : goal.returns-in-7-clause-text
returns-in-7-clause-text c =
    c.labelled.ensures.text
    ∙ ap (λ (n : ℕ). c.args.buf.now ++ (codes "Quarter frame: " ++ decimal n)) c.one_of.ensures.value
    ∙ ap (λ (n : ℕ). c.args.buf.now ++ note_text n c.args.note.a) (sym c.in-7.is)

pub returns-in-14-clause-text : goal.returns-in-14-clause-text
returns-in-14-clause-text c =
    c.push_labelled.ensures.text
    ∙ ap (λ (n : ℕ). c.args.buf.now ++ note_text n c.args.note.a) (sym c.in-14.is)
