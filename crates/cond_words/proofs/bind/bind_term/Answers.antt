use Rattle.std.proofs.Common.{◌≡◌, List, ℕ, Option, sym, ◌∙◌, ap, subst}
use Rattle.std.specs.String.{string_bytes}
use Rattle.la_base.specs.Naming.{find_channel}
use Rattle.la_base.specs.declared.samples.TheConstants.{MOST_PINS}
use Rattle.cond_words.specs.Steps.{LineStep, TermStep}
use Rattle.cond_words.specs.Words.{meaning_of}
use Rattle.cond_words.specs.declared.words.Term.{Term}
use Rattle.cond_words.proofs.bind.bind_term.Goals as goal

pub returns-in-Line : goal.returns-in-Line
returns-in-Line c =
    let a = c.args in
    let found : c.find.result ≡ find_channel a.names.now (string_bytes c.in-Line.reference) = c.find.ensures ∙ ap (λ (l : List ℕ). find_channel a.names.now l) c.as_bytes.ensures.value in
    let step = subst (λ (o : Option ℕ). LineStep MOST_PINS a.pins.now.items c.bind_line.new.pins.items a.alt.now c.bind_line.new.alt c.in-Line.letter o c.bind_line.result) found c.bind_line.ensures in
    subst (λ (t : Term). TermStep MOST_PINS a.names.now a.pins.now.items c.bind_line.new.pins.items a.alt.now c.bind_line.new.alt (meaning_of t) c.bind_line.result) (sym c.in-Line.is) step
