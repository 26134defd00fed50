use Rattle.std.proofs.Common.{◌≡◌, sym, ◌∙◌, true, false}
use Rattle.stack_laws.proofs.Listing.{printed_front}
use Rattle.stack_laws.proofs.laws.prints_front.Goals as goal

pub returns : goal.returns
returns c = λ parents by slots lawful state legal going more input reads.
    printed_front parents by slots lawful state legal more input reads (λ ended. let no : true ≡ false = sym ended ∙ going in absurd cc)
