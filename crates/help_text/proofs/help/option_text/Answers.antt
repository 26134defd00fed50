use Rattle.std.proofs.Common.{◌≡◌, Bor, List, MatchOption, None, Option, Some, ℕ, subst, ◌∙◌, ap}
use Rattle.std.specs.Prelude.{codes, option_map, unwrap_or}
use Rattle.std.specs.String.{string_bytes}
use Rattle.words.specs.Options.{Row}
use Rattle.help_text.specs.Help.{TellsOption, option_lines}
use Rattle.help_text.proofs.Telling.{if_ok}
use Rattle.help_text.proofs.help.option_text.Goals as goal

usual_is : (usual : Option (Bor (List ℕ))) (text : List ℕ) → MatchOption usual (text ≡ codes "none") (λ given. text ≡ given.now) → text ≡ unwrap_or (option_map (λ (given : Bor (List ℕ)). given.now) usual) (codes "none")
usual_is None text is = is
usual_is (Some given) text is = is

pub returns : goal.returns
returns c =
    let row = c.row-row.result in
    let sets = c.as_str.result.now in
    let values = c.as_str-2.result.now in
    if_ok c.option_lines.result _ (λ text. TellsOption c.args.name (string_bytes text)) (λ text is.
    subst (λ (r : Row). (sets values : List ℕ) × (string_bytes text ≡ option_lines r.name sets values (unwrap_or r.usual (codes "none"))))
    c.row-row.ensures (sets, values, is ∙ ap (λ (u : List ℕ). option_lines row.name.now sets values u) (usual_is row.usual c.usual_text-usual.result.now c.usual_text-usual.ensures))) c.option_lines.ensures
