use Rattle.std.proofs.Common.{◌≡◌, ◌∙◌, ap, Some, None}
use Rattle.std.specs.Option.{option_or}
use Rattle.clap.specs.Words.{first_of, first_value, found_of}
use Rattle.clap.proofs.WalkLemmas.{first_value-rows}
use Rattle.words.specs.Options.{row}
use Rattle.words.proofs.Rows.{first_of-uses, given_text}
use Rattle.words.proofs.command.value.Goals as goal

pub returns-in-Some : goal.returns-in-Some
returns-in-Some c uses e =
    let given : Some c.in-Some.text.now ≡ given_text c.args.name uses =
    c.in-Some.ensures ∙ ap (λ r. first_value (found_of c.args.matches.now) r.name) c.row-row.ensures ∙ first_value-rows (found_of c.args.matches.now) (row c.args.name).name
    ∙ ap (first_of (row c.args.name).name) e ∙ first_of-uses c.args.name uses in
    ap (λ o. option_or o (row c.args.name).usual) given

pub returns-in-None : goal.returns-in-None
returns-in-None c uses e =
    let none : None ≡ given_text c.args.name uses =
    c.in-None.ensures ∙ ap (λ r. first_value (found_of c.args.matches.now) r.name) c.row-row.ensures ∙ first_value-rows (found_of c.args.matches.now) (row c.args.name).name
    ∙ ap (first_of (row c.args.name).name) e ∙ first_of-uses c.args.name uses in
    ap (λ r. r.usual) c.row-row.ensures ∙ ap (λ o. option_or o (row c.args.name).usual) none
