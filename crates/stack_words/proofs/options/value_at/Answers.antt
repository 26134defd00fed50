use Rattle.std.proofs.Common.{◌∙◌, ◌==◌, sym, ap, Option, option_map, Bor}
use Rattle.stack_words.specs.Instances.{Given}
use Rattle.stack_words.specs.Meaning.{given_of}
use Rattle.stack_words.specs.declared.instance.GivenOption.{GivenOption}
use Rattle.stack_words.proofs.ListLemmas.{find-map}
use Rattle.stack_words.proofs.options.value_at.Goals as goal

pub returns-in-Some : goal.returns-in-Some
returns-in-Some c =
    let seen = find-map (λ given. given.row == c.args.row) given_of c.args.options.now in
    sym (ap (λ (o : Option Given). option_map (λ given. given.value) o) (seen ∙ ap (λ (o : Option GivenOption). option_map given_of o) (sym c.given_for.ensures ∙ ap (λ (o : Option (Bor GivenOption)). option_map (λ given. given.now) o) c.in-Some.is)))

pub returns-in-None : goal.returns-in-None
returns-in-None c =
    let seen = find-map (λ given. given.row == c.args.row) given_of c.args.options.now in
    sym (ap (λ (o : Option Given). option_map (λ given. given.value) o) (seen ∙ ap (λ (o : Option GivenOption). option_map given_of o) (sym c.given_for.ensures ∙ ap (λ (o : Option (Bor GivenOption)). option_map (λ given. given.now) o) c.in-None.is)))
