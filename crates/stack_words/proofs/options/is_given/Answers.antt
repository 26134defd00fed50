use Rattle.std.proofs.Common.{◌∙◌, sym, ap, Option, map, is_some, ◌==◌}
use Rattle.std.specs.List.{find}
use Rattle.stack_words.specs.Instances.{Given}
use Rattle.stack_words.specs.Meaning.{given_of}
use Rattle.stack_words.proofs.ListLemmas.{find-map, is_some-option_map}
use Rattle.stack_words.proofs.options.is_given.Goals as goal

pub returns : goal.returns
returns c =
    let options = c.args.options.now in
    let row = c.args.row in
    let own = find (λ given. given.row == row) options in
    let seen = find (λ given. given.row == row) (map given_of options) in
    c.is_some.ensures
    ∙ sym (is_some-option_map (λ given. given.now) c.given_for.result)
    ∙ ap is_some c.given_for.ensures
    ∙ sym (is_some-option_map given_of own)
    ∙ sym (ap (λ (o : Option Given). is_some o) (find-map (λ given. given.row == row) given_of options))
    ∙ sym (is_some-option_map (λ given. given.value) seen)
