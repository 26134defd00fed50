use Rattle.std.proofs.Common.{◌∙◌, rules, tests, sym}
use Rattle.std.proofs.lemmas.Iterator.{YieldsList-from_slice}
use Rattle.std.proofs.lemmas.Iterator.Search.{any_from_yields_List}
use Rattle.text_parts.proofs.ReadLemmas.{list_any-map}
use Rattle.words.specs.Given.{used_of}
use Rattle.words.specs.Uses.{is_of}
use Rattle.words.proofs.rules.is_given.Goals as goal

pub returns : goal.returns
returns c =
    any_from_yields_List (λ given. is_of c.args.name (used_of given).name) _ _ _ c.any.ensures.ran (YieldsList-from_slice c.args.before.now (cc)) (λ x b q k. search (rules, tests))
    ∙ sym (list_any-map (λ u. is_of c.args.name u.name) used_of c.args.before.now)
