use Rattle.std.proofs.Common.{◌∙◌, rules, tests, sym}
use Rattle.std.specs.Str.{bytes_eq}
use Rattle.std.proofs.lemmas.Iterator.{YieldsList-from_slice}
use Rattle.std.proofs.lemmas.Iterator.Search.{any_from_yields_List}
use Rattle.text_parts.proofs.ReadLemmas.{list_any-map}
use Rattle.words.proofs.values.is_choice.Goals as goal

pub returns : goal.returns
returns c =
    any_from_yields_List (λ choice. bytes_eq choice.now c.args.value.now) _ _ _ c.any.ensures.ran (YieldsList-from_slice c.args.choices.now (cc)) (λ x b q k. search (rules, tests))
    ∙ sym (list_any-map (λ choice. bytes_eq choice c.args.value.now) (λ choice. choice.now) c.args.choices.now)
