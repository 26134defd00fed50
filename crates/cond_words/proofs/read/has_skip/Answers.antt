use Rattle.std.proofs.Common.{◌∙◌, rules, tests, sym}
use Rattle.std.proofs.lemmas.Iterator.{YieldsList-from_slice}
use Rattle.std.proofs.lemmas.Iterator.Search.{any_from_yields_List}
use Rattle.text_parts.proofs.ReadLemmas.{list_any-map}
use Rattle.cond_words.specs.Words.{meaning_of}
use Rattle.cond_words.specs.Grammar.{is_skip}
use Rattle.cond_words.proofs.read.has_skip.Goals as goal

pub returns : goal.returns
returns c =
    any_from_yields_List (λ term. is_skip (meaning_of term)) _ _ _ c.any.ensures.ran (YieldsList-from_slice c.args.terms.now (cc)) (λ x b q k. search (rules, tests))
    ∙ sym (list_any-map is_skip meaning_of c.args.terms.now)
