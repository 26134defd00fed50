use Rattle.std.proofs.Common.{rules, tests, not}
use Rattle.std.specs.Prelude.{is_some}
use Rattle.std.proofs.lemmas.Iterator.{YieldsList-from_map, YieldsList-from_slice, items_from_collect}
use Rattle.std.proofs.lemmas.Iterator.Consumers.{YieldsList-at, YieldsList-from_filter}
use Rattle.words.proofs.chains.numbers.Goals as goal

pub returns : goal.returns
returns c = items_from_collect c.collect.result c.collect.ensures.ran
    (YieldsList-from_map _ (λ g. g.word) (YieldsList-at c.map.ensures.source (YieldsList-from_filter _ (λ g. not (is_some g.name)) (YieldsList-at c.filter.ensures.source (YieldsList-from_slice c.args.uses.now c.iter.ensures.rest)) c.filter.ensures.closure (λ x b q k. search (rules, tests)))) c.map.ensures.closure (λ x r q k. search (rules, tests)))
