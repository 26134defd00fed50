use Rattle.std.proofs.Common.{◌≡◌, ◌++◌, ◌∷◌, [], refl, rules, ap, map, ◌∙◌}
use Rattle.text_parts.specs.Chains.{chain_of}
use Rattle.words.proofs.Kept.{chains_more}
use Rattle.words.proofs.chains.chains.Goals as goal

pub loop-place-preserved : goal.loop-place-preserved
loop-place-preserved c uses numbers texts =
    let pushed : c.push.new.self.items ≡ c.loop-place.chains.items ++ c.in_ok-chain_word.field-0 ∷ [] = search rules in
    ap (map chain_of) pushed
    ∙ chains_more c.loop-place.chains.items c.in_ok-chain_word.field-0 uses c.args.numbers.now c.args.texts.now c.loop-place.place _ refl c.loop-place-test.true numbers texts (c.loop-place.invariant uses numbers texts) c.in_ok-chain_word.ensures
