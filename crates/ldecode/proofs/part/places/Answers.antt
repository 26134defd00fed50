use Rattle.std.proofs.Common.{◌≡◌, ◌+◌, suc, ◌++◌, ◌∷◌, [], ℕ, map, take, sym, ap, ◌∙◌, rules, arith}
use Rattle.stack_words.specs.Instances.{Instance}
use Rattle.stack_words.specs.Stacks.{instances_in}
use Rattle.kind_table.specs.Kinds.{place_of}
use Rattle.ldecode.proofs.Begun.{places_more}
use Rattle.ldecode.proofs.part.places.Goals as goal

pub loop-instance-preserved : goal.loop-instance-preserved
loop-instance-preserved c =
    let instances = instances_in c.args.stack.now in
    let i = c.loop-instance.instance in
    let next : suc i ≡ i + 1 = omega arith in
    let had = c.loop-instance.invariant in
    let place = c.place_of.ensures in
    c.push.ensures.items ∙ ((λ j. had j ++ place j ∷ []) ∙ (sym (places_more instances i c.kind.result (search rules) c.kind.ensures) ∙ ap (λ (n : ℕ). map (λ (instance : Instance). place_of instance.kind) (take n instances)) next))
