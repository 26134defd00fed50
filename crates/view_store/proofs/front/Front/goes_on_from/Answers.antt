use Rattle.std.proofs.Common.{ap, subst, arith, length, ◌≤◌, List}
use Rattle.view_store.specs.declared.added.Added.{Added}
use Rattle.view_store.specs.Listings.{IsFront}
use Rattle.view_store.proofs.Fronts.{front_shorter}
use Rattle.view_store.proofs.front.Front.goes_on_from.Goals as goal

pub returns : goal.returns
returns c =
    let both = c.learn.new.self.log in
    let mine : IsFront c.args.self.now.seen.log both = subst (λ (l : List Added). IsFront l both) (ap (λ s. s.log) c.again-both.ensures) c.learn.ensures.2 in
    let less : length c.args.other.now.seen.log ≤ length c.args.self.now.seen.log = omega (arith, c.args.other.now.counted, c.args.self.now.counted, c.requires.shorter) in
    front_shorter c.args.other.now.seen.log c.args.self.now.seen.log both c.learn.ensures.3 mine less
