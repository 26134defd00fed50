use Rattle.std.proofs.Common.{◌≡◌, [], ◌∷◌, refl, Some, arith}
use Rattle.annot_merge.specs.Bounds.{Allows}
use Rattle.annot_merge.specs.Held.{held_in}
use Rattle.annot_merge.specs.Queues.{listing_of}
use Rattle.annot_merge.proofs.GivingLemmas.{first_waits, none_held}
use Rattle.annot_merge.proofs.MergeLemmas.{gives_first}
use Rattle.annot_merge.proofs.merge.Merge.ready.Goals as goal

pub returns-then-not-allows-clause-none : goal.returns-then-not-allows-clause-none
returns-then-not-allows-clause-none c =
    let m = c.args.self.now in
    let e = c.in-Some.entry in
    let s = c.stands_at.ensures in
    let run = c.in-Some.ensures.some in
    first_waits m e _ run.whole (omega (arith, s.low, s.start)) (omega (arith, s.few, s.instance))
    (λ allowed. c.if-not-allows.ensures (omega (arith, allowed.0, s.start), λ same. let a = allowed.1 in omega (arith, same, a, s.start, s.instance)))

pub returns-else-not-allows-clause-gives : goal.returns-else-not-allows-clause-gives
returns-else-not-allows-clause-gives c =
    let m = c.args.self.now in
    let e = c.in-Some.entry in
    let s = c.stands_at.ensures in
    let was = c.if-not-allows.ensures in
    let allowed : Allows (Some m.limit.start) m.limit.instance e = (omega (arith, was.0, s.start), λ same. let a = was.1 in omega (arith, same, a, s.start, s.instance)) in
    let rest : held_in m ≡ e ∷ listing_of c.let_go.new.self.queues.items = c.let_go.ensures.rest (e ∷ []) refl c.in-Some.ensures.some in
    record {
      least = rest;
      stands = λ marks given st. gives_first m.count m.bounds.items m.limit (held_in m) e (listing_of c.let_go.new.self.queues.items) rest allowed marks given st;
    }

pub returns-in-None-clause-none : goal.returns-in-None-clause-none
returns-in-None-clause-none c = none_held c.args.self.now c.in-None.ensures.none
