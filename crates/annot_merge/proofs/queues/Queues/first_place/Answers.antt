use Rattle.std.proofs.Common.{arith}
use Rattle.annot_merge.proofs.HoldLemmas.{empty, place_is}
use Rattle.annot_merge.proofs.queues.Queues.first_place.Goals as goal

pub returns-then-self-len-clause-none : goal.returns-then-self-len-clause-none
returns-then-self-len-clause-none c =
    let m = c.args.self.now in
    empty m.queues.items m.heads.items m.lead m.arranged (omega (arith, c.if-self-len.true, c.len.ensures, m.queues.ok.0))

pub returns-clause-some : goal.returns-clause-some
returns-clause-some c =
    let m = c.args.self.now in
    place_is m.queues.items m.heads.items m.lead m.arranged (omega (arith, c.if-self-len.false, c.len.ensures, m.queues.ok.0))
