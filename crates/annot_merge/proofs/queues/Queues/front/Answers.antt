use Rattle.std.proofs.Common.{◌∙◌, sym, ap, Some, length, arith, ◌≡◌, slice_get}
use Rattle.std.proofs.lemmas.Option.{slice_get-get_or}
use Rattle.annot_merge.specs.Places.{StopsAt}
use Rattle.annot_merge.specs.declared.queue.Queue.{Queue}
use Rattle.annot_merge.proofs.HoldLemmas.{empty, front_is, of_first}
use Rattle.annot_merge.proofs.queues.Queues.front.Goals as goal

pub returns-then-place-len-clause-none : goal.returns-then-place-len-clause-none
returns-then-place-len-clause-none c = λ none entry rest is.
    let m = c.args.self.now in
    absurd (omega (arith, ap length is, ap length (empty m.queues.items m.heads.items m.lead m.arranged (omega (arith, c.if-place-len.true, c.len.ensures, m.queues.ok.0)))))

pub returns-clause-run : goal.returns-clause-run
returns-clause-run c = λ some.
    let m = c.args.self.now in
    let q = c.index.result.now in
    let at : slice_get m.queues.items m.lead.least.instance ≡ Some q = slice_get-get_or m.queues.items m.lead.least.instance q (omega (arith, c.if-place-len.false, c.len.ensures, m.queues.ok.0)) ∙ ap (λ (x : Queue). Some x) (sym c.index.ensures) in
    front_is m.queues.items m.heads.items m.lead m.arranged q c.front.result.now c.front.ensures.parts.0 at c.front.ensures.parts.1 c.front.ensures.before

pub returns-clause-none : goal.returns-clause-none
returns-clause-none c = λ none entry rest is.
    let m = c.args.self.now in
    let q = c.index.result.now in
    let at : slice_get m.queues.items m.lead.least.instance ≡ Some q = slice_get-get_or m.queues.items m.lead.least.instance q (omega (arith, c.if-place-len.false, c.len.ensures, m.queues.ok.0)) ∙ ap (λ (x : Queue). Some x) (sym c.index.ensures) in
    of_first m.queues.items m.heads.items m.lead m.arranged q at (StopsAt c.args.limit.now) (c.front.ensures.none none) entry rest is
