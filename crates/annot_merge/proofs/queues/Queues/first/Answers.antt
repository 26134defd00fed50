use Rattle.std.proofs.Common.{◌∙◌, sym, ap, Some, arith, ◌≡◌}
use Rattle.std.specs.List.{slice_get}
use Rattle.std.proofs.lemmas.Option.{slice_get-get_or}
use Rattle.annot_merge.specs.declared.queue.Queue.{Queue}
use Rattle.annot_merge.proofs.HoldLemmas.{empty, found_first, found_none}
use Rattle.annot_merge.proofs.queues.Queues.first.Goals as goal

pub returns-then-place-len-clause-none : goal.returns-then-place-len-clause-none
returns-then-place-len-clause-none c =
    let m = c.args.self.now in
    empty m.queues.items m.heads.items m.lead m.arranged (omega (arith, c.if-place-len.true, c.len.ensures, m.queues.ok.0))

pub returns-clause-some : goal.returns-clause-some
returns-clause-some c =
    let m = c.args.self.now in
    let q = c.index.result.now in
    let at : slice_get m.queues.items m.lead.least.instance ≡ Some q = slice_get-get_or m.queues.items m.lead.least.instance q (omega (arith, c.if-place-len.false, c.len.ensures, m.queues.ok.0)) ∙ ap (λ (x : Queue). Some x) (sym c.index.ensures) in
    found_first m.queues.items m.heads.items m.lead m.arranged q c.first.result at c.first.ensures.some

pub returns-clause-none : goal.returns-clause-none
returns-clause-none c =
    let m = c.args.self.now in
    let q = c.index.result.now in
    let at : slice_get m.queues.items m.lead.least.instance ≡ Some q = slice_get-get_or m.queues.items m.lead.least.instance q (omega (arith, c.if-place-len.false, c.len.ensures, m.queues.ok.0)) ∙ ap (λ (x : Queue). Some x) (sym c.index.ensures) in
    found_none m.queues.items m.heads.items m.lead m.arranged q c.first.result at c.first.ensures.none
