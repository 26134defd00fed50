use Rattle.std.proofs.Common.{◌≡◌, ◌<◌, ◌-◌, subst, List, length, false, arith}
use Rattle.std.specs.List.{HoldsAt}
use Rattle.note_order.specs.Order.{is_before}
use Rattle.note_order.specs.declared.entry.Entry.{Entry}
use Rattle.annot_merge.proofs.PutLemmas.{head_kept, puts_last}
use Rattle.annot_merge.proofs.queue.Queue.goes_last.Goals as goal

pub returns-clause-puts : goal.returns-clause-puts
returns-clause-puts c = λ late ordered.
    let q = c.args.self.now in
    let e = c.args.entry.now in
    puts_last q.first q.entries.items e (omega (arith, q.within, q.entries.ok.0))
    (subst (λ (l : List Entry). q.first < length l → HoldsAt (λ x. is_before e x ≡ false) l (length l - 1)) c.deref.ensures.value (c.is_late.ensures late)) ordered

pub returns-clause-head : goal.returns-clause-head
returns-clause-head c = λ late.
    let q = c.args.self.now in
    head_kept q.first q.entries.items c.args.entry.now (omega (arith, c.if-self-len.false, c.len.ensures, q.entries.ok.0))
