use Rattle.std.proofs.Common.{◌∙◌, refl, sym, ap, subst, Some, List, ℕ, Option, arith, ◌≡◌, slice_get, set}
use Rattle.std.proofs.lemmas.Option.{slice_get-get_or}
use Rattle.std.proofs.lemmas.List.{get_or-set_same}
use Rattle.annot_merge.specs.Limits.{Leads}
use Rattle.annot_merge.specs.Queues.{head_of, live}
use Rattle.annot_merge.specs.declared.queue.Queue.{Queue}
use Rattle.annot_merge.proofs.HoldLemmas.{arranged_less, few, many_less, none_runs, rest_of_run, run_within, width}
use Rattle.annot_merge.proofs.queues.Queues.let_go.Goals as goal

pub returns-then-place-len-clause-rest : goal.returns-then-place-len-clause-rest
returns-then-place-len-clause-rest c = λ run len r.
    let m = c.args.self.now in
    absurd (none_runs m.queues.items m.lead.least.instance run (omega (arith, c.if-place-len.true, c.len.ensures, m.queues.ok.0)) r)

pub let_go-requires : goal.let_go-requires
let_go-requires c =
    let m = c.args.self.now in
    let i = m.lead.least.instance in
    let q = c.index_mut.result.now in
    let at : slice_get m.queues.items i ≡ Some q = slice_get-get_or m.queues.items i q (omega (arith, c.if-place-len.false, c.len.ensures, m.queues.ok.0)) ∙ ap (λ (x : Queue). Some x) (sym c.index_mut.ensures.value) in
    run_within m.queues.items m.heads.items m.lead m.arranged c.args.count q at c.requires.0 c.requires.1 c.requires.2

pub lead_past-self-requires-clause-within : goal.lead_past-self-requires-clause-within
lead_past-self-requires-clause-within c =
    let m = c.args.self.now in
    omega (arith, c.if-place-len.false, c.len.ensures, c.deref.ensures.len, width m.queues.items m.heads.items m.lead m.arranged, m.queues.ok.0, m.heads.ok.0)

pub lead_past-self-requires-clause-few : goal.lead_past-self-requires-clause-few
lead_past-self-requires-clause-few c =
    let m = c.args.self.now in
    omega (arith, c.deref.ensures.len, few m.queues.items m.heads.items m.lead m.arranged, width m.queues.items m.heads.items m.lead m.arranged, m.heads.ok.0)

pub invariant_of-self : goal.invariant_of-self
invariant_of-self c =
    let m = c.args.self.now in
    let i = m.lead.least.instance in
    let q = c.index_mut.result.now in
    let after = c.let_go.new.self in
    let at : slice_get m.queues.items i ≡ Some q = slice_get-get_or m.queues.items i q (omega (arith, c.if-place-len.false, c.len.ensures, m.queues.ok.0)) ∙ ap (λ (x : Queue). Some x) (sym c.index_mut.ensures.value) in
    let now : c.index.result.now ≡ after = c.index.ensures ∙ get_or-set_same m.queues.items i after c.index.result.now (omega (arith, c.if-place-len.false, c.len.ensures, m.queues.ok.0)) in
    record {
      arranged = arranged_less m.queues.items m.heads.items m.lead m.arranged c.args.count q after at c.let_go.ensures c.head-head.result (set m.heads.items i c.head-head.result) c.lead_past-self.result
          (c.head-head.ensures.head ∙ ap (λ (x : Queue). head_of (live x)) now) c.head-head.ensures.fits refl
          (λ l. subst (λ (b : List (Option ℕ)). Leads b c.lead_past-self.result) c.deref.ensures.value (c.lead_past-self.ensures m.heads.items c.head-head.result c.deref.ensures.value l));
      many_are = (many_less m.queues.items m.heads.items m.lead m.arranged c.args.count q after at c.let_go.ensures c.requires.0 c.requires.1 c.requires.2 m.many m.many_are).1;
    }

pub returns-clause-rest : goal.returns-clause-rest
returns-clause-rest c =
    let m = c.args.self.now in
    let i = m.lead.least.instance in
    let q = c.index_mut.result.now in
    let at : slice_get m.queues.items i ≡ Some q = slice_get-get_or m.queues.items i q (omega (arith, c.if-place-len.false, c.len.ensures, m.queues.ok.0)) ∙ ap (λ (x : Queue). Some x) (sym c.index_mut.ensures.value) in
    rest_of_run m.queues.items m.heads.items m.lead m.arranged c.args.count q c.let_go.new.self at c.let_go.ensures

pub overflow_sub-self : goal.overflow_sub-self
overflow_sub-self c =
    let m = c.args.self.now in
    let i = m.lead.least.instance in
    let q = c.index_mut.result.now in
    let at : slice_get m.queues.items i ≡ Some q = slice_get-get_or m.queues.items i q (omega (arith, c.if-place-len.false, c.len.ensures, m.queues.ok.0)) ∙ ap (λ (x : Queue). Some x) (sym c.index_mut.ensures.value) in
    (many_less m.queues.items m.heads.items m.lead m.arranged c.args.count q c.let_go.new.self at c.let_go.ensures c.requires.0 c.requires.1 c.requires.2 m.many m.many_are).0

pub index_mut-requires-2 : goal.index_mut-requires-2
index_mut-requires-2 c =
    let m = c.args.self.now in
    omega (arith, c.if-place-len.false, c.len.ensures, width m.queues.items m.heads.items m.lead m.arranged, m.queues.ok.0, m.heads.ok.0)
