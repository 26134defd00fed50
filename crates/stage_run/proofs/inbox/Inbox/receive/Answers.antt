use Rattle.std.proofs.Common.{◌≡◌, ◌∙◌, ◌++◌, inl, inr, List, true, length, map, ap, sym, subst, arith}
use Rattle.std.proofs.lemmas.List.{append-nil}
use Rattle.la_base.specs.Runs.{samples_of}
use Rattle.la_base.specs.declared.samples.Run.{Run}
use Rattle.la_base.specs.declared.wires.Feed.{Feed}
use Rattle.decoder_core.specs.Inputs.{Sample}
use Rattle.stack_laws.specs.Links.{some}
use Rattle.stack_laws.specs.Feeds.{ends_feed, items_in}
use Rattle.stage_ring.specs.Link.{received}
use Rattle.stage_run.specs.Inputs.{came, feeds_in, told_behind, told_on}
use Rattle.stage_run.specs.Rows.{waiting}
use Rattle.stage_run.specs.declared.input.HalfRun.{HalfRun}
use Rattle.stage_run.proofs.Coming.{all_wait, none_waits}
use Rattle.stage_run.proofs.Telling.{feeds_in-append, feeds_in_few, told-append}
use Rattle.stage_run.proofs.inbox.Inbox.receive.Goals as goal

pub put_runs-self-requires : goal.put_runs-self-requires
put_runs-self-requires c =
    let is = c.waiting.ensures.list ∙ all_wait c.fill-count.new.self c.fill-count.ensures.start in
    omega (arith, ap length is, c.fill-count.ensures.count, c.fill-count.ensures.few)

pub returns-in-Samples-clause-came : goal.returns-in-Samples-clause-came
returns-in-Samples-clause-came c =
    let s = c.args.self.now in
    let e = c.fill-count.ensures in
    let row = c.fill-count.new.self in
    let is = c.waiting.ensures.list ∙ all_wait row e.start in
    let runs = c.put_runs-self.new.runs in
    let p = c.put_runs-self.ensures in
    let told : s.upper ≡ told_on s.input = s.told in
    let new : List Feed = feeds_in s.upper row.list in (
      new,
      omega (arith, feeds_in_few s.upper row.list, e.count, e.few),
      ap (feeds_in 0) e.received ∙ feeds_in-append 0 (received c.in-Samples.from) row.list
          ∙ (λ i. came (sym c.in-Samples.is i) ++ feeds_in (told_on (sym c.in-Samples.is i)) row.list) ∙ ap (λ n. came s.input ++ feeds_in n row.list) (sym told),
      ap (λ (l : List Run). map Sample (samples_of l) ++ items_in (waiting s.feeds)) (all_wait runs p.start)
          ∙ (λ i. (p.items ∙ ap (λ (l : List HalfRun). items_in (feeds_in s.upper l)) is) i ++ items_in ((none_waits (waiting s.runs) (waiting s.feeds) c.requires).1 i))
          ∙ append-nil (items_in new),
      λ ends. subst (λ (l : List HalfRun). some ends_feed (feeds_in s.upper l) ≡ true) is (p.ends ends),
      inl (none_waits (waiting s.runs) (waiting s.feeds) c.requires).1,
    )

pub returns-in-Packets-clause-came : goal.returns-in-Packets-clause-came
returns-in-Packets-clause-came c =
    let s = c.args.self.now in
    let e = c.fill-count-in-Packets.ensures in
    let row = c.fill-count-in-Packets.new.self in
    let is = c.waiting-in-Packets.ensures.list ∙ all_wait row e.start in (
      row.list,
      omega (arith, e.count, e.few),
      e.received ∙ ap (λ x. came x ++ row.list) (sym c.in-Packets.is),
      (λ i. map Sample (samples_of ((none_waits (waiting s.runs) (waiting s.feeds) c.requires).0 i)) ++ items_in (all_wait row e.start i)),
      λ ends. subst (λ (l : List Feed). some ends_feed l ≡ true) is (c.ends-self.ensures ends),
      inr ((none_waits (waiting s.runs) (waiting s.feeds) c.requires).0, all_wait row e.start),
    )

pub invariant_of-self : goal.invariant_of-self
invariant_of-self c =
    let s = c.args.self.now in
    let row = c.fill-count.new.self in
    let from = c.in-Samples.from in
    let is = c.waiting.ensures.list ∙ all_wait row c.fill-count.ensures.start in
    record {
      told = c.put_runs-self.ensures.upper ∙ ap (told_behind s.upper) is ∙ ap (λ n. told_behind n row.list) (s.told ∙ ap told_on c.in-Samples.is)
          ∙ sym (ap (told_behind 0) c.fill-count.ensures.received ∙ told-append 0 (received from) row.list);
    }
