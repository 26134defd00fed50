use Rattle.std.proofs.Common.{◌∙◌, refl, arith}
use Rattle.stack_threads.proofs.Tying.{alike_each, alike_each_then, alike_given, alike_links, tied_next, wired_same}
use Rattle.stack_threads.proofs.settle.settle_tree.Goals as goal

pub loop-instance-init : goal.loop-instance-init
loop-instance-init g c = record {
  alike = alike_each c.args.parts.now;
  ends = record { feeds = (refl, refl); marks = (refl, refl) };
  len = (refl, refl);
  tied = λ j low. absurd (omega (arith, low));
}

pub settle_one-requires-clause-wired : goal.settle_one-requires-clause-wired
settle_one-requires-clause-wired g c =
    let i = c.loop-instance.invariant in
    wired_same (alike_links c.args.parts.now c.loop-instance.parts i.alike) i.ends.feeds.1 i.ends.marks.1 c.requires.wired

pub loop-instance-preserved : goal.loop-instance-preserved
loop-instance-preserved g c =
    let i = c.loop-instance.invariant in
    let e = c.settle_one.ensures in
    record {
      alike = alike_each_then c.args.parts.now c.loop-instance.parts c.settle_one.new.parts i.alike e.parts;
      ends = record { feeds = (e.ends.feeds.0 ∙ i.ends.feeds.0, e.ends.feeds.1 ∙ i.ends.feeds.1); marks = (e.ends.marks.0 ∙ i.ends.marks.0, e.ends.marks.1 ∙ i.ends.marks.1) };
      len = (e.len.0 ∙ i.len.0, e.len.1 ∙ i.len.1);
      tied = tied_next c.loop-instance.instance e.inputs (alike_given c.loop-instance.parts c.settle_one.new.parts e.parts) e.ends.feeds.0 e.marks i.tied e.tied;
    }
