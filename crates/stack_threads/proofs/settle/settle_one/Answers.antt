use Rattle.std.proofs.Common.{◌∙◌, List, None, ap, sym, slice_get}
use Rattle.stage_run.specs.declared.input.HalfRun.{HalfRun}
use Rattle.stack_threads.specs.Ties.{Given, Sent}
use Rattle.stack_threads.specs.Trees.{place_of}
use Rattle.stack_threads.proofs.Tying.{alike_each_then, alike_given, alike_links, reads_same}
use Rattle.stack_threads.proofs.settle.settle_one.Goals as goal

pub settle_input-requires-clause-inputs : goal.settle_input-requires-clause-inputs
settle_input-requires-clause-inputs g c = reads_same c.args.parents.now _ _ _ c.args.instance (alike_links c.args.parts.now c.settle_marks.new.parts c.settle_marks.ensures.parts) (c.requires.wired.inputs c.args.instance)

pub returns-clause-parts : goal.returns-clause-parts
returns-clause-parts g c = alike_each_then c.args.parts.now c.settle_marks.new.parts c.settle_input.new.parts c.settle_marks.ensures.parts c.settle_input.ensures.parts

pub returns-clause-inputs : goal.returns-clause-inputs
returns-clause-inputs g c = λ j other. c.settle_input.ensures.others j other ∙ ap (λ l. slice_get l j) c.settle_marks.ensures.heard

pub returns-clause-tied : goal.returns-clause-tied
returns-clause-tied g c =
    let k = c.args.instance in
    let first = alike_given c.args.parts.now c.settle_marks.new.parts c.settle_marks.ensures.parts in
    let then = alike_given c.settle_marks.new.parts c.settle_input.new.parts c.settle_input.ensures.parts in
    let feeds = c.settle_input.ensures.feeds.0 in
    record {
      marks = λ given m at_g at_m. c.settle_marks.ensures.tied given m (ap (λ (l : List Given). slice_get l k) (sym (then ∙ first)) ∙ at_g) at_m;
      root = λ at h s at_h at_s. c.settle_input.ensures.root at h s at_h (ap (λ (l : List (Sent HalfRun)). slice_get l (place_of c.args.parents.now k None)) (sym feeds) ∙ at_s);
      child = λ p at h above s at_h at_above at_s. c.settle_input.ensures.child p at h above s at_h (ap (λ (l : List Given). slice_get l p) (sym then) ∙ at_above) at_s;
    }
