use Rattle.std.proofs.Common.{◌≡◌, ◌∙◌, List, ap, subst, map, length, arith}
use Rattle.std.specs.List.{AllZip}
use Rattle.std.proofs.lemmas.List.{length-map}
use Rattle.tree_runs.specs.Machines.{defined}
use Rattle.stack_laws.specs.Laws.{IsLawful}
use Rattle.stack_laws.specs.Settling.{MachinesTell}
use Rattle.stage_ring.specs.Link.{received, rx_link, sent, tx_link}
use Rattle.stage_run.specs.declared.stage.Parts.{Parts}
use Rattle.stage_run.specs.declared.stage.Stage.{Stage}
use Rattle.stage_crew.specs.Crew.{Each}
use Rattle.stack_threads.specs.Ties.{Alike}
use Rattle.stack_threads.proofs.Opening.{made_all}
use Rattle.stack_threads.proofs.Running.{RanOut, all_over, drove_same, drove_tied, each_len, fresh, parted_links, runs_by, wired_parts}
use Rattle.stack_threads.proofs.run.run_stages.Goals as goal

pub run_crew-requires-clause-fresh : goal.run_crew-requires-clause-fresh
run_crew-requires-clause-fresh g c κs within =
    let wires = c.in_ok-ends.field-0 in
    let none = c.in_ok-ends.ensures.none in
    fresh wires.feeds.items wires.marks.items none.feeds none.marks

pub take_apart-requires-clause-over : goal.take_apart-requires-clause-over
take_apart-requires-clause-over g c = all_over g.M.Machine c.open_all.new.stages.items c.in_ok-stages-2.field-0.stages.items c.in_ok-stages-2.ensures.runs.stages

pub take_apart-requires-clause-room : goal.take_apart-requires-clause-room
take_apart-requires-clause-room g c =
    let opened = c.open_all.new.stages in
    let ran = c.in_ok-stages-2.field-0.stages in
    let same = each_len (RanOut g.M.Machine) opened.items ran.items c.in_ok-stages-2.ensures.runs.stages in
    omega (arith, same, opened.ok.0, ran.ok.0, c.open_all.ensures.room.1, c.in_ok-stages.ensures.len, c.in_ok-parts.ensures.len, c.in_ok-parts.ensures.capacity, c.len-count.ensures)

pub settle_tree-requires-clause-counts : goal.settle_tree-requires-clause-counts
settle_tree-requires-clause-counts g c =
    let m = g.M.Machine in
    let ran = c.in_ok-stages-2.field-0 in
    let opened = c.open_all.ensures.stages in
    let parted = c.take_apart.ensures.parts in
    let same = each_len (RanOut m) c.open_all.new.stages.items ran.stages.items c.in_ok-stages-2.ensures.runs.stages in
    let marks = ap length c.in_ok-stages-2.ensures.runs.links.marks in
    let gathers = c.in_ok-ends.ensures.gathers in (
      ap length c.deref_mut.ensures.value ∙ omega (arith, c.take_apart.new.parts.ok.0, c.take_apart.ensures.room.1, c.in_ok-parts.ensures.len, ran.stages.ok.0, same, c.open_all.new.stages.ok.0, c.open_all.ensures.room.1, c.in_ok-stages.ensures.len, c.requires.tree.each),
      ap length c.deref_mut-3.ensures.value ∙ omega (arith, marks, gathers, length-map ran.ends.marks.items rx_link),
    )

pub settle_tree-requires-clause-wired : goal.settle_tree-requires-clause-wired
settle_tree-requires-clause-wired g c =
    let m = g.M.Machine in
    let ran = c.in_ok-stages-2.field-0 in
    let goes = c.in_ok-stages-2.ensures.runs in
    let opened = c.open_all.ensures.stages in
    let stages : c.open_all.new.stages.items ≡ opened.0 = made_all c.in_ok-stages.stages.items c.open_all.new.stages.items opened.0 opened.1 c.in_ok-stages.ensures.items in
    let parted = c.take_apart.ensures.parts in
    let parts : c.deref_mut.result.now ≡ parted.0 = c.deref_mut.ensures.value ∙ made_all c.in_ok-parts.parts.items c.take_apart.new.parts.items parted.0 parted.1 c.in_ok-parts.ensures.items in
    let all = parted_links m c.keeps_front.ensures c.args.machines.items c.in_ok-ends.field-0 opened.0 ran.stages.items parted.0 opened.2 opened.3 (subst (λ (l : List (Stage _)). Each (RanOut m) l ran.stages.items) stages goes.stages) parted.2 in
    wired_parts c.rooms_of.result c.args.parents.now c.in_ok-ends.field-0 parted.0 c.deref_mut.result.now ran.ends.feeds.items c.deref_mut-2.result.now ran.ends.marks.items c.deref_mut-3.result.now c.in_ok-ends.ensures all parts c.deref_mut-2.ensures.value goes.links.feeds c.deref_mut-3.ensures.value goes.links.marks

pub returns-clause-runs : goal.returns-clause-runs
returns-clause-runs g c =
    let m = g.M.Machine in
    let ran = c.in_ok-stages-2.field-0 in
    let goes = c.in_ok-stages-2.ensures.runs in
    let opened = c.open_all.ensures.stages in
    let stages : c.open_all.new.stages.items ≡ opened.0 = made_all c.in_ok-stages.stages.items c.open_all.new.stages.items opened.0 opened.1 c.in_ok-stages.ensures.items in
    let parted = c.take_apart.ensures.parts in
    let parts : c.deref_mut.result.now ≡ parted.0 = c.deref_mut.ensures.value ∙ made_all c.in_ok-parts.parts.items c.take_apart.new.parts.items parted.0 parted.1 c.in_ok-parts.ensures.items in
    let old_feeds = c.deref_mut-2.result.now in
    let old_marks = c.deref_mut-3.result.now in
    let ends = c.settle_tree.ensures.ends in
    record {
      tree = runs_by m c.keeps_front.ensures c.args.machines.items c.in_ok-ends.field-0 opened.0 ran.stages.items parted.0 opened.2 opened.3
          (subst (λ (l : List (Stage _)). Each (RanOut m) l ran.stages.items) stages goes.stages) parted.2
          c.args.parents.now c.requires.tree.forest (omega (arith, c.args.machines.ok.0, c.requires.tree.each)) c.rooms_of.result c.in_ok-ends.ensures c.settle_tree.new.parts
          (subst (λ (l : List (Parts _)). AllZip Alike l c.settle_tree.new.parts) parts c.settle_tree.ensures.parts)
          c.settle_tree.new.feeds (ends.feeds.1 ∙ ap (map tx_link) c.deref_mut-2.ensures.value ∙ goes.links.feeds)
          c.settle_tree.new.marks (ends.marks.1 ∙ ap (map rx_link) c.deref_mut-3.ensures.value ∙ goes.links.marks)
          c.settle_tree.ensures.tied
          (drove_tied old_feeds c.settle_tree.new.feeds old_marks c.settle_tree.new.marks ends (drove_same (ap (map sent) c.deref_mut-2.ensures.value) (ap (map received) c.deref_mut-3.ensures.value) goes.drove))
          (subst (λ (l : List _). IsLawful c.args.parents.now (defined m.outputs m.near (map m.setup l))) c.deref.ensures.value c.machines_are_a_tree.ensures)
          c.settled_ends_fit.ensures
          (subst (λ (l : List _). MachinesTell m.outputs m.near (map m.setup l) c.args.parents.now) c.deref-2.ensures.value c.machines_tell_their_inputs.ensures);
      reads = goes.reads;
      takes = goes.takes;
    }
