use Rattle.std.proofs.Common.{ℕ, None, Some, refl, sym, subst, List}
use Rattle.std.specs.Result.{OnOk}
use Rattle.la_base.specs.declared.wires.Mark.{Mark}
use Rattle.note_order.specs.declared.entry.Entry.{Entry}
use Rattle.annot_merge.specs.Held.{StandsFor, Takes, held_in}
use Rattle.annot_merge.specs.Marks.{Pushes}
use Rattle.annot_merge.proofs.MergeLemmas.{takes_bound, takes_piece}
use Rattle.annot_merge.proofs.merge.Merge.push.Goals as goal

pub returns-in-Note-clause-takes : goal.returns-in-Note-clause-takes
returns-in-Note-clause-takes c = subst (λ (m : Mark). OnOk c.hold.result (Takes c.args.self.now c.hold.new.self c.args.instance m)) (sym c.in-Note.is) c.hold.ensures.holds

pub returns-in-Piece-clause-takes : goal.returns-in-Piece-clause-takes
returns-in-Piece-clause-takes c = λ marks after given s pushes.
    let m = c.args.self.now in
    takes_piece m.count m.bounds.items m.limit (held_in m) c.args.instance c.in-Piece.field-0 marks after given s (subst (Pushes marks after c.args.instance) c.in-Piece.is pushes)

pub returns-in-Floor-clause-takes : goal.returns-in-Floor-clause-takes
returns-in-Floor-clause-takes c = λ marks after given s pushes.
    let m = c.args.self.now in
    let n = c.set_bound.new.self in
    let e = c.set_bound.ensures in
    subst (λ (k : ℕ). StandsFor k n.bounds.items n.limit (held_in n) after given) (sym e.count) (subst (λ (h : List Entry). StandsFor m.count n.bounds.items n.limit h after given) (sym e.held)
    (takes_bound m.count m.bounds.items m.limit (held_in m) n.bounds.items n.limit c.args.instance _ (Some c.in-Floor.floor) c.requires e.bounds e.limit refl (λ b. refl) marks after given s (subst (Pushes marks after c.args.instance) c.in-Floor.is pushes)))

pub returns-in-End-clause-takes : goal.returns-in-End-clause-takes
returns-in-End-clause-takes c = λ marks after given s pushes.
    let m = c.args.self.now in
    let n = c.set_bound-in-End.new.self in
    let e = c.set_bound-in-End.ensures in
    subst (λ (k : ℕ). StandsFor k n.bounds.items n.limit (held_in n) after given) (sym e.count) (subst (λ (h : List Entry). StandsFor m.count n.bounds.items n.limit h after given) (sym e.held)
    (takes_bound m.count m.bounds.items m.limit (held_in m) n.bounds.items n.limit c.args.instance _ None c.requires e.bounds e.limit refl (λ b. refl) marks after given s (subst (Pushes marks after c.args.instance) c.in-End.is pushes)))
