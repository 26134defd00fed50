use Rattle.std.proofs.Common.{◌∙◌, ◌-◌, sym, ap, arith, take, drop, List, ℕ, length, length-drop, length-take}
use Rattle.std.proofs.lemmas.List.{take_rest}
use Rattle.la_io.specs.Kept.{Place}
use Rattle.la_io.specs.Plans.{bytes_on}
use Rattle.la_io.proofs.Pieces.{piece_given, piece_done, present_done, present_none, present_some, next_done, next_some, stands_still}
use Rattle.la_io.proofs.memory.MemSourceSource.read.Goals as goal

pub returns-then-self-present-clause-bytes : goal.returns-then-self-present-clause-bytes
returns-then-self-present-clause-bytes c =
    let s = c.loop-self.self in
    let v = c.index.result.now in
    let items = c.as_slice-present.ensures.value in
    let rest = take_rest c.as_slice-present.result.now s.at ∙ ap (λ (l : List ℕ). drop s.at l) items in
    let same = c.give-count.ensures.given ∙ ap (λ (l : List ℕ). take c.give-count.result l) rest in
    let next = piece_given s.pieces.items s.piece v (omega arith) c.index.ensures c.give-count.new.buf s.at c.give-count.result same in (
      sym c.loop-self.invariant.left ∙ next,
      λ none room.
          absurd (omega (arith, length-take (length c.as_slice-present.result.now - s.at) (drop s.at c.as_slice-present.result.now), length-drop s.at c.as_slice-present.result.now)),
    )

pub loop-self-preserved : goal.loop-self-preserved
loop-self-preserved c =
    let s = c.loop-self.self in
    record {
      pieces = c.loop-self.invariant.pieces;
      left = sym (piece_done s.pieces.items s.piece c.index.result.now (omega arith) c.index.ensures s.at (omega (arith, ap length c.as_slice-present.ensures.value))) ∙ c.loop-self.invariant.left;
      faults = c.loop-self.invariant.faults;
      present = sym (present_done s.pieces.items s.piece c.index.result.now (omega arith) c.index.ensures s.at (omega (arith, ap length c.as_slice-present.ensures.value))) ∙ c.loop-self.invariant.present;
      next = sym (next_done s.pieces.items s.piece c.index.result.now (omega arith) c.index.ensures s.at (omega (arith, ap length c.as_slice-present.ensures.value))) ∙ c.loop-self.invariant.next;
      fails = c.loop-self.invariant.fails;
      call = c.loop-self.invariant.call;
    }

pub returns-then-self-present-clause-count : goal.returns-then-self-present-clause-count
returns-then-self-present-clause-count c =
    let s = c.loop-self.self in
    let some = present_some s.pieces.items s.piece c.index.result.now (omega arith) c.index.ensures s.at (omega (arith, ap length c.as_slice-present.ensures.value)) in
    omega (arith, c.give-count.ensures.count, length-drop s.at c.as_slice-present.result.now, some, c.loop-self.invariant.present, ap length c.as_slice-present.ensures.value)

pub returns-then-self-present-clause-place : goal.returns-then-self-present-clause-place
returns-then-self-present-clause-place c =
    let s = c.loop-self.self in
    let some = next_some s.pieces.items s.piece c.index.result.now (omega arith) c.index.ensures s.at (omega (arith, ap length c.as_slice-present.ensures.value)) in
    ap (λ (p : Place). bytes_on p c.give-count.result) (sym some ∙ c.loop-self.invariant.next)

pub returns-then-self-present-clause-called : goal.returns-then-self-present-clause-called
returns-then-self-present-clause-called c = record {
  pieces = c.loop-self.invariant.pieces;
  fails = c.loop-self.invariant.fails;
  call = c.loop-self.invariant.call ∙ c.if-fails_now.ensures.next;
}

pub returns-clause-count : goal.returns-clause-count
returns-clause-count c =
    let s = c.loop-self.self in
    omega (arith, present_none s.pieces.items s.piece s.at (omega arith), c.loop-self.invariant.present)

pub returns-clause-place : goal.returns-clause-place
returns-clause-place c =
    let s = c.loop-self.self in
    stands_still s.pieces.items s.piece s.at (omega arith) ∙ ap (λ (p : Place). bytes_on p 0) c.loop-self.invariant.next

pub returns-clause-called : goal.returns-clause-called
returns-clause-called c = record {
  pieces = c.loop-self.invariant.pieces;
  fails = c.loop-self.invariant.fails;
  call = c.loop-self.invariant.call ∙ c.if-fails_now.ensures.next;
}
