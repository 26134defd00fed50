use Rattle.std.proofs.Common.{◌≡◌, ◌-◌, ◌≤◌, ℕ, List, ◌++◌, take, length, sym, subst, ◌∙◌, ap, arith, slice_range}
use Rattle.la_io.proofs.Filling.{filled, none_between}
use Rattle.la_io.specs.declared.outgoing.Outgoing.TheInside.{Inside}
use Rattle.la_io.proofs.outgoing.Outgoing.append.Goals as goal
use Rattle.la_io.proofs.outgoing.Outgoing.append.Goals.{then-self, else-self}

pub returns-clause-appended : goal.returns-clause-appended
returns-clause-appended c =
    let s = c.if-self.self-inside in
    let old = c.self.inside in
    let P : Inside → Type 0 = λ (s : Inside). (slice_range s.buffer s.start s.end ≡ c.args.self.now) × (s.start ≤ s.end) × (s.end ≤ length s.buffer) × (length s.buffer ≡ 16384) in
    let so : P s =
    elim c.if-self.branch [
      | then-self w ↦
          let none : old.end ≤ old.start = omega (arith, w.if-self.true) in
          subst P (sym w.self-inside-is) (
            none_between old.buffer 0 0 (omega arith) ∙ sym (none_between old.buffer old.start old.end none) ∙ c.self.view_is,
            omega arith,
            omega arith,
            c.self.told,
          )
      | else-self w ↦ subst P (sym w.self-inside-is) (c.self.view_is, c.self.invariant.0, omega (arith, c.self.told, c.self.invariant.1), c.self.told)
    ] in
    filled s.buffer c.give-count.new.buf s.start s.end (16384 - s.end) c.give-count.result so.1 so.2 (omega (arith, c.give-count.ensures.count, c.give-count.auto.buf))
    ∙ ap (λ (l : List ℕ). slice_range s.buffer s.start s.end ++ l) c.give-count.ensures.given
    ∙ ap (λ (l : List ℕ). l ++ take c.give-count.result c.args.bytes.now) so.0
