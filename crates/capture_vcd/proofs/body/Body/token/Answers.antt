use Rattle.std.proofs.Common.{◌≡◌, ◌∙◌, ap, subst, arith, refl, sym, ℕ, ◌<◌, List, [], ◌∷◌, ◌++◌, length, codes}
use Rattle.std.proofs.lemmas.Bool.{cond-true, cond-false, eqb-true}
use Rattle.std.proofs.lemmas.List.{nil_from_length}
use Rattle.la_base.specs.Naming.{same_name}
use Rattle.la_io.specs.declared.fault.CaptureFault.TheVariants as fault
use Rattle.capture_vcd.specs.Body.{Wrong}
use Rattle.capture_vcd.specs.Within.{Within, begins}
use Rattle.capture_vcd.specs.Within as within
use Rattle.capture_vcd.specs.Running.{OpenAt, TokenAnswers}
use Rattle.capture_vcd.specs.declared.body.Pending.{Pending}
use Rattle.capture_vcd.specs.declared.body.Pending.TheVariants.{Free}
use Rattle.capture_vcd.proofs.Levels.{split_text}
use Rattle.capture_vcd.proofs.Running.{parts_close, parts_fault}
use Rattle.capture_vcd.proofs.Waiting.{answers_run}
use Rattle.capture_vcd.proofs.body.Body.token.Goals as goal

pub returns-then-is_empty-clause-gives : goal.returns-then-is_empty-clause-gives
returns-then-is_empty-clause-gives c = λ items given st.
    let s = c.args.self.now in
    let none : c.args.text.now ≡ [] = nil_from_length c.args.text.now (eqb-true (length c.args.text.now) 0 (sym c.is_empty.ensures ∙ c.if-is_empty.true)) in
    parts_fault s.down (omega (arith, s.down_fits.0)) _ s.slots.items _ _ _ items _ (c.args.at, c.args.text.now) (Wrong c.args.at) within.Free (fault.Token c.args.at) c.in-Free.is (ap (λ (l : List ℕ). begins c.args.at l) none) (λ events. refl) st

pub returns-else-is_empty-clause-gives : goal.returns-else-is_empty-clause-gives
returns-else-is_empty-clause-gives c = λ items given st.
    let some : 0 < length c.args.text.now = search (arith) in
    subst (λ (t : List ℕ). TokenAnswers c.free_token.new.self (items ++ (c.args.at, t) ∷ []) given c.free_token.result) (split_text c.args.text.now some) (c.free_token.ensures.gives items given st)

pub take_value-requires : goal.take_value-requires
take_value-requires c = (c.in-Value.field-0, c.in-Value.is)

pub returns-in-Value-clause-gives : goal.returns-in-Value-clause-gives
returns-in-Value-clause-gives c = λ items given st.
    answers_run c.take_value.new.self (items ++ (c.args.at, c.args.text.now) ∷ []) given c.take_value.result (c.take_value.ensures.gives c.args.at items given st)

pub returns-in-Skip-clause-gives : goal.returns-in-Skip-clause-gives
returns-in-Skip-clause-gives c = λ items given st.
    let s = c.args.self.now in
    parts_close s.down (omega (arith, s.down_fits.0)) s.codes.items _ _ items _ (c.args.at, c.args.text.now) s.slots.items s.pending Free (within.Skip c.in-Skip.field-0) within.Free
    (λ w o. subst (λ (p : Pending). OpenAt p s.slots.items w) c.in-Skip.is o) refl refl st

pub returns-then-eq-clause-gives : goal.returns-then-eq-clause-gives
returns-then-eq-clause-gives c = λ items given st.
    let s = c.args.self.now in
    let e = sym c.if-eq.true ∙ c.eq.ensures ∙ ap (λ (l : List ℕ). same_name l c.args.text.now) c.as_slice.ensures in
    parts_close s.down (omega (arith, s.down_fits.0)) s.codes.items _ _ items _ (c.args.at, c.args.text.now) s.slots.items s.pending Free within.Comment within.Free
    (λ w o. subst (λ (p : Pending). OpenAt p s.slots.items w) c.in-Comment.is o) (cond-true (same_name (codes "$end") c.args.text.now) _ _ (sym e)) refl st

pub returns-else-eq-clause-gives : goal.returns-else-eq-clause-gives
returns-else-eq-clause-gives c = λ items given st.
    let s = c.args.self.now in
    let e = sym c.if-eq.false ∙ c.eq.ensures ∙ ap (λ (l : List ℕ). same_name l c.args.text.now) c.as_slice.ensures in
    parts_close s.down (omega (arith, s.down_fits.0)) s.codes.items _ _ items _ (c.args.at, c.args.text.now) s.slots.items s.pending s.pending within.Comment within.Comment
    (λ w o. subst (λ (p : Pending). OpenAt p s.slots.items w) c.in-Comment.is o) (cond-false (same_name (codes "$end") c.args.text.now) _ _ (sym e)) (subst (λ (p : Pending). OpenAt p s.slots.items within.Comment) (sym c.in-Comment.is) refl) st
