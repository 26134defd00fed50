use Rattle.std.proofs.Common.{◌≡◌, ◌<◌, ◌+◌, ◌∙◌, inl, inr, ℕ, true, false, Option, Some, None, get_or, slice_get, sym, ap, subst, arith}
use Rattle.std.proofs.lemmas.Bool.{cases_eq}
use Rattle.std.proofs.lemmas.Bool.Decides.{nat_tests}
use Rattle.std.proofs.lemmas.Option.{same_Some, slice_get-get_or, slice_get_within}
use Rattle.tree_runs.specs.Passing.{same_place}
use Rattle.stack_direct.proofs.parts.has_child.Goals as goal

pub loop-parent-init : goal.loop-parent-init
loop-parent-init c = λ j low at. absurd (omega (arith, low))

same_itself : (i : ℕ) → same_place (Some i) (Some i) ≡ true
same_itself i = grind (arith, nat_tests)

is_other : (parent : Option ℕ) (i : ℕ) → same_place parent (Some i) ≡ false → parent ≡ Some i → ⊥
is_other parent i off is = let no : false ≡ true = sym off ∙ (ap (λ (p : Option ℕ). same_place p (Some i)) is ∙ same_itself i) in absurd cc

pub loop-parent-preserved : goal.loop-parent-preserved
loop-parent-preserved c = λ j low at. elim (cases_eq j c.loop-parent.parent-index) [
  | inl same ↦
      let parents = c.args.parents.now in
      let here = get_or parents c.loop-parent.parent-index None in
      let there = slice_get-get_or parents c.loop-parent.parent-index None c.loop-parent-test.true in
      is_other here c.args.instance (sym c.same_place.ensures ∙ c.if-same_place.false) (same_Some here (Some c.args.instance) (sym there ∙ ap (slice_get parents) (sym same) ∙ at))
  | inr differ ↦ c.loop-parent.invariant j (omega (arith, low, differ)) at
]

pub returns : goal.returns
returns c = λ j at.
    let within = slice_get_within c.args.parents.now j (Some c.args.instance) at in
    c.loop-parent.invariant j (omega (arith, within, c.loop-parent-test.false)) at
