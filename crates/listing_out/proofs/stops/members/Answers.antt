use Rattle.std.proofs.Common.{◌≡◌, ◌+◌, arith, sym, subst, true, false, Bool, List, ℕ, rules}
use Rattle.listing_out.specs.StopLines.{is_member}
use Rattle.listing_out.proofs.Members.{Listed, listed_all, listed_pass, listed_next}
use Rattle.listing_out.proofs.stops.members.Goals as goal
use Rattle.listing_out.proofs.stops.members.Goals.{then-is_member, else-is_member}

pub loop-place-preserved : goal.loop-place-preserved
loop-place-preserved c =
    let before = c.args.line.now in
    let line = c.loop-place.line in
    let set = c.args.set in
    let n = c.loop-place.place in
    elim c.if-is_member.branch [
      | then-is_member w ↦
          let there : is_member set n ≡ true = search rules in
          let next = listed_next before line set n c.loop-place.first w.member.new.line c.loop-place.invariant there w.member.ensures.line w.member.ensures.grows in
          subst (λ (b : Bool). Listed before c.if-is_member.line b set (n + 1)) (sym w.first-is) (subst (λ (l : List ℕ). Listed before l false set (n + 1)) (sym w.line-is) next)
      | else-is_member w ↦
          let absent : is_member set n ≡ false = search rules in
          let same = listed_pass before line set n c.loop-place.first c.loop-place.invariant absent in
          subst (λ (b : Bool). Listed before c.if-is_member.line b set (n + 1)) (sym w.first-is) (subst (λ (l : List ℕ). Listed before l c.loop-place.first set (n + 1)) (sym w.line-is) same)
    ]

pub returns-then-set-place-clause-line : goal.returns-then-set-place-clause-line
returns-then-set-place-clause-line c =
    (listed_all c.args.line.now c.loop-place.line c.args.set c.loop-place.place c.loop-place.first (omega (arith, c.loop-place-test.true)) (omega (arith, c.if-set-place.true)) c.loop-place.invariant).text
