use Rattle.std.proofs.Common.{◌++◌, ◌∷◌, [], take, sym, subst, List, ℕ, arith, get_or}
use Rattle.std.proofs.lemmas.List.{take_more}
use Rattle.wait_cond.specs.Standing.{FirstStanding}
use Rattle.wait_cond.specs.declared.alt.Alt.{Alt}
use Rattle.wait_cond.proofs.StandingLemmas.{standing_pass, standing_more}
use Rattle.wait_cond.proofs.standing.first_standing.Goals as goal
use Rattle.wait_cond.proofs.standing.first_standing.Goals.{then-lines_hold, else-lines_hold}

abbrev none : Alt
none = record { low = 0; high = 0; rise = 0; fall = 0; edge = 0; steady = 0; skip = 0 }

pub loop-alt-preserved : goal.loop-alt-preserved
loop-alt-preserved c =
    let a = c.args in
    let n = c.loop-alt.alt-index in
    let front = take n a.alts.now in
    let alt = get_or a.alts.now n none in
    let so_far = c.loop-alt.invariant in
    subst (λ (l : List Alt). FirstStanding l a.value a.from a.begin a.end c.if-lines_hold.first) (sym (take_more a.alts.now n none c.loop-alt-test.true))
    (elim c.if-lines_hold.branch [
      | then-lines_hold w ↦ standing_more a.value a.from a.begin a.end front alt c.loop-alt.first so_far c.requires.from w.if-lines_hold.ensures c.if-lines_hold.first (omega (arith, w.first-is, w.far_enough-first.ensures))
      | else-lines_hold w ↦ subst (λ (m : ℕ). FirstStanding (front ++ alt ∷ []) a.value a.from a.begin a.end m) (sym w.first-is) (standing_pass a.value a.from a.begin a.end front alt c.loop-alt.first so_far w.if-lines_hold.ensures)
    ])
