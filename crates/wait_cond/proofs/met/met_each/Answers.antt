use Rattle.std.proofs.Common.{◌≡◌, ◌+◌, take, sym, subst, List, ℕ, arith, length, length-take-le, get_or, bit_or, ◌*◌, ◌^◌, ◌%◌}
use Rattle.std.proofs.lemmas.List.{take_more}
use Rattle.wait_cond.specs.Stops.{MetSet}
use Rattle.wait_cond.specs.declared.alt.Alt.{Alt}
use Rattle.wait_cond.proofs.Sets.{met_pass, met_more}
use Rattle.wait_cond.proofs.met.met_each.Goals as goal
use Rattle.wait_cond.proofs.met.met_each.Goals.{then-meets, else-meets}

abbrev none : Alt
none = record { low = 0; high = 0; rise = 0; fall = 0; edge = 0; steady = 0; skip = 0 }

pub loop-place-preserved : goal.loop-place-preserved
loop-place-preserved c =
    let a = c.args in
    let n = c.loop-place.place in
    let front = take n a.alts.now in
    let alt = get_or a.alts.now n none in
    let more = sym (take_more a.alts.now n none c.loop-place-test.true) in
    let front_len : n ≡ length front = sym (length-take-le n a.alts.now (omega arith)) in
    elim c.if-meets.branch [
      | then-meets w ↦
          let set = met_more a.before a.now a.from a.at front alt c.loop-place.met c.loop-place.invariant n front_len (omega arith) w.if-meets.ensures in
          subst (λ (m : ℕ). MetSet (take (n + 1) a.alts.now) a.before a.now a.from a.at m) (sym w.met-is) (subst (λ (l : List Alt). MetSet l a.before a.now a.from a.at (bit_or c.loop-place.met (1 * 2 ^ n % 2 ^ 8))) more set)
      | else-meets w ↦
          let set = met_pass a.before a.now a.from a.at front alt c.loop-place.met c.loop-place.invariant w.if-meets.ensures in
          subst (λ (m : ℕ). MetSet (take (n + 1) a.alts.now) a.before a.now a.from a.at m) (sym w.met-is) (subst (λ (l : List Alt). MetSet l a.before a.now a.from a.at c.loop-place.met) more set)
    ]
