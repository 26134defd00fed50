-- Where points stand.
use Rattle.std.proofs.Common.{◌≡◌, ℕ, suc, ◌+◌, ◌*◌, ◌/◌, ◌<◌, ◌≤◌, sym, subst, arith}
use Rattle.std.proofs.Math.Nat.{mul-pos, div-mul-le_self}
use Rattle.std.proofs.lemmas.Nat.{le-div}
use Rattle.rate_math.specs.Counts.{point}

-- a quotient rises where a whole divisor is added
div_up : (a more d : ℕ) → 0 < d → d ≤ more → a / d < (a + more) / d
div_up a more d some enough =
    let low = div-mul-le_self a d in
    let step : (a / d + 1) * d ≡ a / d * d + d = grind arith in
    let up : (a / d + 1) ≤ (a + more) / d = le-div (a / d + 1) (a + more) d some (omega (arith, low, step, enough)) in
    omega (arith, up)

module _ (num den baud sp : ℕ) (some : 1 ≤ den) (bits : 1 ≤ baud) where
  divisor_some : 0 < 100 * baud * den
  divisor_some =
      let one : 0 < 100 * baud = omega (arith, bits) in
      let two : 0 < den = omega (arith, some) in
      mul-pos one two

  -- the first point is behind the start, where the rate is high enough
  pub first_point : 100 * baud * den ≤ sp * num → 1 ≤ point num den baud sp 0
  first_point fast = le-div 1 ((100 * 0 + sp) * num) (100 * baud * den) divisor_some (grind (arith, fast))

  -- and nowhere else
  pub fast_enough : 1 ≤ point num den baud sp 0 → 100 * baud * den ≤ sp * num
  fast_enough above =
      let low = div-mul-le_self ((100 * 0 + sp) * num) (100 * baud * den) in
      grind (arith, low, above)

  -- and each further one behind the one before
  pub points_rise : sp ≤ 99 → 100 * baud * den ≤ sp * num → (i : ℕ) → point num den baud sp i < point num den baud sp (suc i)
  points_rise early fast i =
      let more : 100 * baud * den ≤ 100 * num = grind (arith, fast, early) in
      let same : (100 * suc i + sp) * num ≡ (100 * i + sp) * num + 100 * num = grind arith in
      let up = div_up ((100 * i + sp) * num) (100 * num) (100 * baud * den) divisor_some more in
      subst (λ (n : ℕ). point num den baud sp i < n / (100 * baud * den)) (sym same) up
