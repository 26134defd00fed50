-- What holds of every rate.
use Rattle.std.specs.Prelude.{ℕ, suc, ◌*◌, ◌≤◌, ◌<◌, ◌↔◌}
use Rattle.rate_math.specs.Counts.{point}

-- point 0 stands behind the start exactly where the rate is high enough, and each further point
-- then behind the one before
pub record Points : Type 0 where
  pub first : (num den baud sp : ℕ) → 1 ≤ den → 1 ≤ baud
      → (1 ≤ point num den baud sp 0) ↔ (100 * baud * den ≤ sp * num)
  pub rise : (num den baud sp : ℕ) → 1 ≤ den → 1 ≤ baud → sp ≤ 99 → 100 * baud * den ≤ sp * num
      → (i : ℕ) → point num den baud sp i < point num den baud sp (suc i)
