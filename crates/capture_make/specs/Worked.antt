-- A worked capture.
use Rattle.std.specs.Prelude.{◌≡◌, ℕ, ◌*◌, length}
use Rattle.capture_make.specs.Made.{draw, made}

-- what seed 7 draws, and the first transaction
pub record WorkedDraws : Type 0 where
  pub first : draw 7 1 ≡ 108
  pub second : draw 7 2 ≡ 78
  pub third : draw 7 3 ≡ 116
  pub fourth : draw 7 4 ≡ 146

-- a made capture has 120 samples a transaction
abbrev pub BlocksAreWhole : Type 0
BlocksAreWhole = (seed count : ℕ) → length (made seed count) ≡ 120 * count
