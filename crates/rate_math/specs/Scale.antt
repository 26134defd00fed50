-- The rate of a timescale.
use Rattle.std.specs.Prelude.{ℕ, ◌≡◌, ◌*◌, ◌^◌, ◌≤◌, Option, Some, None}
use Rattle.la_base.specs.declared.samples.Rate.{Rate}
use Rattle.rate_math.specs.declared.scale.TimeUnit.{TimeUnit}
use Rattle.rate_math.specs.declared.scale.TimeUnit.TheVariants.{S, Ms, Us, Ns, Ps, Fs}

-- how many of a unit are a second
abbrev pub in_second : TimeUnit → ℕ
in_second S = 10 ^ 0
in_second Ms = 10 ^ 3
in_second Us = 10 ^ 6
in_second Ns = 10 ^ 9
in_second Ps = 10 ^ 12
in_second Fs = 10 ^ 15

-- the rate is the unit's over the product; there is none exactly where the product is no number of
-- 64 bits
abbrev pub IsScale : ℕ → TimeUnit → ℕ → Option Rate → Type 0
IsScale count unit down (Some rate) = (rate.num ≡ in_second unit) × (rate.den ≡ count * down)
IsScale count unit down None = 2 ^ 64 ≤ count * down
