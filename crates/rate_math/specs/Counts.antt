-- Counts of samples. A rate is num / den samples a second.
use Rattle.std.specs.Prelude.{ℕ, ◌+◌, ◌*◌, ◌/◌, ◌^◌}
use Rattle.std.specs.Int.{div_ceil}

-- where sp hundredths of bit i lie, in samples behind the start of bit 0, rounded down
abbrev pub point : ℕ → ℕ → ℕ → ℕ → ℕ → ℕ
point num den baud sp i = (100 * i + sp) * num / (100 * baud * den)

-- how many samples so many bits have, rounded down
abbrev pub samples_of_bits : ℕ → ℕ → ℕ → ℕ → ℕ
samples_of_bits num den baud count = count * num / (baud * den)

-- how many samples ns / 10^9 seconds have, rounded up
abbrev pub samples_of_ns : ℕ → ℕ → ℕ → ℕ
samples_of_ns num den ns = div_ceil (ns * num) (den * 10 ^ 9)
