-- The units of a time scale.
use Rattle.std.proofs.Common.{◌≤◌, ◌^◌, arith}
use Rattle.rate_math.specs.Scale.{in_second}
use Rattle.rate_math.specs.declared.scale.TimeUnit.{TimeUnit}
use Rattle.rate_math.specs.declared.scale.TimeUnit.TheVariants.{S, Ms, Us, Ns, Ps, Fs}

-- the shortest is the most in a second
pub few_a_second : (unit : TimeUnit) → in_second unit ≤ 10 ^ 15
few_a_second S = omega arith
few_a_second Ms = omega arith
few_a_second Us = omega arith
few_a_second Ns = omega arith
few_a_second Ps = omega arith
few_a_second Fs = omega arith
