-- The number of some levels, with one more of them.
use Rattle.std.proofs.Common.{◌≡◌, ℕ, ◌+◌, ◌*◌, ◌^◌, ◌<◌, ◌≤◌, Bool, false, List, length, take, get_or, ◌∙◌, ap, arith, subst, length-take-le, length-take}
use Rattle.std.proofs.lemmas.List.{take_more}
use Rattle.std.proofs.Math.Pow.{pow_mono}
use Rattle.list_cuts.specs.Bits.{bit_of, high_first, low_first}
use Rattle.list_cuts.proofs.BitLaws.{high_push, high_below, low_push, low_below}

module _ (levels : List Bool) (i : ℕ) (within : i < length levels) where
  taken : length (take i levels) ≡ i
  taken = length-take-le i levels (omega arith)

  pub low_more : low_first (take (i + 1) levels) ≡ low_first (take i levels) + bit_of (get_or levels i false) * 2 ^ i
  low_more =
      ap (λ l. low_first l) (take_more levels i false within)
      ∙ low_push (take i levels) (get_or levels i false)
      ∙ ap (λ n. low_first (take i levels) + bit_of (get_or levels i false) * 2 ^ n) taken

  pub high_more : high_first (take (i + 1) levels) ≡ 2 * high_first (take i levels) + bit_of (get_or levels i false)
  high_more = ap (λ l. high_first l) (take_more levels i false within) ∙ high_push (take i levels) (get_or levels i false)

  module _ (few : i ≤ 31) where
    small : 2 ^ i ≤ 2 ^ 31
    small = pow_mono few

    pub low_small : low_first (take i levels) < 2 ^ 31
    low_small = let below = subst (λ n. low_first (take i levels) < 2 ^ n) taken (low_below (take i levels)) in omega (arith, below, small)

    pub high_small : high_first (take i levels) < 2 ^ 31
    high_small = let below = subst (λ n. high_first (take i levels) < 2 ^ n) taken (high_below (take i levels)) in omega (arith, below, small)

-- the number of so many levels
pub low_below_count : (levels : List Bool) (n : ℕ) → low_first (take n levels) < 2 ^ n
low_below_count levels n =
    let few : length (take n levels) ≤ n = omega (arith, length-take n levels) in
    let most = pow_mono few in
    omega (arith, low_below (take n levels), most)
