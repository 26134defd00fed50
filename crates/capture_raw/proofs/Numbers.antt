-- Numbers that are put together from their highest part on.
use Rattle.std.proofs.Common.{◌≡◌, ℕ, suc, ◌+◌, ◌*◌, ◌^◌, ◌≤◌, ◌<◌, List, drop, length, get_or, ap, arith}
use Rattle.std.proofs.lemmas.List.{drop_more}
use Rattle.std.specs.Int.{bit_at}
use Rattle.capture_raw.specs.Raw.{number, picked}
use Rattle.std.proofs.Math.Nat.{pow-le-pow_right, pow-succ', mul-le-mul_left}

-- one byte more
pub number_more : (bytes : List ℕ) (k : ℕ) → k < length bytes → number (drop k bytes) ≡ get_or bytes k 0 + 256 * number (drop (k + 1) bytes)
number_more bytes k below = ap number (drop_more bytes k 0 below)

-- one pin more
pub picked_more : (pins : List ℕ) (n k : ℕ) → k < length pins → picked (drop k pins) n ≡ bit_at n (get_or pins k 0) + 2 * picked (drop (k + 1) pins) n
picked_more pins n k below = ap (λ (l : List ℕ). picked l n) (drop_more pins k 0 below)

-- a number of some digits, and one digit more
pub digit_more : (base value digits digit : ℕ) → value < base ^ digits → digit < base → base * value + digit < base ^ (digits + 1)
digit_more base value digits digit fits small =
    let next : base ^ suc digits ≡ base * base ^ digits = pow-succ' base digits in
    let same : base ^ (digits + 1) ≡ base ^ suc digits = ap (λ (k : ℕ). base ^ k) (omega arith) in
    let below : base * (value + 1) ≤ base * base ^ digits = mul-le-mul_left base (omega arith) in
    let apart : base * (value + 1) ≡ base * value + base = grind arith in
    omega (arith, next, same, below, apart)

-- no more digits than these
pub digits_fit : (base value digits most : ℕ) → 0 < base → value < base ^ digits → digits ≤ most → value < base ^ most
digits_fit base value digits most some fits few =
    let larger : base ^ digits ≤ base ^ most = pow-le-pow_right {n = base} some few in omega (arith, larger)
