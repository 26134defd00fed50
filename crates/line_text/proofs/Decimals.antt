-- The last two digits of a number, and texts that are copied with what doesn't count behind them.
use Rattle.std.proofs.Common.{◌≡◌, ℕ, ◌+◌, ◌-◌, ◌/◌, ◌%◌, ◌^◌, ◌<◌, ◌≤◌, List, [], ◌∷◌, ◌++◌, length, map, take, sym, ap, ◌∙◌, arith, append_assoc, length-append, length-take-le, take-take, take_at, take-add, drop_at}
use Rattle.std.proofs.lemmas.Fmt.{decimal-digits_of}
use Rattle.std.proofs.lemmas.Int.Digits.{digits_of_step}
use Rattle.std.proofs.lemmas.List.{map-append}
use Rattle.std.proofs.lemmas.Slice.{take-put_mid}
use Rattle.std.specs.Fmt.{decimal}
use Rattle.std.specs.Int.Digits.{digits_of}
use borrow.Rule.Slice.PartMut.{put_mid}

-- a number from 10 on is written as its tens and one digit more
last_digit : (n : ℕ) → 10 ≤ n → n < 2 ^ 64 → decimal n ≡ decimal (n / 10) ++ (48 + n % 10) ∷ []
last_digit n some fits =
    decimal-digits_of n (omega arith) fits
    ∙ ap (map (λ d. 48 + d)) (digits_of_step 10 n (omega arith) (omega arith))
    ∙ map-append (λ d. 48 + d) (digits_of 10 (n / 10)) (n % 10 ∷ [])
    ∙ ap (λ (l : List ℕ). l ++ (48 + n % 10) ∷ []) (sym (decimal-digits_of (n / 10) (omega arith) (omega arith)))

-- one from 100 on as its hundreds and two digits more
pub last_two : (n : ℕ) → 100 ≤ n → n < 2 ^ 64 → decimal n ≡ (decimal (n / 100) ++ (48 + n % 100 / 10) ∷ []) ++ (48 + n % 100 % 10) ∷ []
last_two n some fits =
    let hundreds : n / 10 / 10 ≡ n / 100 = omega arith in
    let ten : n / 10 % 10 ≡ n % 100 / 10 = omega arith in
    let one : n % 10 ≡ n % 100 % 10 = omega arith in
    last_digit n (omega arith) fits
    ∙ ap (λ (l : List ℕ). l ++ (48 + n % 10) ∷ []) (last_digit (n / 10) (omega arith) (omega arith))
    ∙ (λ i. (decimal (hundreds i) ++ (48 + ten i) ∷ []) ++ (48 + one i) ∷ [])

-- two more digits behind those of the hundreds, in place of the two that stand there
pub last_two_anew : (digits : List ℕ) (number next last : ℕ) → digits ≡ decimal number → number < 2 ^ 64 → next < 2 ^ 64 → 100 ≤ next → next / 100 ≡ number / 100 → last ≡ next % 100
    → (2 ≤ length digits) × ((take (length digits - 2) digits ++ (48 + last / 10) ∷ []) ++ (48 + last % 10) ∷ [] ≡ decimal next)
last_two_anew digits number next last is fits next_fits some same last_is =
    let front = decimal (number / 100) in
    let x = 48 + number % 100 / 10 in
    let y = 48 + number % 100 % 10 in
    let parts = is ∙ last_two number (omega arith) fits in
    let count : length digits ≡ length front + 2 = omega (arith, ap length parts, length-append (front ++ x ∷ []) (y ∷ []), length-append front (x ∷ [])) in
    let behind : length front ≡ length digits - 2 = omega arith in
    let before = ap (take (length digits - 2)) (parts ∙ append_assoc front (x ∷ []) (y ∷ [])) ∙ take_at front (x ∷ y ∷ []) (length digits - 2) behind ∙ ap decimal (sym same) in
    (omega arith, (λ i. (before i ++ (48 + last_is i / 10) ∷ []) ++ (48 + last_is i % 10) ∷ []) ∙ sym (last_two next some next_fits))

-- one from 10,000 on as its myriads and four digits more
last_four : (n : ℕ) → 10000 ≤ n → n < 2 ^ 64 → decimal n ≡ decimal (n / 10000) ++ (48 + n % 10000 / 100 / 10) ∷ (48 + n % 10000 / 100 % 10) ∷ (48 + n % 10000 % 100 / 10) ∷ (48 + n % 10000 % 100 % 10) ∷ []
last_four n some fits =
    let front = decimal (n / 10000) in
    let myriads : n / 100 / 100 ≡ n / 10000 = omega arith in
    let high : n / 100 % 100 ≡ n % 10000 / 100 = omega arith in
    let low : n % 100 ≡ n % 10000 % 100 = omega arith in
    let a = 48 + n % 10000 / 100 / 10 in
    let b = 48 + n % 10000 / 100 % 10 in
    let c = 48 + n % 10000 % 100 / 10 in
    let d = 48 + n % 10000 % 100 % 10 in
    last_two n (omega arith) fits
    ∙ (λ i. (last_two (n / 100) (omega arith) (omega arith) i ++ (48 + low i / 10) ∷ []) ++ (48 + low i % 10) ∷ [])
    ∙ (λ i. (((decimal (myriads i) ++ (48 + high i / 10) ∷ []) ++ (48 + high i % 10) ∷ []) ++ c ∷ []) ++ d ∷ [])
    ∙ append_assoc ((front ++ a ∷ []) ++ b ∷ []) (c ∷ []) (d ∷ [])
    ∙ append_assoc (front ++ a ∷ []) (b ∷ []) (c ∷ d ∷ [])
    ∙ append_assoc front (a ∷ []) (b ∷ c ∷ d ∷ [])

-- four more digits behind those of the myriads, in place of the four that stand there
pub last_four_anew : (digits : List ℕ) (number next last : ℕ) → digits ≡ decimal number → number < 2 ^ 64 → next < 2 ^ 64 → 10000 ≤ next → next / 10000 ≡ number / 10000 → last ≡ next % 10000
    → (4 ≤ length digits) × (take (length digits - 4) digits ++ (48 + last / 100 / 10) ∷ (48 + last / 100 % 10) ∷ (48 + last % 100 / 10) ∷ (48 + last % 100 % 10) ∷ [] ≡ decimal next)
last_four_anew digits number next last is fits next_fits some same last_is =
    let front = decimal (number / 10000) in
    let four = (48 + number % 10000 / 100 / 10) ∷ (48 + number % 10000 / 100 % 10) ∷ (48 + number % 10000 % 100 / 10) ∷ (48 + number % 10000 % 100 % 10) ∷ [] in
    let parts : digits ≡ front ++ four = is ∙ last_four number (omega arith) fits in
    let count : length digits ≡ length front + 4 = omega (arith, ap length parts, length-append front four) in
    let behind : length front ≡ length digits - 4 = omega arith in
    let before = ap (take (length digits - 4)) parts ∙ take_at front four (length digits - 4) behind ∙ ap decimal (sym same) in
    (omega arith, (λ i. before i ++ (48 + last_is i / 100 / 10) ∷ (48 + last_is i / 100 % 10) ∷ (48 + last_is i % 100 / 10) ∷ (48 + last_is i % 100 % 10) ∷ []) ∙ sym (last_four next some next_fits))

-- of a part that is written into a buffer the first n elements count
pub front_copied : (at n k : ℕ) (buffer text : List ℕ) → length text ≡ k → n ≤ k → at + k ≤ length buffer → take (at + n) (put_mid at k buffer text) ≡ take at buffer ++ take n text
front_copied at n k buffer text long few fits =
    let front : length (take at buffer) ≡ at = length-take-le at buffer (omega arith) in
    sym (take-take (at + n) (at + k) (put_mid at k buffer text) (omega arith))
    ∙ ap (take (at + n)) (take-put_mid at k buffer text (at + k) (omega arith) (omega arith))
    ∙ take-add at n (take at buffer ++ text)
    ∙ (λ i. take_at (take at buffer) text at front i ++ take n (drop_at (take at buffer) text at front i))
