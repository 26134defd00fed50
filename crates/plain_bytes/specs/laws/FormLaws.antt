-- What was put is read back.
use Rattle.std.proofs.Common.{◌≡◌, ℕ, ◌+◌, ◌/◌, ◌%◌, ◌^◌, ◌≤◌, ◌<◌, Bool, cond, List, [], ◌∷◌, ◌++◌, length, take, drop, Option, Some, None, refl, sym, ◌∙◌, ap, subst, arith, le-add_right}
use Rattle.std.specs.Int.{Width, w16, w32, w64, byte_len, to_be_bytes, from_be_bytes}
use Rattle.std.proofs.lemmas.Bool.{le-ltb}
use Rattle.std.proofs.lemmas.List.{take_at, drop_at, length-append, append_assoc}
use Rattle.std.proofs.lemmas.Nat.{from_be_bytes-to_be_bytes_2, from_be_bytes-to_be_bytes_4, from_be_bytes-to_be_bytes_8, div-add-mod'}
use Rattle.std.proofs.Math.Nat.{div-lt_iff_lt-mul, mod-lt}
use Rattle.plain_bytes.specs.Forms.{ReadsBack, IsAtMost, byte_at, number_at, halves_at, halves_bytes, halves_joined, option_bytes, option_fits, option_at, some_at, pair_at, option_map, ComesBack}

pub byte_back : ReadsBack (λ n. n < 2 ^ 8) (λ n. n ∷ []) byte_at
byte_back n rest fits = refl

-- a number of as many bytes as it has
number_back : (width : Width) (bytes rest : List ℕ) → length bytes ≡ byte_len width → number_at width (bytes ++ rest) ≡ (from_be_bytes width bytes, rest)
unfolding number_at
number_back width bytes rest len =
    let enough : byte_len width ≤ length (bytes ++ rest) = subst (λ (n : ℕ). byte_len width ≤ n) (sym (length-append bytes rest)) (subst (λ (n : ℕ). n ≤ length bytes + length rest) len (le-add_right (length bytes) (length rest))) in
    ap (λ (b : Bool). cond b (0, []) (from_be_bytes width (take (byte_len width) (bytes ++ rest)), drop (byte_len width) (bytes ++ rest))) (le-ltb (length (bytes ++ rest)) (byte_len width) enough)
    ∙ ap (λ (l : List ℕ). (from_be_bytes width l, drop (byte_len width) (bytes ++ rest))) (take_at bytes rest (byte_len width) len)
    ∙ ap (λ (l : List ℕ). (from_be_bytes width bytes, l)) (drop_at bytes rest (byte_len width) len)

pub back_16 : ReadsBack (λ n. n < 2 ^ 16) (λ n. to_be_bytes w16 n) (number_at w16)
back_16 n rest fits = number_back w16 (to_be_bytes w16 n) rest refl ∙ ap (λ (m : ℕ). (m, rest)) (from_be_bytes-to_be_bytes_2 n fits)

pub back_32 : ReadsBack (λ n. n < 2 ^ 32) (λ n. to_be_bytes w32 n) (number_at w32)
back_32 n rest fits = number_back w32 (to_be_bytes w32 n) rest refl ∙ ap (λ (m : ℕ). (m, rest)) (from_be_bytes-to_be_bytes_4 n fits)

pub back_64 : ReadsBack (λ n. n < 2 ^ 64) (λ n. to_be_bytes w64 n) (number_at w64)
back_64 n rest fits = number_back w64 (to_be_bytes w64 n) rest refl ∙ ap (λ (m : ℕ). (m, rest)) (from_be_bytes-to_be_bytes_8 n fits)

module _ {X : Type 0} (fits : X → Type 0) (bytes_of : X → List ℕ) (read : List ℕ → X × List ℕ) (back : ReadsBack fits bytes_of read) where
  pub option_back : ReadsBack (option_fits fits) (option_bytes bytes_of) (option_at read)
  option_back None rest none = refl
  option_back (Some x) rest some = ap (λ (r : X × List ℕ). some_at r) (back x rest some)

  pub option_at_most : (most : ℕ) → IsAtMost bytes_of most → IsAtMost (option_bytes bytes_of) (1 + most)
  option_at_most most few None = le-add_right 1 most
  option_at_most most few (Some x) = omega (arith, few x)

  module _ {Y : Type 0} (fits_too : Y → Type 0) (bytes_too : Y → List ℕ) (read_too : List ℕ → Y × List ℕ) (back_too : ReadsBack fits_too bytes_too read_too) where
    pub pair_back : ReadsBack (λ (p : X × Y). fits p.0 × fits_too p.1) (λ p. bytes_of p.0 ++ bytes_too p.1) (pair_at read read_too)
    pair_back p rest f =
        let front : read ((bytes_of p.0 ++ bytes_too p.1) ++ rest) ≡ (p.0, bytes_too p.1 ++ rest) = ap read (append_assoc (bytes_of p.0) (bytes_too p.1) rest) ∙ back p.0 (bytes_too p.1 ++ rest) f.0 in
        ap (λ (r : X × List ℕ). ((r.0, (read_too r.1).0), (read_too r.1).1)) front ∙ ap (λ (r : Y × List ℕ). ((p.0, r.0), r.1)) (back_too p.1 rest f.1)

    pub pair_at_most : (most most_too : ℕ) → IsAtMost bytes_of most → IsAtMost bytes_too most_too → IsAtMost (λ (p : X × Y). bytes_of p.0 ++ bytes_too p.1) (most + most_too)
    pair_at_most most most_too few few_too p = omega (arith, length-append (bytes_of p.0) (bytes_too p.1), few p.0, few_too p.1)

-- a number of 128 bits by its halves
pub back_128 : ReadsBack (λ n. n < 2 ^ 128) halves_bytes halves_at
back_128 n rest fits =
    let fits_64 : ℕ → Type 0 = λ m. m < 2 ^ 64 in
    let some : 0 < 2 ^ 64 = omega (arith) in
    let high : n / 2 ^ 64 < 2 ^ 64 = (div-lt_iff_lt-mul {k = 2 ^ 64} {x = n} {y = 2 ^ 64} some).1 fits in
    let low : n % 2 ^ 64 < 2 ^ 64 = mod-lt n {m = 2 ^ 64} some in
    ap halves_joined (pair_back fits_64 (to_be_bytes w64) (number_at w64) back_64 fits_64 (to_be_bytes w64) (number_at w64) back_64 (n / 2 ^ 64, n % 2 ^ 64) rest (high, low))
    ∙ ap (λ (m : ℕ). (m, rest)) (div-add-mod' n (2 ^ 64))

pub option_comes_back : {X P : Type 0} (fits : P → Type 0) (parts_of : X → P) (value_of : P → X) → ComesBack fits parts_of value_of → ComesBack (option_fits fits) (λ (x : Option X). option_map parts_of x) (λ p. option_map value_of p)
option_comes_back fits parts_of value_of comes None f = refl
option_comes_back {X} fits parts_of value_of comes (Some x) f = ap (λ (y : X). Some y) (comes x f)

pub pair_comes_back : {X P Y Q : Type 0} (fits : P → Type 0) (parts_of : X → P) (value_of : P → X) → ComesBack fits parts_of value_of → (fits_too : Q → Type 0) (parts_too : Y → Q) (value_too : Q → Y) → ComesBack fits_too parts_too value_too
    → ComesBack {X = X × Y} {P = P × Q} (λ p. fits p.0 × fits_too p.1) (λ p. (parts_of p.0, parts_too p.1)) (λ p. (value_of p.0, value_too p.1))
pair_comes_back fits parts_of value_of comes fits_too parts_too value_too comes_too p f = λ i. (comes p.0 f.0 i, comes_too p.1 f.1 i)
