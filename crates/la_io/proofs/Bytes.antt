-- Laws of known bytes: how they grow, how they are given away, and that they stay.
use Rattle.std.proofs.Common.{◌≡◌, ℕ, suc, ◌+◌, ◌-◌, List, [], ◌∷◌, ◌++◌, length, take, drop, Option, Some, None, sym, ◌∙◌, ap, arith, append_assoc, take-append-drop}
use Rattle.std.proofs.lemmas.List.{take_rest, take-take, drop-take}
use Rattle.std.specs.Io.KnownBytes.{Appends, Consumes, Keeps}
pub use Rattle.la_io.specs.Grown.{appends_nothing, appends_on}

-- an append, and then nothing
pub appends_kept : (old mid new : Option (List ℕ)) (a : List ℕ) → Appends old mid a → Keeps mid new → Appends old new a
appends_kept None mid new a first kept = tt
appends_kept (Some xs) None new a first kept = absurd first
appends_kept (Some xs) (Some ys) None a first kept = absurd kept
appends_kept (Some xs) (Some ys) (Some zs) a first kept = kept ∙ first

-- what is kept gave nothing
pub kept_none : (old new : Option (List ℕ)) → Keeps old new → Consumes old new []
kept_none None new kept = tt
kept_none (Some xs) None kept = absurd kept
kept_none (Some xs) (Some ys) kept = sym kept

-- one piece given away after another
pub consumes_on : (a b c : Option (List ℕ)) (x y : List ℕ) → Consumes a b x → Consumes b c y → Consumes a c (x ++ y)
consumes_on None b c x y first second = tt
consumes_on (Some xs) None c x y first second = absurd first
consumes_on (Some xs) (Some ys) None x y first second = absurd second
consumes_on (Some xs) (Some ys) (Some zs) x y first second = first ∙ ap (λ (l : List ℕ). x ++ l) second ∙ sym (append_assoc x y zs)

-- a front, and a part of the rest as a range of it
pub take_on : (xs : List ℕ) (i n : ℕ) → take i xs ++ take n (take (length xs - i) (drop i xs)) ≡ take (i + n) xs
take_on xs i n =
    ap (λ (l : List ℕ). take i xs ++ take n l) (take_rest xs i)
    ∙ (λ k. sym (take-take i (i + n) xs (omega arith)) k ++ sym (drop-take i n xs) k)
    ∙ take-append-drop i (take (i + n) xs)

-- a whole list, and a front of what stands behind it
pub take_past : (xs ys : List ℕ) (n : ℕ) → take (length xs + n) (xs ++ ys) ≡ xs ++ take n ys
take_past [] ys n = ap (λ (k : ℕ). take k ys) (omega arith)
take_past (x ∷ xs) ys n =
    let next : length (x ∷ xs) + n ≡ suc (length xs + n) = omega arith in
    ap (λ (k : ℕ). take k (x ∷ xs ++ ys)) next ∙ ap (λ (l : List ℕ). x ∷ l) (take_past xs ys n)
