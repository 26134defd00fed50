-- The samples of a transaction, one after another.
use Rattle.std.proofs.Common.{◌≡◌, ℕ, zero, suc, ◌*◌, List, [], ◌∷◌, ◌++◌, length, refl, ◌∙◌, ap, arith, length-append}
use Rattle.std.specs.List.{flat_map}
use Rattle.capture_make.specs.declared.drawing.Sent.{Sent}
use Rattle.capture_make.specs.Made.{block, made, sent_from}
use Rattle.capture_make.specs.Levels.{sample_at}

-- the first so many samples
abbrev pub first_of : Sent → ℕ → List ℕ
first_of s zero = []
first_of s (suc k) = first_of s k ++ sample_at s k ∷ []

pub block_is : (s : Sent) → first_of s 120 ≡ block s
unfolding block
block_is s = refl

pub block_length : (s : Sent) → length (block s) ≡ 120
unfolding block
block_length s = refl

all_length : (list : List Sent) → length (flat_map block list) ≡ 120 * length list
all_length [] = refl
all_length (s ∷ list) =
    let a = length-append (block s) (flat_map block list) in
    let b = block_length s in
    let c = all_length list in
    omega (arith, a, b, c)

pub sent_length : (seed j count : ℕ) → length (sent_from seed j count) ≡ count
sent_length seed j zero = refl
sent_length seed j (suc count) = ap suc (sent_length seed (suc j) count)

pub made_length : (seed count : ℕ) → length (made seed count) ≡ 120 * count
unfolding made
made_length seed count = all_length (sent_from seed 0 count) ∙ ap (λ (n : ℕ). 120 * n) (sent_length seed 0 count)
