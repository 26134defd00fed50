-- The names of channels, one after another.
use Rattle.std.proofs.Common.{◌≡◌, ℕ, ◌+◌, [], ◌∷◌, ◌++◌, length, codes, refl, arith}
use Rattle.std.specs.Fmt.{decimal}
use Rattle.std.proofs.lemmas.List.FromFn.{map-range_with_len_more, length-map-range_with_len}
use Rattle.capture_raw.specs.Raw.{raw_names}

pub no_names : [] ≡ raw_names 0
unfolding raw_names
no_names = refl

pub names_more : (n : ℕ) → raw_names (n + 1) ≡ raw_names n ++ (codes "D" ++ decimal n) ∷ []
unfolding raw_names
names_more n = map-range_with_len_more (λ channel. codes "D" ++ decimal channel) 0 n n (omega arith)

pub names_len : (n : ℕ) → length (raw_names n) ≡ n
unfolding raw_names
names_len n = length-map-range_with_len (λ channel. codes "D" ++ decimal channel) 0 n
