-- The names of channels, one after another.
use Rattle.std.proofs.Common.{◌≡◌, ℕ, ◌+◌, [], ◌∷◌, ◌++◌, length, codes, refl, arith}
use Rattle.std.specs.Fmt.{decimal}
use Rattle.std.proofs.lemmas.List.FromFn.{map-range_with_len_more, length-map-range_with_len}
use Rattle.capture_csv.specs.Csv.{plain_names}

pub no_names : [] ≡ plain_names 0
unfolding plain_names
no_names = refl

pub names_more : (n : ℕ) → plain_names (n + 1) ≡ plain_names n ++ (codes "D" ++ decimal n) ∷ []
unfolding plain_names
names_more n = map-range_with_len_more (λ channel. codes "D" ++ decimal channel) 0 n n (omega arith)

pub names_len : (n : ℕ) → length (plain_names n) ≡ n
unfolding plain_names
names_len n = length-map-range_with_len (λ channel. codes "D" ++ decimal channel) 0 n
