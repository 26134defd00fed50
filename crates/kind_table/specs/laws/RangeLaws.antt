-- What the values of a row mean where they are in range.
use Rattle.std.proofs.Common.{◌≡◌, ℕ, zero, suc, ◌<◌, ◌≤◌, ◌&&◌, Bool, true, false, List, [], ◌∷◌}
use Rattle.std.proofs.Common.{length, slice_get, Option, Some, None, is_some, refl, sym, ◌∙◌, ap}
use Rattle.std.proofs.Common.{subst, arith}
use Rattle.std.specs.Prelude.{nat_le, nat_lt, option_and_then, unwrap_or, IfSome}
use Rattle.std.specs.List.{list_all, zip}
use Rattle.std.proofs.lemmas.Bool.Decides.{nat_tests}
use Rattle.kind_table.specs.Kinds.{Form, OptionRow, Row, Pin, Number, Choice}
use Rattle.kind_table.specs.Values.{channel_at, given_at, has_groups, maybe_channel_at, number_at}
use Rattle.kind_table.specs.Values.{number_by, number_of, row_in_range, takes}
use Rattle.kind_table.specs.Whole.{NumberFits, usual_fits}

pub both : (a b : Bool) → (a && b) ≡ true → (a ≡ true) × (b ≡ true)
both true true e = (refl, refl)
both true false e = cc
both false b e = cc

all_at : {X Y : Type 0} (p : X × Y → Bool) (xs : List X) (ys : List Y) (k : ℕ) (x : X) (y : Y)
    → list_all p (zip xs ys) ≡ true → slice_get xs k ≡ Some x → slice_get ys k ≡ Some y
    → p (x, y) ≡ true
all_at p [] ys k x y all is at = cc
all_at p (a ∷ xs) [] k x y all is at = cc
all_at p (a ∷ xs) (b ∷ ys) zero x y all is at =
    let one : a ≡ x = cc in
    let two : b ≡ y = cc in
    (λ i. p (sym one i, sym two i)) ∙ (both (p (a, b)) (list_all p (zip xs ys)) all).0
all_at p (a ∷ xs) (b ∷ ys) (suc k) x y all is at =
    all_at p xs ys k x y (both (p (a, b)) (list_all p (zip xs ys)) all).1 is at

within : (least number most : ℕ) → (nat_le least number && nat_le number most) ≡ true
    → (least ≤ number) × (number ≤ most)
within least number most e =
    let parts = both (nat_le least number) (nat_le number most) e in
    let low = parts.0 in
    let high = parts.1 in
    (grind (arith, nat_tests), grind (arith, nat_tests))

below : (number count : ℕ) → nat_lt number count ≡ true → number < count
below number count e = grind (arith, nat_tests)

usual_within : (form : Form) → usual_fits form ≡ true → NumberFits form (number_of form None)
usual_within (Pin required) usual = tt
usual_within (Number least most usual) fits = within least usual most fits
usual_within (Choice words) usual = below 0 (length words) usual

given_within : (bits : ℕ) (form : Form) (value : Option ℕ) → takes bits form value ≡ true
    → usual_fits form ≡ true → NumberFits form (number_of form value)
given_within bits form None taken usual = usual_within form usual
given_within bits (Pin required) (Some number) taken usual = tt
given_within bits (Number least most usual) (Some number) taken fits =
    within least number most taken
given_within bits (Choice words) (Some number) taken usual = below number (length words) taken

-- of values in range each option takes its own, and of each group one is given
pub range_parts : (bits : ℕ) (row : Row) (values : List (Option ℕ))
    → row_in_range bits row values ≡ true
    → (list_all (λ p. takes bits p.0.form p.1) (zip row.options values) ≡ true)
    × (has_groups (λ place. is_some (given_at values place)) row.groups ≡ true)
range_parts bits row values all =
    both (list_all (λ p. takes bits p.0.form p.1) (zip row.options values))
    (has_groups (λ place. is_some (given_at values place)) row.groups) all

module _ (bits : ℕ) (row : Row) (values : List (Option ℕ)) (place : ℕ) (option : OptionRow)
    (all : row_in_range bits row values ≡ true)
    (is : slice_get row.options place ≡ Some option) where
  taken : (value : Option ℕ) → slice_get values place ≡ Some value
      → takes bits option.form value ≡ true
  taken value at =
      all_at (λ p. takes bits p.0.form p.1) row.options values place option value
      (range_parts bits row values all).0 is at

  -- the number of an option is one that it takes
  pub number_within : usual_fits option.form ≡ true
      → NumberFits option.form (number_at row.options values place)
  number_within usual =
      subst (λ (o : Option OptionRow). NumberFits option.form (number_by o (given_at values place)))
      (sym is) (by (slice_get values place) refl)
    where
      by : (o : Option (Option ℕ)) → slice_get values place ≡ o
          → NumberFits option.form (number_of option.form (option_and_then (λ value. value) o))
      by None at = usual_within option.form usual
      by (Some value) at = given_within bits option.form value (taken value at) usual

  module _ (required : Bool) (pin : option.form ≡ Pin required) where
    bit_taken : (bit : ℕ) → slice_get values place ≡ Some (Some bit) → bit < bits
    bit_taken bit at =
        below bit bits (ap (λ (f : Form). takes bits f (Some bit)) (sym pin) ∙ taken (Some bit) at)

    -- the bit of a channel that is given is one of a sample
    pub maybe_channel_within : IfSome (maybe_channel_at values place) (λ bit. bit < bits)
    maybe_channel_within = by (slice_get values place) refl
      where
        by : (o : Option (Option ℕ)) → slice_get values place ≡ o
            → IfSome (option_and_then (λ value. value) o) (λ bit. bit < bits)
        by None at = tt
        by (Some None) at = tt
        by (Some (Some bit)) at = bit_taken bit at

    pub channel_within : 0 < bits → channel_at values place < bits
    channel_within some = by (slice_get values place) refl
      where
        by : (o : Option (Option ℕ)) → slice_get values place ≡ o
            → unwrap_or (option_and_then (λ value. value) o) 0 < bits
        by None at = some
        by (Some None) at = some
        by (Some (Some bit)) at = bit_taken bit at
