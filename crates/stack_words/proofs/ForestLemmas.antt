-- Sound instances stand behind their parents, on what they want.
use Rattle.std.proofs.Common.{◌≡◌, ℕ, zero, suc, ◌+◌, ◌<◌, true, List, [], ◌∷◌, ◌++◌, length, slice_get, Option, Some, None, refl, sym, ◌∙◌, ap, subst, arith, append_assoc}
use Rattle.std.specs.Prelude.{nat_lt, nat_le}
use Rattle.std.proofs.lemmas.Bool.Decides.{nat_tests}
use Rattle.std.proofs.lemmas.List.{length_push}
use Rattle.la_base.specs.declared.wires.Wire.{Wire}
use Rattle.la_base.specs.declared.wires.Wire.TheVariants.{Logic, I2c, Spi, Uart, OwLink, OwNet, Nothing}
use Rattle.la_base.specs.Kinds.{same_wire}
use Rattle.kind_table.specs.Kinds.{kind_row}
use Rattle.kind_table.specs.declared.kinds.Kind.{Kind}
use Rattle.stack_words.specs.Instances.{Instance, has_numbers, output_of, stands_on}
use Rattle.stack_words.specs.Sound.{options_fit, parent_fits, is_right, right_from, is_sound, HasParent, IsForest}
use Rattle.stack_words.proofs.OptionLemmas.{both}

wires_are_one : (one other : Wire) → same_wire one other ≡ true → one ≡ other
wires_are_one Logic Logic e = refl
wires_are_one I2c I2c e = refl
wires_are_one Spi Spi e = refl
wires_are_one Uart Uart e = refl
wires_are_one OwLink OwLink e = refl
wires_are_one OwNet OwNet e = refl
wires_are_one Nothing Nothing e = refl
wires_are_one one other e = cc

get_front : {X : Type 0} (xs ys : List X) (k : ℕ) → k < length xs → slice_get (xs ++ ys) k ≡ slice_get xs k
get_front [] ys k low = absurd (omega (arith, low))
get_front (x ∷ xs) ys zero low = refl
get_front (x ∷ xs) ys (suc k) low = get_front xs ys k (omega (arith, low))

on_wire : (parent : Option Instance) (kind : Kind) → stands_on parent kind ≡ true → output_of parent ≡ (kind_row kind).input
on_wire None kind e = cc
on_wire (Some parent) kind e =
    let parts = both (same_wire (kind_row parent.kind).output (kind_row kind).input) (has_numbers (kind_row parent.kind).options parent.options (kind_row kind).parent) e in
    wires_are_one (kind_row parent.kind).output (kind_row kind).input parts.0

parent_right : (before rest : List Instance) (instance : Instance) (parent : Option ℕ) → parent_fits before instance.kind parent ≡ true → HasParent (before ++ rest) (length before + 0) instance parent
parent_right before rest instance None e = sym (wires_are_one Logic (kind_row instance.kind).input e)
parent_right before rest instance (Some parent) e =
    let parts = both (nat_lt parent (length before)) (stands_on (slice_get before parent) instance.kind) e in
    let test = parts.0 in
    let low : parent < length before = grind (arith, nat_tests) in (
      omega arith,
      ap output_of (get_front before rest parent low) ∙ on_wire (slice_get before parent) instance.kind parts.1,
    )

parents_right : (before xs : List Instance) (k : ℕ) (instance : Instance) → right_from before xs ≡ true → slice_get xs k ≡ Some instance → HasParent (before ++ xs) (length before + k) instance instance.parent
parents_right before [] k instance all is = absurd cc
parents_right before (x ∷ xs) zero instance all is =
    let same : x ≡ instance = cc in
    let right = both (is_right before x) (right_from (before ++ x ∷ []) xs) all in
    let fits = both (parent_fits before x.kind x.parent) (options_fit (kind_row x.kind) x.options) right.0 in
    subst (λ (i : Instance). HasParent (before ++ x ∷ xs) (length before + 0) i i.parent) same (parent_right before (x ∷ xs) x x.parent fits.0)
parents_right before (x ∷ xs) (suc k) instance all is =
    let right = both (is_right before x) (right_from (before ++ x ∷ []) xs) all in
    let more = parents_right (before ++ x ∷ []) xs k instance right.1 is in
    let n : length (before ++ x ∷ []) ≡ length before + 1 = length_push before x in
    let place : length (before ++ x ∷ []) + k ≡ length before + suc k = omega (arith, n) in
    subst (λ (l : List Instance). HasParent l (length before + suc k) instance instance.parent) (append_assoc before (x ∷ []) xs)
    (subst (λ (n : ℕ). HasParent ((before ++ x ∷ []) ++ xs) n instance instance.parent) place more)

-- sound instances are a forest
pub sound_forest : (instances : List Instance) → is_sound instances ≡ true → IsForest instances
sound_forest instances sound =
    let parts = both (nat_le (length instances) 24) (right_from [] instances) sound in
    let test = parts.0 in
    record {
      few = grind (arith, nat_tests);
      parents = λ k instance is. let place : 0 + k ≡ k = omega arith in subst (λ (n : ℕ). HasParent instances n instance instance.parent) place (parents_right [] instances k instance parts.1 is);
    }
