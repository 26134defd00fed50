-- The samples that count, as an input goes on.
use Rattle.std.proofs.Common.{◌≡◌, ℕ, zero, suc, ◌+◌, ◌-◌, ◌^◌, ◌≤◌, ◌<◌, min, List, [], ◌∷◌, ◌++◌, map, take, length, replicate, refl, sym, ◌∙◌, ap, arith, length-take}
use Rattle.std.proofs.lemmas.List.{append-nil, take_all, take-replicate, length-replicate, replicate-append-replicate, map-append, length-map}
use Rattle.std.proofs.lemmas.Bool.{cases_lt}
use Rattle.std.proofs.Common.{inl, inr}
use Rattle.la_base.specs.declared.samples.Run.{Run}
use Rattle.la_base.specs.Samples.{samples}
use Rattle.la_base.specs.declared.wires.Packet.{Packet}
use Rattle.decoder_core.specs.Inputs.{Item, Sample, Pack, samples_in, counted_samples}
use Rattle.decoder_core.specs.laws.CountedLaws.{take_none, samples_append}

take_both : (n : ℕ) (xs ys : List ℕ) → take n (xs ++ ys) ≡ take n xs ++ take (n - length xs) ys
take_both n [] ys = let all : n ≡ n - 0 = omega arith in ap (λ (l : List ℕ). l ++ take n ys) (sym (take_none n)) ∙ ap (λ (k : ℕ). take n [] ++ take k ys) all
take_both zero (x ∷ xs) ys = let nothing : 0 ≡ 0 - length (x ∷ xs) = omega arith in ap (λ (k : ℕ). take k ys) nothing
take_both (suc n) (x ∷ xs) ys =
    let less : suc n - length (x ∷ xs) ≡ n - length xs = omega arith in
    ap (λ (l : List ℕ). x ∷ l) (take_both n xs ys) ∙ ap (λ (k : ℕ). x ∷ (take n xs ++ take k ys)) (sym less)

samples_of_samples : (l : List ℕ) → samples_in (map Sample l) ≡ l
samples_of_samples [] = refl
samples_of_samples (v ∷ l) = ap (λ (k : List ℕ). v ∷ k) (samples_of_samples l)

-- no more samples than items
pub samples_few : (items : List Item) → length (samples_in items) ≤ length items
samples_few [] = omega arith
samples_few (Sample v ∷ items) = omega (arith, samples_few items)
samples_few (Pack p ∷ items) = omega (arith, samples_few items)

-- more items: those that still count
pub counted_more : (input more : List Item) → counted_samples (input ++ more) ≡ counted_samples input ++ take (2 ^ 60 - length (counted_samples input)) (samples_in more)
unfolding counted_samples
counted_more input more =
    let had = samples_in input in
    let room : 2 ^ 60 - length had ≡ 2 ^ 60 - length (take (2 ^ 60) had) = omega (arith, length-take (2 ^ 60) had) in
    ap (λ (l : List ℕ). take (2 ^ 60) l) (samples_append input more) ∙ take_both (2 ^ 60) had (samples_in more)
    ∙ ap (λ (k : ℕ). take (2 ^ 60) had ++ take k (samples_in more)) room

pub counted_more_samples : (input : List Item) (l : List ℕ) → counted_samples (input ++ map Sample l) ≡ counted_samples input ++ take (2 ^ 60 - length (counted_samples input)) l
counted_more_samples input l =
    counted_more input (map Sample l) ∙ ap (λ (k : List ℕ). counted_samples input ++ take (2 ^ 60 - length (counted_samples input)) k) (samples_of_samples l)

-- a packet, and nothing, don't count
pub counted_packet : (input : List Item) (p : Packet) → counted_samples (input ++ Pack p ∷ []) ≡ counted_samples input
counted_packet input p = counted_more input (Pack p ∷ []) ∙ ap (λ (l : List ℕ). counted_samples input ++ l) (take_none (2 ^ 60 - length (counted_samples input))) ∙ append-nil (counted_samples input)

pub counted_nothing : (input : List Item) → counted_samples (input ++ []) ≡ counted_samples input
counted_nothing input = ap counted_samples (append-nil input)

-- a front of equal samples
pub take_equal : (room len : ℕ) (v : ℕ) → take room (replicate len v) ≡ replicate (min len room) v
take_equal room len v = elim (cases_lt room len) [
  | inl less ↦ let m : min len room ≡ room = omega arith in take-replicate room len v (omega arith) ∙ ap (λ (k : ℕ). replicate k v) (sym m)
  | inr more ↦ let m : min len room ≡ len = omega arith in take_all room (replicate len v) (omega (arith, length-replicate len v)) ∙ ap (λ (k : ℕ). replicate k v) (sym m)
]

pub map_equal : (k v : ℕ) → map Sample (replicate k v) ≡ replicate k (Sample v)
map_equal zero v = refl
map_equal (suc k) v = ap (λ (l : List Item). Sample v ∷ l) (map_equal k v)

-- a run in two parts
pub parts_of_run : (run : Run) (used : ℕ) → used ≤ run.len → map Sample (samples run) ≡ map Sample (replicate used run.value) ++ replicate (run.len - used) (Sample run.value)
unfolding samples
parts_of_run run used within =
    let total : used + (run.len - used) ≡ run.len = omega arith in
    ap (λ (k : ℕ). map Sample (replicate k run.value)) (sym total)
    ∙ ap (λ (l : List ℕ). map Sample l) (sym (replicate-append-replicate used (run.len - used) run.value))
    ∙ map-append Sample (replicate used run.value) (replicate (run.len - used) run.value)
    ∙ ap (λ (l : List Item). map Sample (replicate used run.value) ++ l) (map_equal (run.len - used) run.value)

pub samples_are : (run : Run) → samples run ≡ replicate run.len run.value
unfolding samples
samples_are run = refl

pub counted_empty : counted_samples [] ≡ []
unfolding counted_samples
counted_empty = take_none (2 ^ 60)

pub take_past : (xs ys : List ℕ) (n k : ℕ) → k ≡ length xs + n → take k (xs ++ ys) ≡ xs ++ take n ys
take_past xs ys n k is =
    let rest : k - length xs ≡ n = omega arith in
    take_both k xs ys ∙ (λ i. take_all k xs (omega arith) i ++ take (rest i) ys)

-- a run has items
pub run_has_items : (run : Run) → 0 < length (map Sample (samples run))
unfolding samples
run_has_items run = omega (arith, length-map (replicate run.len run.value) Sample, length-replicate run.len run.value, run.not_empty)
