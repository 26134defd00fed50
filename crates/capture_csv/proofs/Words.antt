-- The words between the times of records.
use Rattle.std.proofs.Common.{◌≡◌, ℕ, zero, suc, ◌+◌, ◌-◌, ◌*◌, ◌/◌, ◌^◌, ◌≤◌, ◌<◌, List, [], ◌∷◌, ◌++◌, map, replicate, refl, ◌∙◌, ap, arith, Bool, nat_le, if◌then◌else◌}
use Rattle.std.proofs.lemmas.Bool.{cond-true, cond-false, le-leb, lt-leb}
use Rattle.std.proofs.Math.Nat.{div-mul-le_self, div-zero, mul-le-mul_right}
use Rattle.std.proofs.lemmas.Nat.{le-div}
use Rattle.std.specs.List.{range_with_len}
use Rattle.capture_csv.specs.Csv.{Taken, levels_at, word_of, words_from}
use Rattle.capture_csv.specs.Times.{sample_at}
use Rattle.capture_csv.specs.Stretches.{LateFrom, TimesTo, levels_now}

-- lists by their places
pub map_same : (f g : ℕ → ℕ) (a n : ℕ) → ((k : ℕ) → k < a + n → f k ≡ g k) → map f (range_with_len a n) ≡ map g (range_with_len a n)
map_same f g a zero same = refl
map_same f g a (suc n) same = λ i. same a (omega arith) i ∷ map_same f g (a + 1) n (λ k less. same k (omega (arith, less))) i

pub map_more : (f : ℕ → ℕ) (a n d : ℕ) → map f (range_with_len a (n + d)) ≡ map f (range_with_len a n) ++ map f (range_with_len (a + n) d)
map_more f a zero d = let none : a ≡ a + 0 = omega arith in let left : 0 + d ≡ d = omega arith in (λ i. map f (range_with_len (none i) (left i)))
map_more f a (suc n) d =
    let next : suc n + d ≡ suc (n + d) = omega arith in
    let place : a + 1 + n ≡ a + suc n = omega arith in
    ap (λ (k : ℕ). map f (range_with_len a k)) next ∙ ap (λ (l : List ℕ). f a ∷ l) (map_more f (a + 1) n d ∙ ap (λ (k : ℕ). map f (range_with_len (a + 1) n) ++ map f (range_with_len k d)) place)

map_run : (f : ℕ → ℕ) (a n value : ℕ) → ((k : ℕ) → a ≤ k → k < a + n → f k ≡ value) → map f (range_with_len a n) ≡ replicate n value
map_run f a zero value same = refl
map_run f a (suc n) value same = λ i. same a (omega arith) (omega arith) i ∷ map_run f (a + 1) n value (λ k low high. same k (omega (arith, low)) (omega (arith, high))) i

quotient_rises : (d m n : ℕ) → m ≤ n → m / d ≤ n / d
quotient_rises zero m n few = omega (arith, div-zero m)
quotient_rises (suc d) m n few = le-div (m / suc d) n (suc d) (omega arith) (omega (arith, few, div-mul-le_self m (suc d)))

-- a later time has a later sample
pub sample_rises : (num den start x y : ℕ) → x ≤ y → sample_at num den start x ≤ sample_at num den start y
sample_rises num den start x y few = quotient_rises (10 ^ 12 * den) ((x - start) * num) ((y - start) * num) (mul-le-mul_right num (omega (arith, few)))

-- records from a time on change nothing before its sample
pub late_same : (num den start k end : ℕ) (so_far : List Bool) (taken rest : List Taken) → LateFrom end rest → k < sample_at num den start end → levels_at num den start k so_far (taken ++ rest) ≡ levels_at num den start k so_far taken
late_same num den start k end so_far (t ∷ taken) rest late less = late_same num den start k end (if nat_le (sample_at num den start t.time) k then t.levels else so_far) taken rest late less
late_same num den start k end so_far [] [] late less = refl
late_same num den start k end so_far [] (t ∷ rest) late less =
    let rises = sample_rises num den start end t.time late.0 in
    ap (λ (l : List Bool). levels_at num den start k l rest) (cond-false (nat_le (sample_at num den start t.time) k) _ _ (lt-leb (sample_at num den start t.time) k (omega (arith, rises, less))))
    ∙ late_same num den start k end so_far [] rest late.1 less

-- from the sample of the last record on its levels hold
pub now_at : (num den start k end : ℕ) (so_far : List Bool) (taken : List Taken) → TimesTo end taken → sample_at num den start end ≤ k → levels_at num den start k so_far taken ≡ levels_now so_far taken
now_at num den start k end so_far [] times late = refl
now_at num den start k end so_far (t ∷ taken) times late =
    let rises = sample_rises num den start t.time end times.0 in
    ap (λ (l : List Bool). levels_at num den start k l taken) (cond-true (nat_le (sample_at num den start t.time) k) _ _ (le-leb (sample_at num den start t.time) k (omega (arith, rises, late))))
    ∙ now_at num den start k end t.levels taken times.1 late

-- fewer samples are the first of more
pub words_longer : (num den : ℕ) (pins : List ℕ) (start end n m : ℕ) (taken rest : List Taken) → LateFrom end rest → n ≤ sample_at num den start end → n ≤ m
    → (more : List ℕ) × (words_from num den pins start (taken ++ rest) m ≡ words_from num den pins start taken n ++ more)
unfolding words_from
words_longer num den pins start end n m taken rest late within few =
    let f = λ (k : ℕ). word_of pins (levels_at num den start k [] taken) in
    let g = λ (k : ℕ). word_of pins (levels_at num den start k [] (taken ++ rest)) in
    let total : m ≡ n + (m - n) = omega (arith, few) in (
      map g (range_with_len (0 + n) (m - n)),
      ap (λ (k : ℕ). map g (range_with_len 0 k)) total ∙ map_more g 0 n (m - n)
          ∙ ap (λ (l : List ℕ). l ++ map g (range_with_len (0 + n) (m - n))) (map_same g f 0 n (λ k less. ap (λ (l : List Bool). word_of pins l) (late_same num den start k end [] taken rest late (omega (arith, less, within))))),
    )

-- the samples from that of the last record on, before those of the records behind it, are one run
pub stretch_is_run : (num den : ℕ) (pins : List ℕ) (start end next : ℕ) (taken rest : List Taken) (first count : ℕ) → TimesTo end taken → LateFrom next rest → first ≡ sample_at num den start end → first + count ≤ sample_at num den start next
    → words_from num den pins start (taken ++ rest) (first + count) ≡ words_from num den pins start taken first ++ replicate count (word_of pins (levels_now [] taken))
unfolding words_from
stretch_is_run num den pins start end next taken rest first count times late at within =
    let f = λ (k : ℕ). word_of pins (levels_at num den start k [] taken) in
    let g = λ (k : ℕ). word_of pins (levels_at num den start k [] (taken ++ rest)) in
    let same : (k : ℕ) → k < first + count → g k ≡ f k = λ k less. ap (λ (l : List Bool). word_of pins l) (late_same num den start k next [] taken rest late (omega (arith, less, within))) in
    map_more g 0 first count
    ∙ (λ i. map_same g f 0 first (λ k less. same k (omega (arith, less))) i ++ map_run g (0 + first) count (word_of pins (levels_now [] taken)) (λ k low high.
    same k (omega (arith, high)) ∙ ap (λ (l : List Bool). word_of pins l) (now_at num den start k end [] taken times (omega (arith, low, at)))) i)

-- and so is the sample of the last record alone
pub last_is_run : (num den : ℕ) (pins : List ℕ) (start end : ℕ) (taken : List Taken) (first : ℕ) → TimesTo end taken → first ≡ sample_at num den start end
    → words_from num den pins start taken (first + 1) ≡ words_from num den pins start taken first ++ replicate 1 (word_of pins (levels_now [] taken))
unfolding words_from
last_is_run num den pins start end taken first times at =
    let f = λ (k : ℕ). word_of pins (levels_at num den start k [] taken) in
    map_more f 0 first 1 ∙ ap (λ (l : List ℕ). map f (range_with_len 0 first) ++ l) (map_run f (0 + first) 1 (word_of pins (levels_now [] taken)) (λ k low high.
    ap (λ (l : List Bool). word_of pins l) (now_at num den start k end [] taken times (omega (arith, low, at)))))
