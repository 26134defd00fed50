-- Samples between two times.
use Rattle.std.proofs.Common.{◌≡◌, ℕ, zero, suc, ◌+◌, ◌*◌, ◌≤◌, ◌<◌, List, [], ◌∷◌, ◌++◌, map, replicate, refl, ◌∙◌, ap, arith, nat_lt, if◌then◌else◌}
use Rattle.std.proofs.lemmas.Bool.{cond-true, cond-false, lt-ltb, le-ltb}
use Rattle.std.proofs.Math.Nat.{mul-le-mul_right}
use Rattle.std.specs.List.{range_with_len}
use Rattle.la_base.specs.Naming.{same_name}
use Rattle.capture_vcd.specs.Body.{Channel, Event, Reaches, Sets, digit_bit, digits_at, word_at, words_from}
use Rattle.capture_vcd.specs.Stretches.{StretchIsRun, TimesTo, digits_now, word_now}
use Rattle.capture_vcd.proofs.Bodies.{map_more}

-- at a time behind all of these and before the next
now_at : (events more : List Event) (time end next : ℕ) (code so_far : List ℕ) → TimesTo end events → end ≤ time → time < next → digits_at time code so_far (events ++ Reaches next ∷ more) ≡ digits_now code so_far events
now_at [] more time end next code so_far times late early = cond-true (nat_lt time next) so_far (digits_at time code so_far more) (lt-ltb time next early)
now_at (Reaches n ∷ events) more time end next code so_far times late early =
    cond-false (nat_lt time n) so_far (digits_at time code so_far (events ++ Reaches next ∷ more)) (le-ltb time n (omega (arith, times.0, late)))
    ∙ now_at events more time end next code so_far times.1 late early
now_at (Sets other digits ∷ events) more time end next code so_far times late early = now_at events more time end next code (if same_name code other then digits else so_far) times late early

word_is : (channels : List Channel) (events more : List Event) (time end next : ℕ) → TimesTo end events → end ≤ time → time < next → word_at channels (events ++ Reaches next ∷ more) time ≡ word_now channels events
word_is [] events more time end next times late early = refl
word_is (channel ∷ channels) events more time end next times late early =
    λ i. digit_bit channel.1 (now_at events more time end next channel.0 [] times late early i) + 2 * word_is channels events more time end next times late early i

pub map_run : (f : ℕ → ℕ) (a n value : ℕ) → ((k : ℕ) → a ≤ k → k < a + n → f k ≡ value) → map f (range_with_len a n) ≡ replicate n value
map_run f a zero value same = refl
map_run f a (suc n) value same = λ i. same a (omega arith) (omega arith) i ∷ map_run f (a + 1) n value (λ k low high. same k (omega (arith, low)) (omega (arith, high))) i

pub stretch_is_run : StretchIsRun
unfolding words_from
stretch_is_run channels events more start down end next first count times late early =
    let f = λ (k : ℕ). word_at channels (events ++ Reaches next ∷ more) (start + k * down) in
    map_more f 0 first count
    ∙ ap (λ (l : List ℕ). map f (range_with_len 0 first) ++ l) (map_run f (0 + first) count (word_now channels events) (λ k low high.
    let above : first * down ≤ k * down = mul-le-mul_right down (omega (arith, low)) in
    word_is channels events more (start + k * down) end next times (omega (arith, above, late)) (early k (omega (arith, high)))))
