-- A point that is taken in place: it gives nothing, and what is held is what follows it.
use Rattle.std.proofs.Common.{refl, ◌≡◌, ℕ, ◌+◌, ◌<◌, ◌≤◌, min, Bool, true, false, not, [], List, sym, ◌∙◌, ap, subst, arith, nat_lt, ◌==◌, ◌&&◌, if◌then◌else◌, slice_index}
use Rattle.std.proofs.lemmas.Bool.{true≢false}
use Rattle.std.proofs.lemmas.Bool.Decides.{nat_tests}
use Rattle.std.proofs.lemmas.List.FromFn.{get_or-map-range_with_len}
use Rattle.la_base.specs.declared.samples.Rate.{Rate}
use Rattle.dec_uart.specs.declared.held.Held.{Held}
use Rattle.dec_uart.specs.declared.held.Held.TheVariants as held
use Rattle.dec_uart.specs.declared.options.UartOpts.{UartOpts}
use Rattle.dec_uart.specs.declared.options.Parity.{Parity}
use Rattle.dec_uart.specs.declared.options.Parity.TheVariants.{Without, Odd, Even, Zero, One}
use Rattle.dec_uart.specs.Frames.{bit_point, last_bit, parity_bits, parity_of, points_of}
use Rattle.dec_uart.specs.Ranges.{InRange}
use Rattle.dec_uart.specs.laws.Machine.{is_point, point_held, point_outs, point_taken, stop_held, stop_outs}

-- where a bit is read, by the table
pub at_point : (opts : UartOpts) (rate : Rate) (points : List ℕ) (i : ℕ) → points ≡ points_of opts rate → i < 13 → slice_index points i ≡ bit_point opts rate i
at_point opts rate points i are within =
    let here : 0 + i ≡ i = omega arith in
    ap (λ (l : List ℕ). slice_index l i) are ∙ get_or-map-range_with_len (bit_point opts rate) 0 13 i i 0 within here

-- there are at most so many
parity_few : (parity : Parity) → parity_bits parity ≤ 1
parity_few Without = omega arith
parity_few Odd = omega arith
parity_few Even = omega arith
parity_few Zero = omega arith
parity_few One = omega arith

pub last_few : {most : ℕ} (opts : UartOpts) → InRange most opts → last_bit opts < 13
last_few opts ranges = omega (arith, parity_few (parity_of opts.parity), ranges.bits.1, ranges.stop.1)

both_first : (one other : Bool) → true ≡ (one && other) → true ≡ one
both_first true other is = refl
both_first false other is = is

less : (i last : ℕ) → true ≡ nat_lt i last → i < last
less i last is = grind (arith, nat_tests)

module _ {A : Type 0} (taken other idle behind : A) where
  same_by : (early high : Bool) → true ≡ (early && not high) → (if early && not high then taken else other) ≡ (if high then idle else (if early then taken else behind))
  same_by true true is = absurd (true≢false is)
  same_by true false is = refl
  same_by false high is = absurd (true≢false is)

  none_by : (early high : Bool) → true ≡ (early && not high) → (if high then idle else (if early then taken else behind)) ≡ taken
  none_by true true is = absurd (true≢false is)
  none_by true false is = refl
  none_by false high is = absurd (true≢false is)

  left_by : (takes : Bool) → false ≡ takes → (if takes then taken else other) ≡ other
  left_by true is = absurd (true≢false (sym is))
  left_by false is = refl

module _ (opts : UartOpts) (at : ℕ) (level : Bool) where
  number : (i : ℕ) → true ≡ (nat_lt i (last_bit opts) && not ((i == 0) && level)) → i ≡ min i (last_bit opts)
  number i is =
      let early = less i (last_bit opts) (both_first (nat_lt i (last_bit opts)) (not ((i == 0) && level)) is) in
      omega (arith, early)

  module _ (last : ℕ) (last_is : last ≡ last_bit opts) where
    -- where it is taken
    pub point_silent : (rate : Rate) (h : Held) → true ≡ is_point last h level → stop_outs opts rate h at level ≡ []
    point_silent rate held.Idle is = absurd (true≢false is)
    point_silent rate (held.Low f) is = absurd (true≢false is)
    point_silent rate (held.Inside f i word reached) is =
        let here = subst (λ (n : ℕ). true ≡ is_point n (held.Inside f i word reached) level) last_is is in
        ap (λ (n : ℕ). point_outs opts f n word at level) (sym (number i here))
        ∙ none_by [] [] _ _ (nat_lt i (last_bit opts)) ((i == 0) && level) here

    pub point_kept : (h : Held) → true ≡ is_point last h level → point_taken last h at level ≡ stop_held opts h at level
    point_kept held.Idle is = absurd (true≢false is)
    point_kept (held.Low f) is = absurd (true≢false is)
    point_kept (held.Inside f i word reached) is =
        let here = subst (λ (n : ℕ). true ≡ is_point n (held.Inside f i word reached) level) last_is is in
        ap (λ (n : ℕ). point_taken n (held.Inside f i word reached) at level) last_is
        ∙ same_by _ _ _ _ (nat_lt i (last_bit opts)) ((i == 0) && level) here
        ∙ ap (λ (n : ℕ). point_held opts f n word at level) (number i here)

    -- and where it isn't
    pub point_left : (h : Held) → false ≡ is_point last h level → point_taken last h at level ≡ h
    point_left held.Idle is = refl
    point_left (held.Low f) is = refl
    point_left (held.Inside f i word reached) is = left_by _ _ held.Idle held.Idle (nat_lt i last && not ((i == 0) && level)) is
