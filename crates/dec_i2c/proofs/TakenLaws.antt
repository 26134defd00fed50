-- An event that is taken in place: it gives nothing, and what is kept is what follows it.
use Rattle.std.proofs.Common.{refl, ◌≡◌, ℕ, ◌<◌, Bool, true, false, [], Option, Some, None, sym, ◌∙◌, ap, arith, nat_lt, ◌==◌, if◌then◌else◌}
use Rattle.std.specs.Prelude.{not, ◌^◌}
use Rattle.std.specs.Int.Bits.{bit_and}
use Rattle.std.proofs.lemmas.Bool.{true≢false}
use Rattle.std.proofs.lemmas.Bool.Decides.{nat_tests}
use Rattle.la_base.specs.Samples.{is_high}
use Rattle.sample_walks.proofs.LineTests.{line_reads}
use Rattle.list_cuts.proofs.TestLaws.{when_yes, when_no, test_no}
use Rattle.dec_i2c.specs.declared.held.Segment.{Segment}
use Rattle.dec_i2c.specs.Bus.{Start, Stop, Clock, ack_outs}
use Rattle.dec_i2c.specs.laws.Machine.{event_met, gives, next, grown, bit_next, clock_gives, clock_next, is_clock_before, is_bit, bit_taken, taken}

module _ (k : ℕ) (level : Bool) where
  few : (n : ℕ) → true ≡ nat_lt n 7 → n < 7
  few n is = grind (arith, nat_tests)

  clock_silent : (s : Segment) → s.bits < 7 → clock_gives s k level ≡ []
  clock_silent s less =
      when_no (s.bits == 7) _ _ (test_no s.bits 7 (λ e. absurd (omega (arith, e, less))))
      ∙ when_no (s.bits == 8) (ack_outs k level) [] (test_no s.bits 8 (λ e. absurd (omega (arith, e, less))))

  clock_same : (s : Segment) → true ≡ nat_lt s.bits 7 → (if nat_lt s.bits 7 then bit_next s (grown s.byte level) k else s) ≡ clock_next s k level
  clock_same s is =
      when_yes (nat_lt s.bits 7) _ _ (sym is)
      ∙ sym (when_no (s.bits == 7) _ _ (test_no s.bits 7 (λ e. absurd (omega (arith, e, few s.bits is)))) ∙ when_yes (nat_lt s.bits 7) _ _ (sym is))

  silent : (held : Option Segment) → true ≡ is_clock_before held → [] ≡ gives held (Clock k level)
  silent None is = refl
  silent (Some s) is = sym (clock_silent s (few s.bits is))

  same : (held : Option Segment) → true ≡ is_clock_before held → bit_taken held k level ≡ next held (Clock k level)
  same None is = refl
  same (Some s) is = ap (λ (t : Segment). Some t) (clock_same s is)

  left : (held : Option Segment) → false ≡ is_clock_before held → bit_taken held k level ≡ held
  left None is = refl
  left (Some s) is = ap (λ (t : Segment). Some t) (when_no (nat_lt s.bits 7) _ _ (sym is))

  module _ (held : Option Segment) where
    silent_by : (mark : Bool) → true ≡ (if mark then false else is_clock_before held) → [] ≡ gives held (if mark then (if level then Stop k else Start k) else Clock k level)
    silent_by true is = absurd (true≢false is)
    silent_by false is = silent held is

    same_by : (mark : Bool) → true ≡ (if mark then false else is_clock_before held) → (if mark then held else bit_taken held k level) ≡ next held (if mark then (if level then Stop k else Start k) else Clock k level)
    same_by true is = absurd (true≢false is)
    same_by false is = same held is

    left_by : (mark : Bool) → false ≡ (if mark then false else is_clock_before held) → (if mark then held else bit_taken held k level) ≡ held
    left_by true is = refl
    left_by false is = left held is

-- where it is taken
pub bit_silent : (held : Option Segment) (met k : ℕ) (level : Bool) → true ≡ is_bit held met → [] ≡ gives held (event_met met k level)
bit_silent held met k level is = silent_by k level held (met == 1) is

pub bit_kept : (held : Option Segment) (met k : ℕ) (level : Bool) → true ≡ is_bit held met → taken held met k level ≡ next held (event_met met k level)
bit_kept held met k level is = same_by k level held (met == 1) is

-- and where it isn't
pub bit_left : (held : Option Segment) (met k : ℕ) (level : Bool) → false ≡ is_bit held met → taken held met k level ≡ held
bit_left held met k level is = left_by k level held (met == 1) is

-- a line that is asked by its mask
pub level_is : (level : Bool) (value mask sda : ℕ) → mask ≡ 2 ^ sda → level ≡ not (bit_and value mask == 0) → level ≡ is_high value sda
level_is level value mask sda is asked = asked ∙ ap (λ (m : ℕ). not (bit_and value m == 0)) is ∙ line_reads value sda
