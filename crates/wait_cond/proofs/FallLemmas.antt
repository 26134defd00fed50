-- A wait for the fall of lines.
use Rattle.std.proofs.Common.{◌≡◌, ◌≢◌, inl, inr, ℕ, ◌-◌, ◌<◌, ◌^◌, ◌%◌, List, [], Some, refl, sym, ◌∙◌, ap, subst, arith, bit_and, bit_or}
use Rattle.std.specs.Int.{bit_at}
use Rattle.std.specs.Int.Bits.{xor_self}
use Rattle.std.proofs.lemmas.Bool.Decides.{leb_tells}
use Rattle.std.proofs.lemmas.Nat.Bits.{bit_at_or, bit_at-lt, bit_at-zero, same_from_bits}
use Rattle.la_base.proofs.Halves.{low_bit, no_bit}
use Rattle.wait_cond.specs.Conds.{IsFall}
use Rattle.wait_cond.specs.Meets.{AllFall, Falls, MeetsAt}
use Rattle.wait_cond.specs.Stops.{MetSet}
use Rattle.wait_cond.specs.Walks.{StopsBehind}
use Rattle.wait_cond.specs.Watching.{edge_lines, NeverMet, Watches}
use Rattle.wait_cond.specs.declared.alt.Alt.{Alt}
use Rattle.wait_cond.specs.declared.walk.Walk.{Walk}
use Rattle.wait_cond.proofs.Masks.{all_in_yes, all_in_no, none_in_yes, none_in_no}
use Rattle.wait_cond.proofs.Passing.{set_passed, set_stopped}
use Rattle.wait_cond.proofs.Sets.{met_more, met_pass, none_yet}
use Rattle.wait_cond.proofs.Timers.{no_bit_of}
use Rattle.wait_cond.proofs.WatchLemmas.{never_met, watch_one}

or_nothing : (lines : ℕ) → bit_or (bit_or 0 lines) 0 ≡ lines
or_nothing lines = same_from_bits (bit_or (bit_or 0 lines) 0) lines
    (λ i. omega (arith, bit_at_or (bit_or 0 lines) 0 i, bit_at_or 0 lines i, bit_at-zero i, bit_at-lt lines i))

-- the lines of the lower half
module _ (lines before now : ℕ) (lower : lines < 2 ^ 64) where
  below : (line : ℕ) → bit_at lines line ≡ 1 → line < 64
  below line one =
      let whole : lines % 2 ^ 64 ≡ lines = omega (arith, lower) in
      elim (leb_tells 64 line) [
        | inl above ↦ absurd (omega (arith, one, ap (λ (n : ℕ). bit_at n line) whole, no_bit lines line above.1))
        | inr under ↦ under.1
      ]

  all_fall : AllFall lines (before % 2 ^ 64) (now % 2 ^ 64) → (line : ℕ) → bit_at lines line ≡ 1 → Falls (Some before) now line
  all_fall fall line one = (
    sym (low_bit before line (below line one)) ∙ all_in_yes lines (before % 2 ^ 64) fall.0 line one,
    sym (low_bit now line (below line one)) ∙ none_in_yes lines (now % 2 ^ 64) fall.1 line one,
  )

  fall_all : ((line : ℕ) → bit_at lines line ≡ 1 → Falls (Some before) now line) → AllFall lines (before % 2 ^ 64) (now % 2 ^ 64)
  fall_all each = (
    all_in_no lines (before % 2 ^ 64) (λ line one. low_bit before line (below line one) ∙ (each line one).0),
    none_in_no lines (now % 2 ^ 64) (λ line one. low_bit now line (below line one) ∙ (each line one).1),
  )

module _ (alts : List Alt) (lines : ℕ) (wait : IsFall alts lines) where
  module _ (before now from q : ℕ) where
    meets : AllFall lines (before % 2 ^ 64) (now % 2 ^ 64) → MeetsAt wait.alt (Some before) now from q
    meets fall = record {
      lines = record {
        low = λ line one. no_bit_of wait.alt.low line wait.low one;
        high = λ line one. no_bit_of wait.alt.high line wait.high one;
        rise = λ line one. no_bit_of wait.alt.rise line wait.rise one;
        fall = λ line one. all_fall lines before now wait.lower fall line (ap (λ (n : ℕ). bit_at n line) (sym wait.fall) ∙ one);
        edge = λ line one. no_bit_of wait.alt.edge line wait.edge one;
        steady = λ line one. no_bit_of wait.alt.steady line wait.steady one;
      };
      skipped = λ some. absurd (some wait.skip);
    }

    pub fall_met : AllFall lines (before % 2 ^ 64) (now % 2 ^ 64) → MetSet alts (Some before) now from q 1
    fall_met fall = subst (λ (l : List Alt). MetSet l (Some before) now from q 1) (sym wait.is)
        (met_more (Some before) now from q [] wait.alt 0 (none_yet (Some before) now from q) 0 refl (omega arith) (meets fall))

    pub fall_missed : ¬ AllFall lines (before % 2 ^ 64) (now % 2 ^ 64) → MetSet alts (Some before) now from q 0
    fall_missed not = subst (λ (l : List Alt). MetSet l (Some before) now from q 0) (sym wait.is)
        (met_pass (Some before) now from q [] wait.alt 0 (none_yet (Some before) now from q)
        (λ m. not (fall_all lines before now wait.lower (λ line one. m.lines.fall line (ap (λ (n : ℕ). bit_at n line) wait.fall ∙ one)))))

  edges : edge_lines wait.alt ≡ lines
  edges =
      ap (λ (n : ℕ). bit_or (bit_or n wait.alt.fall) wait.alt.edge) wait.rise ∙ ap (λ (n : ℕ). bit_or (bit_or 0 n) wait.alt.edge) wait.fall
      ∙ ap (λ (n : ℕ). bit_or (bit_or 0 lines) n) wait.edge ∙ or_nothing lines

  -- none is met while a value stands
  stands : (value : ℕ) → NeverMet alts (Some value) value
  stands value = never_met lines value value (ap (λ (n : ℕ). bit_and n lines) (xor_self value)) alts
      (subst (λ (l : List Alt). Watches lines l) (sym wait.is) (watch_one wait.alt lines (sym edges) wait.some))

  -- where it stops on a walk
  module _ (walk : Walk) (value : ℕ) (some : 2 ^ 60 - walk.room ≢ 0) where
    pub fall_here : AllFall lines (walk.last % 2 ^ 64) (value % 2 ^ 64) → StopsBehind alts walk value 0
    fall_here fall = record {
      fits = omega arith;
      none = λ list run w same short. absurd (omega (arith, short, run.not_empty));
      stop = λ list run w same long room.
          (set_stopped list run alts (2 ^ 60 - walk.room) walk.from walk.last w some 1 (λ none. absurd cc)
          (subst (λ (n : ℕ). MetSet alts (Some walk.last) n walk.from (2 ^ 60 - walk.room) 1) (sym same) (fall_met walk.last value walk.from (2 ^ 60 - walk.room) fall)) (stands run.value)).0;
    }

    pub fall_nowhere : ¬ AllFall lines (walk.last % 2 ^ 64) (value % 2 ^ 64) → StopsBehind alts walk value walk.room
    fall_nowhere not = record {
      fits = omega arith;
      none = λ list run w same short.
          set_passed list run alts (2 ^ 60 - walk.room) walk.from walk.last w some
          (subst (λ (n : ℕ). MetSet alts (Some walk.last) n walk.from (2 ^ 60 - walk.room) 0) (sym same) (fall_missed walk.last value walk.from (2 ^ 60 - walk.room) not)) (stands run.value);
      stop = λ list run w same long room. absurd (omega (arith, room));
    }
