-- The set of alternatives that a sample meets says which event is there.
use Rattle.std.proofs.Common.{◌≡◌, ◌≢◌, ◌∙◌, inl, inr, ◌⊎◌, ℕ, zero, suc, ◌<◌, ◌^◌, Bool, true}
use Rattle.std.proofs.Common.{false, List, [], ◌∷◌, slice_get, Option, Some, None, refl, sym, ap}
use Rattle.std.proofs.Common.{arith}
use Rattle.std.specs.Int.{bit_at}
use Rattle.std.proofs.lemmas.Bool.{cases_eq}
use Rattle.std.proofs.lemmas.Option.{slice_get_within}
use Rattle.std.proofs.lemmas.Nat.Bits.{bit_at-lt, bit_at-pow_same}
use Rattle.la_base.specs.Samples.{is_high}
use Rattle.wait_cond.specs.declared.alt.Alt.{Alt}
use Rattle.wait_cond.specs.Meets.{Rises, Falls, MeetsAt}
use Rattle.wait_cond.specs.Stops.{MetSet}
use Rattle.wait_cond.proofs.ChainLemmas.{one_set}
use Rattle.list_cuts.specs.Bits.{bit_of}
use Rattle.sample_walks.specs.laws.AltLaws.{no_line, at_line, level_bit, one_met, none_met}
use Rattle.sample_walks.specs.laws.AltLaws.{same_alt}
use Rattle.dec_i2c.specs.Bus.{Event, Start, Stop, Clock, event_by, event_at}
use Rattle.dec_i2c.specs.laws.Machine.{mark_alt, clock_alt, i2c_alts, event_met}

-- the code of events: the set of alternatives that they meet
abbrev code_of : List Event → ℕ
code_of [] = 0
code_of (Start k ∷ es) = 1
code_of (Stop k ∷ es) = 1
code_of (Clock k level ∷ es) = 2

module _ (scl sda from q before now : ℕ) where
  abbrev Meets : Alt → Type 0
  Meets alt = MeetsAt alt (Some before) now from q

  abbrev Moves : ℕ → Type 0
  Moves line = Rises (Some before) now line ⊎ Falls (Some before) now line

  abbrev alts : List Alt
  alts = i2c_alts scl sda

  mark_meets : bit_at before scl ≡ 1 → bit_at now scl ≡ 1 → Moves sda → Meets (mark_alt scl sda)
  mark_meets was is moves = record {
    lines = record {
      low = λ line one. no_line line one;
      high = at_line scl (λ line. bit_at now line ≡ 1) is;
      rise = λ line one. no_line line one;
      fall = λ line one. no_line line one;
      edge = at_line sda Moves moves;
      steady = at_line scl
          (λ line. (¬ Rises (Some before) now line) × (¬ Falls (Some before) now line))
          (λ up. absurd (omega (arith, was, up.0)), λ down. absurd (omega (arith, is, down.1)));
    };
    skipped = λ some. absurd (some refl);
  }

  clock_meets : bit_at before scl ≡ 0 → bit_at now scl ≡ 1 → Meets (clock_alt scl)
  clock_meets was is = record {
    lines = record {
      low = λ line one. no_line line one;
      high = λ line one. no_line line one;
      rise = at_line scl (λ line. Rises (Some before) now line) (was, is);
      fall = λ line one. no_line line one;
      edge = λ line one. no_line line one;
      steady = λ line one. no_line line one;
    };
    skipped = λ some. absurd (some refl);
  }

  -- what it says of the lines that alternative i is met
  abbrev Facts : ℕ → Type 0
  Facts zero = (bit_at before scl ≡ 1) × Moves sda
  Facts (suc zero) = (bit_at before scl ≡ 0) × (bit_at now scl ≡ 1)
  Facts (suc (suc i)) = ⊥

  -- SCL was high where it is high and has not risen
  was_high : bit_at now scl ≡ 1 → (¬ Rises (Some before) now scl) → bit_at before scl ≡ 1
  was_high is steady = elim (cases_eq (bit_at before scl) 0) [
    | inl low ↦ absurd (steady (low, is))
    | inr high ↦ omega (arith, high, bit_at-lt before scl)
  ]

  facts : (i : ℕ) (alt : Alt) → slice_get alts i ≡ Some alt → Meets alt
      → (bit_at now scl ≡ 1) × Facts i
  facts zero alt at meets =
      let m = same_alt alts (Some before) now from q (mark_alt scl sda) alt at meets in
      let is : bit_at now scl ≡ 1 = m.lines.high scl (bit_at-pow_same scl) in (
        is,
        (
          was_high is (m.lines.steady scl (bit_at-pow_same scl)).0,
          m.lines.edge sda
              (bit_at-pow_same sda),
        ),
      )
  facts (suc zero) alt at meets =
      let m = same_alt alts (Some before) now from q (clock_alt scl) alt at meets in
      let up = m.lines.rise scl (bit_at-pow_same scl) in
      (up.1, (up.0, up.1))
  facts (suc (suc i)) alt at meets =
      let within : suc (suc i) < 2 = slice_get_within alts (suc (suc i)) alt at in
      absurd (omega (arith, within))

  -- one alternative is met and no other
  met_alone : (j : ℕ) (alt : Alt) → slice_get alts j ≡ Some alt → Meets alt
      → ((i : ℕ) → Facts i → i ≡ j) → MetSet alts (Some before) now from q (2 ^ j)
  met_alone j alt at meets only =
      one_met alts (Some before) now from q j alt at meets
      (λ i other there meet. only i (facts i other there meet).1)

  met_by_none : ((i : ℕ) → bit_at now scl ≡ 1 → Facts i → ⊥)
      → MetSet alts (Some before) now from q 0
  met_by_none none =
      none_met alts (Some before) now from q
      (λ i other there meet. let f = facts i other there meet in none i f.0 f.1)

  only_mark : bit_at before scl ≡ 1 → (i : ℕ) → Facts i → i ≡ 0
  only_mark high zero f = refl
  only_mark high (suc zero) f = absurd (omega (arith, high, f.0))
  only_mark high (suc (suc i)) f = absurd f

  only_clock : bit_at before scl ≡ 0 → (i : ℕ) → Facts i → i ≡ 1
  only_clock low zero f = absurd (omega (arith, low, f.0))
  only_clock low (suc zero) f = refl
  only_clock low (suc (suc i)) f = absurd f

  no_fact : bit_at before scl ≡ 1 → bit_at before sda ≡ bit_at now sda → (i : ℕ) → Facts i → ⊥
  no_fact high same zero f = elim f.1 [
    | inl up ↦ absurd (omega (arith, same, up.0, up.1))
    | inr down ↦ absurd (omega (arith, same, down.0, down.1))
  ]
  no_fact high same (suc zero) f = absurd (omega (arith, high, f.0))
  no_fact high same (suc (suc i)) f = f

  no_clock : bit_at now scl ≡ 0 → (i : ℕ) → bit_at now scl ≡ 1 → Facts i → ⊥
  no_clock low i one f = absurd (omega (arith, low, one))

  set_by : (a b c d : Bool) → bit_at before scl ≡ bit_of a → bit_at now scl ≡ bit_of b
      → bit_at before sda ≡ bit_of c → bit_at now sda ≡ bit_of d
      → MetSet alts (Some before) now from q (code_of (event_by q a b c d))
  set_by true true true true was is dw di = met_by_none (λ i one. no_fact was (dw ∙ sym di) i)
  set_by true true true false was is dw di =
      met_alone 0 (mark_alt scl sda) refl (mark_meets was is (inr (dw, di))) (only_mark was)
  set_by true true false true was is dw di =
      met_alone 0 (mark_alt scl sda) refl (mark_meets was is (inl (dw, di))) (only_mark was)
  set_by true true false false was is dw di = met_by_none (λ i one. no_fact was (dw ∙ sym di) i)
  set_by true false c d was is dw di = met_by_none (no_clock is)
  set_by false true c d was is dw di =
      met_alone 1 (clock_alt scl) refl (clock_meets was is) (only_clock was)
  set_by false false c d was is dw di = met_by_none (no_clock is)

-- without a sample before there is none to meet
nothing_before : (scl sda from q now : ℕ) → MetSet (i2c_alts scl sda) None now from q 0
nothing_before scl sda from q now = none_met (i2c_alts scl sda) None now from q none
  where
    none : (i : ℕ) (alt : Alt) → slice_get (i2c_alts scl sda) i ≡ Some alt
        → MeetsAt alt None now from q → ⊥
    none zero alt at meets =
        elim ((same_alt (i2c_alts scl sda) None now from q
        (mark_alt scl sda) alt at meets).lines.edge sda (bit_at-pow_same sda))
        [ inl up ↦ absurd up | inr down ↦ absurd down ]
    none (suc zero) alt at meets =
        (same_alt (i2c_alts scl sda) None now from q (clock_alt scl) alt at meets).lines.rise scl
        (bit_at-pow_same scl)
    none (suc (suc i)) alt at meets =
        let within : suc (suc i) < 2 = slice_get_within (i2c_alts scl sda) (suc (suc i)) alt at in
        absurd (omega (arith, within))

-- the set of alternatives that a sample meets
met_set : (scl sda from q : ℕ) (before : Option ℕ) (now : ℕ)
    → MetSet (i2c_alts scl sda) before now from q (code_of (event_at scl sda q before now))
met_set scl sda from q None now = nothing_before scl sda from q now
met_set scl sda from q (Some before) now =
    set_by scl sda from q before now (is_high before scl) (is_high now scl) (is_high before sda)
    (is_high now sda) (level_bit before scl) (level_bit now scl) (level_bit before sda)
    (level_bit now sda)

module _ (scl sda from q : ℕ) (before : Option ℕ) (now : ℕ) where
  no_code : (es : List Event) → 0 ≡ code_of es → es ≡ []
  no_code [] is = refl
  no_code (Start k ∷ es) is = absurd (omega (arith, is))
  no_code (Stop k ∷ es) is = absurd (omega (arith, is))
  no_code (Clock k level ∷ es) is = absurd (omega (arith, is))

  -- a sample that meets nothing is no event
  pub none_is_no_event : MetSet (i2c_alts scl sda) before now from q 0
      → event_at scl sda q before now ≡ []
  none_is_no_event set =
      no_code (event_at scl sda q before now)
      (one_set (i2c_alts scl sda) before now from q 0 (code_of (event_at scl sda q before now)) set
      (met_set scl sda from q before now))

  coded : (met : ℕ) (a b c d : Bool) → met ≡ code_of (event_by q a b c d) → met ≢ 0
      → event_by q a b c d ≡ event_met met q d ∷ []
  coded met true true true true is some = absurd (some is)
  coded met true true true false is some = ap (λ (m : ℕ). event_met m q false ∷ []) (sym is)
  coded met true true false true is some = ap (λ (m : ℕ). event_met m q true ∷ []) (sym is)
  coded met true true false false is some = absurd (some is)
  coded met true false c d is some = absurd (some is)
  coded met false true c d is some = ap (λ (m : ℕ). event_met m q d ∷ []) (sym is)
  coded met false false c d is some = absurd (some is)

  event_coded : (met : ℕ) (before : Option ℕ) → met ≡ code_of (event_at scl sda q before now)
      → met ≢ 0 → event_at scl sda q before now ≡ event_met met q (is_high now sda) ∷ []
  event_coded met None is some = absurd (some is)
  event_coded met (Some old) is some =
      coded met (is_high old scl) (is_high now scl) (is_high old sda) (is_high now sda) is some

  -- a sample that meets some is the event that the set says
  pub met_is_event : (met : ℕ) → MetSet (i2c_alts scl sda) before now from q met → met ≢ 0
      → event_at scl sda q before now ≡ event_met met q (is_high now sda) ∷ []
  met_is_event met set some =
      event_coded met before
      (one_set (i2c_alts scl sda) before now from q met
      (code_of (event_at scl sda q before now)) set (met_set scl sda from q before now)) some
