-- What is waited for is what happens on the bus.
use Rattle.std.proofs.Common.{◌≡◌, ◌≢◌, ◌⊎◌, inl, inr, ℕ, Bool, true, false, not, Option, Some}
use Rattle.std.proofs.Common.{None, refl, sym, ◌∙◌, ap, if◌then◌else◌}
use Rattle.std.specs.Prelude.{◌&&◌}
use Rattle.std.specs.Int.{bit_at}
use Rattle.std.proofs.lemmas.Bool.{true≢false}
use Rattle.std.proofs.lemmas.Nat.Bits.{bit_at-pow_same}
use Rattle.la_base.specs.Samples.{is_high}
use Rattle.wait_cond.specs.Meets.{Rises, Falls, MeetsAt}
use Rattle.sample_walks.specs.laws.AltLaws.{no_line, at_line, high_is, high_bit, low_is, low_bit}
use Rattle.dec_spi.specs.Bus.{selected_by, has_edge}
use Rattle.dec_spi.specs.laws.Machine.{mask_of, low_mask, high_mask, rise_mask, fall_mask}
use Rattle.dec_spi.specs.laws.Machine.{select_alt, clock_alt, change_alt}

not_yes : (b : Bool) → not b ≡ true → b ≡ false
not_yes false is = refl
not_yes true is = absurd (true≢false (sym is))

not_no : (b : Bool) → not b ≡ false → b ≡ true
not_no true is = refl
not_no false is = absurd (true≢false is)

-- the select line has its active level where its masks say so
module _ (now : ℕ) where
  active_low : (cs : Option ℕ) (high : Bool) → selected_by cs high now ≡ true → (line : ℕ)
      → bit_at (low_mask cs high) line ≡ 1 → bit_at now line ≡ 0
  active_low cs true is line one = no_line line one
  active_low None false is line one = no_line line one
  active_low (Some own) false is line one =
      at_line own (λ l. bit_at now l ≡ 0) (low_bit now own (not_yes (is_high now own) is)) line one

  active_high : (cs : Option ℕ) (high : Bool) → selected_by cs high now ≡ true → (line : ℕ)
      → bit_at (high_mask cs high) line ≡ 1 → bit_at now line ≡ 1
  active_high None true is line one = no_line line one
  active_high (Some own) true is line one =
      at_line own (λ l. bit_at now l ≡ 1) (high_bit now own is) line one
  active_high cs false is line one = no_line line one

  active_then : (cs : Option ℕ) (high : Bool)
      → ((line : ℕ) → bit_at (low_mask cs high) line ≡ 1 → bit_at now line ≡ 0)
      → ((line : ℕ) → bit_at (high_mask cs high) line ≡ 1 → bit_at now line ≡ 1)
      → selected_by cs high now ≡ true
  active_then None high low up = refl
  active_then (Some own) true low up = high_is now own (up own (bit_at-pow_same own))
  active_then (Some own) false low up = ap not (low_is now own (low own (bit_at-pow_same own)))

module _ (before now : ℕ) where
  -- a line that has the same level twice, and one that hasn't
  same_level : (line : ℕ) → is_high before line ≡ is_high now line
      → (¬ Rises (Some before) now line) × (¬ Falls (Some before) now line)
  same_level line same = (
    λ up. true≢false (sym (high_is now line up.1) ∙ sym same ∙ low_is before line up.0),
    λ down. true≢false (sym (high_is before line down.0) ∙ same ∙ low_is now line down.1),
  )

  other_level : (line : ℕ) (a b : Bool) → is_high before line ≡ a → is_high now line ≡ b → a ≢ b
      → Rises (Some before) now line ⊎ Falls (Some before) now line
  other_level line false true was is other = inl (low_bit before line was, high_bit now line is)
  other_level line true false was is other = inr (high_bit before line was, low_bit now line is)
  other_level line true true was is other = absurd (other refl)
  other_level line false false was is other = absurd (other refl)

  -- an edge of the clock, by its masks
  rise_is : (sck : ℕ) (rises : Bool) → has_edge rises sck before now ≡ true → (line : ℕ)
      → bit_at (rise_mask sck rises) line ≡ 1 → Rises (Some before) now line
  rise_is sck true is line one =
      at_line sck (λ l. Rises (Some before) now l)
      (by (is_high before sck) (is_high now sck) refl refl is) line one
    where
      by : (a b : Bool) → is_high before sck ≡ a → is_high now sck ≡ b → (not a && b) ≡ true
          → Rises (Some before) now sck
      by false true was here e = (low_bit before sck was, high_bit now sck here)
      by false false was here e = absurd (true≢false (sym e))
      by true b was here e = absurd (true≢false (sym e))
  rise_is sck false is line one = no_line line one

  fall_is : (sck : ℕ) (rises : Bool) → has_edge rises sck before now ≡ true → (line : ℕ)
      → bit_at (fall_mask sck rises) line ≡ 1 → Falls (Some before) now line
  fall_is sck true is line one = no_line line one
  fall_is sck false is line one =
      at_line sck (λ l. Falls (Some before) now l)
      (by (is_high before sck) (is_high now sck) refl refl is) line one
    where
      by : (a b : Bool) → is_high before sck ≡ a → is_high now sck ≡ b → (a && not b) ≡ true
          → Falls (Some before) now sck
      by true false was here e = (high_bit before sck was, low_bit now sck here)
      by true true was here e = absurd (true≢false (sym e))
      by false b was here e = absurd (true≢false (sym e))

  edge_then : (sck : ℕ) (rises : Bool)
      → ((line : ℕ) → bit_at (rise_mask sck rises) line ≡ 1 → Rises (Some before) now line)
      → ((line : ℕ) → bit_at (fall_mask sck rises) line ≡ 1 → Falls (Some before) now line)
      → has_edge rises sck before now ≡ true
  edge_then sck true up down = let here = up sck (bit_at-pow_same sck) in
      λ i. not (low_is before sck here.0 i) && high_is now sck here.1 i
  edge_then sck false up down = let here = down sck (bit_at-pow_same sck) in
      λ i. high_is before sck here.0 i && not (low_is now sck here.1 i)

  -- two samples are both selected or both not exactly where the select line has one level in both
  module _ (high : Bool) where
    same_by : (x y : Bool) → (if high then x else not x) ≡ (if high then y else not y) → x ≡ y
    same_by x y same = by high x y same
      where
        by : (h a b : Bool) → (if h then a else not a) ≡ (if h then b else not b) → a ≡ b
        by true a b e = e
        by false true true e = refl
        by false false false e = refl
        by false true false e = absurd (true≢false (sym e))
        by false false true e = absurd (true≢false e)

    stays : (cs : Option ℕ) → selected_by cs high before ≡ selected_by cs high now → (line : ℕ)
        → bit_at (mask_of cs) line ≡ 1
        → (¬ Rises (Some before) now line) × (¬ Falls (Some before) now line)
    stays None same line one = no_line line one
    stays (Some own) same line one =
        at_line own (λ l. (¬ Rises (Some before) now l) × (¬ Falls (Some before) now l))
        (same_level own (same_by (is_high before own) (is_high now own) same)) line one

    stays_then : (cs : Option ℕ)
        → ((line : ℕ) → bit_at (mask_of cs) line ≡ 1
        → (¬ Rises (Some before) now line) × (¬ Falls (Some before) now line))
        → selected_by cs high before ≡ selected_by cs high now
    stays_then None still = refl
    stays_then (Some own) still =
        ap (λ (x : Bool). if high then x else not x)
        (by (is_high before own) (is_high now own) refl refl)
      where
        by : (a b : Bool) → is_high before own ≡ a → is_high now own ≡ b → a ≡ b
        by true true was is = refl
        by false false was is = refl
        by false true was is =
            absurd ((still own (bit_at-pow_same own)).0
            (low_bit before own was, high_bit now own is))
        by true false was is =
            absurd ((still own (bit_at-pow_same own)).1
            (high_bit before own was, low_bit now own is))

    differs : (own : ℕ) → selected_by (Some own) high before ≢ selected_by (Some own) high now
        → Rises (Some before) now own ⊎ Falls (Some before) now own
    differs own other =
        other_level own (is_high before own) (is_high now own) refl refl
        (λ same. other (ap (λ (x : Bool). if high then x else not x) same))

    differs_then : (own : ℕ) → Rises (Some before) now own ⊎ Falls (Some before) now own
        → selected_by (Some own) high before ≢ selected_by (Some own) high now
    differs_then own moves same = elim moves [
      | inl up ↦ (same_level own (same_by (is_high before own) (is_high now own) same)).0 up
      | inr down ↦ (same_level own (same_by (is_high before own) (is_high now own) same)).1 down
    ]

module _ (cs : Option ℕ) (high : Bool) (from q : ℕ) where
  -- a selected sample meets the first wait, and nothing else does
  pub select_meets : (before : Option ℕ) (now : ℕ) → selected_by cs high now ≡ true
      → MeetsAt (select_alt cs high) before now from q
  select_meets before now is = record {
    lines = record {
      low = active_low now cs high is;
      high = active_high now cs high is;
      rise = λ line one. no_line line one;
      fall = λ line one. no_line line one;
      edge = λ line one. no_line line one;
      steady = λ line one. no_line line one;
    };
    skipped = λ some. absurd (some refl);
  }

  pub meets_select : (before : Option ℕ) (now : ℕ) → MeetsAt (select_alt cs high) before now from q
      → selected_by cs high now ≡ true
  meets_select before now m = active_then now cs high m.lines.low m.lines.high

  module _ (before now : ℕ) where
    -- an edge of the clock between two selected samples
    pub clock_meets : (sck : ℕ) (rises : Bool) → selected_by cs high before ≡ true
        → selected_by cs high now ≡ true → has_edge rises sck before now ≡ true
        → MeetsAt (clock_alt sck rises cs high) (Some before) now from q
    clock_meets sck rises was is edge = record {
      lines = record {
        low = active_low now cs high is;
        high = active_high now cs high is;
        rise = rise_is before now sck rises edge;
        fall = fall_is before now sck rises edge;
        edge = λ line one. no_line line one;
        steady = stays before now high cs (was ∙ sym is);
      };
      skipped = λ some. absurd (some refl);
    }

    pub meets_clock : (sck : ℕ) (rises : Bool)
        → MeetsAt (clock_alt sck rises cs high) (Some before) now from q
        → (selected_by cs high before ≡ true) × (selected_by cs high now ≡ true)
        × (has_edge rises sck before now ≡ true)
    meets_clock sck rises m =
        let is = active_then now cs high m.lines.low m.lines.high in (
          stays_then before now high cs m.lines.steady
              ∙ is,
          is,
          edge_then before now sck rises m.lines.rise m.lines.fall,
        )

    -- a change of the select line
    pub change_meets : (own : ℕ) → cs ≡ Some own
        → selected_by cs high before ≢ selected_by cs high now
        → MeetsAt (change_alt own) (Some before) now from q
    change_meets own given other = record {
      lines = record {
        low = λ line one. no_line line one;
        high = λ line one. no_line line one;
        rise = λ line one. no_line line one;
        fall = λ line one. no_line line one;
        edge = at_line own (λ l. Rises (Some before) now l ⊎ Falls (Some before) now l)
            (differs before now high own
            (λ same. other
            (ap (λ (o : Option ℕ). selected_by o high before) given ∙ same
            ∙ ap (λ (o : Option ℕ). selected_by o high now) (sym given))));
        steady = λ line one. no_line line one;
      };
      skipped = λ some. absurd (some refl);
    }

    pub meets_change : (own : ℕ) → cs ≡ Some own → MeetsAt (change_alt own) (Some before) now from q
        → selected_by cs high before ≢ selected_by cs high now
    meets_change own given m same =
        differs_then before now high own (m.lines.edge own (bit_at-pow_same own))
        (ap (λ (o : Option ℕ). selected_by o high before) (sym given) ∙ same
        ∙ ap (λ (o : Option ℕ). selected_by o high now) given)
