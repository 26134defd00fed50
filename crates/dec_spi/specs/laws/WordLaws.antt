-- One more clock in a stretch: the words and what is kept behind them.
use Rattle.std.proofs.Common.{◌≡◌, inl, inr, ℕ, ◌+◌, ◌*◌, ◌%◌, ◌^◌, ◌<◌, ◌≤◌, Bool, true, false}
use Rattle.std.proofs.Common.{List, [], ◌∷◌, ◌++◌, length, map, refl, sym, ◌∙◌, ap, arith}
use Rattle.std.proofs.Common.{length-append}
use Rattle.std.specs.Prelude.{nat_lt}
use Rattle.std.specs.List.{flat_map}
use Rattle.std.proofs.Math.Nat.{mod-eq_of_lt, min-eq_left, pow-le-pow_right, mul_comm}
use Rattle.std.proofs.lemmas.Bool.{cases_lt}
use Rattle.std.proofs.lemmas.Grind.{flat_map-append}
use Rattle.std.proofs.lemmas.List.{append-nil, map-append, length-map}
use Rattle.la_base.specs.declared.wires.Out.{Out}
use Rattle.list_cuts.specs.Bits.{bit_of, high_first, low_first}
use Rattle.list_cuts.specs.Groups.{groups, after_groups}
use Rattle.list_cuts.specs.Places.{first_place}
use Rattle.list_cuts.proofs.BitLaws.{high_push, high_below, low_push, low_below}
use Rattle.list_cuts.proofs.GroupLaws.{groups_short, after_groups_few, groups_push_short}
use Rattle.list_cuts.proofs.GroupLaws.{groups_push_full, after_groups_short, after_push_short}
use Rattle.list_cuts.proofs.GroupLaws.{after_push_full}
use Rattle.list_cuts.proofs.PlaceLaws.{first_push, last_push}
use Rattle.list_cuts.proofs.TestLaws.{when_yes, when_no, less_yes, less_no}
use Rattle.dec_spi.specs.declared.held.Held.{Held}
use Rattle.dec_spi.specs.declared.options.SpiOpts.{SpiOpts}
use Rattle.dec_spi.specs.Bus.{Event, Clock, is_low_first, place_of, mosi_of, miso_of, value_of}
use Rattle.dec_spi.specs.Bus.{word_outs, group_outs, words_outs}
use Rattle.dec_spi.specs.laws.Machine.{inside, begun, held_by, with_bit, clock_gives, clock_next}

-- one more level
value_push : (low : Bool) (levels : List Bool) (b : Bool) → length levels ≤ 31
    → value_of low (levels ++ b ∷ []) ≡ with_bit low (length levels) (value_of low levels) b
value_push true levels b few =
    let same = mod-eq_of_lt (low_below levels) in
    low_push levels b ∙ ap (λ (n : ℕ). n + bit_of b * 2 ^ length levels) (sym same)
    ∙ ap (λ (n : ℕ). low_first levels % 2 ^ n + bit_of b * 2 ^ n) (sym (min-eq_left few))
value_push false levels b few =
    let below = high_below levels in
    let some : 0 < 2 = omega arith in
    let most : 2 ^ length levels ≤ 2 ^ 31 = pow-le-pow_right some few in
    let small : high_first levels < 2 ^ 31 = omega (arith, below, most) in
    high_push levels b ∙ ap (λ (n : ℕ). n + bit_of b) (mul_comm 2 (high_first levels))
    ∙ ap (λ (n : ℕ). n * 2 + bit_of b) (sym (mod-eq_of_lt small))

none_held : (low : Bool) → inside 0 (value_of low []) (value_of low []) 0 ≡ begun
none_held true = refl
none_held false = refl

module _ (opts : SpiOpts) (some : 1 ≤ opts.bits) (most : opts.bits ≤ 32) where
  bits_some : 0 < opts.bits
  bits_some = omega (arith, some)

  -- no clocks
  pub no_words : words_outs opts [] ≡ []
  unfolding words_outs
  no_words =
      ap (λ (l : List (List Event)). flat_map (group_outs opts) l)
      (groups_short opts.bits bits_some [] bits_some)

  pub no_held : held_by opts (after_groups opts.bits []) ≡ begun
  no_held =
      ap (held_by opts) (after_groups_few opts.bits bits_some [] bits_some)
      ∙ none_held (is_low_first opts)

  module _ (clocks : List Event) (k : ℕ) (out back : Bool) where
    abbrev rest : List Event
    rest = after_groups opts.bits clocks

    abbrev c : Event
    c = Clock k out back

    short : length rest < opts.bits
    short = after_groups_short opts.bits bits_some clocks

    few : length rest ≤ 31
    few = omega (arith, short, most)

    -- the number of some levels with one more
    grown : (level : Event → Bool) → value_of (is_low_first opts) (map level (rest ++ c ∷ []))
        ≡ with_bit (is_low_first opts) (length rest) (value_of (is_low_first opts) (map level rest))
        (level c)
    grown level =
        let same : length (map level rest) ≡ length rest = length-map rest level in
        ap (λ (l : List Bool). value_of (is_low_first opts) l) (map-append level rest (c ∷ []))
        ∙ value_push (is_low_first opts) (map level rest) (level c) (omega (arith, same, few))
        ∙ ap (λ (n : ℕ). with_bit (is_low_first opts) n
        (value_of (is_low_first opts) (map level rest)) (level c)) same

    new : List Out
    new = clock_gives opts (length rest) (value_of (is_low_first opts) (map mosi_of rest))
        (value_of (is_low_first opts) (map miso_of rest)) (first_place place_of rest) k out back

    kept : Held
    kept = clock_next opts (length rest) (value_of (is_low_first opts) (map mosi_of rest))
        (value_of (is_low_first opts) (map miso_of rest)) (first_place place_of rest) k out back

    -- a word that isn't whole yet
    module _ (less : length rest + 1 < opts.bits) where
      yes : nat_lt (length rest + 1) opts.bits ≡ true
      yes = less_yes (length rest + 1) opts.bits less

      words_short : words_outs opts (clocks ++ c ∷ []) ≡ words_outs opts clocks ++ new
      unfolding words_outs new
      words_short =
          ap (λ (l : List (List Event)). flat_map (group_outs opts) l)
          (groups_push_short opts.bits bits_some clocks c less)
          ∙ sym (append-nil (flat_map (group_outs opts) (groups opts.bits clocks)))
          ∙ ap (λ (l : List Out). flat_map (group_outs opts) (groups opts.bits clocks) ++ l)
          (sym (when_yes (nat_lt (length rest + 1) opts.bits) _ _ yes))

      held_short : held_by opts (after_groups opts.bits (clocks ++ c ∷ [])) ≡ kept
      unfolding kept
      held_short =
          let count : length (rest ++ c ∷ []) ≡ length rest + 1 = length-append rest (c ∷ []) in
          ap (λ (l : List Event). held_by opts l)
          (after_push_short opts.bits bits_some clocks c less)
          ∙ (λ i. inside (count i) (grown mosi_of i) (grown miso_of i)
          (first_push place_of rest c i))
          ∙ sym (when_yes (nat_lt (length rest + 1) opts.bits) _ _ yes)

    -- the last clock of a word
    module _ (full : length rest + 1 ≡ opts.bits) where
      no : nat_lt (length rest + 1) opts.bits ≡ false
      no = less_no (length rest + 1) opts.bits (omega (arith, full))

      words_full : words_outs opts (clocks ++ c ∷ []) ≡ words_outs opts clocks ++ new
      unfolding words_outs new
      words_full =
          ap (λ (l : List (List Event)). flat_map (group_outs opts) l)
          (groups_push_full opts.bits bits_some clocks c full)
          ∙ flat_map-append (group_outs opts) (groups opts.bits clocks) ((rest ++ c ∷ []) ∷ [])
          ∙ ap (λ (l : List Out). flat_map (group_outs opts) (groups opts.bits clocks) ++ l)
          (append-nil (group_outs opts (rest ++ c ∷ []))
          ∙ (λ i. word_outs opts (first_push place_of rest c i) (last_push place_of rest c i)
          (grown mosi_of i) (grown miso_of i))
          ∙ sym (when_no (nat_lt (length rest + 1) opts.bits) _ _ no))

      held_full : held_by opts (after_groups opts.bits (clocks ++ c ∷ [])) ≡ kept
      unfolding kept
      held_full =
          ap (λ (l : List Event). held_by opts l)
          (after_push_full opts.bits bits_some clocks c full)
          ∙ none_held (is_low_first opts)
          ∙ sym (when_no (nat_lt (length rest + 1) opts.bits) _ _ no)

    pub words_push : words_outs opts (clocks ++ c ∷ [])
        ≡ words_outs opts clocks ++ clock_gives opts (length rest)
        (value_of (is_low_first opts) (map mosi_of rest))
        (value_of (is_low_first opts) (map miso_of rest)) (first_place place_of rest) k out back
    unfolding new
    words_push = elim (cases_lt (length rest + 1) opts.bits) [
      | inl less ↦ words_short less
      | inr more ↦ words_full (omega (arith, more, short))
    ]

    pub held_push : held_by opts (after_groups opts.bits (clocks ++ c ∷ []))
        ≡ clock_next opts (length rest) (value_of (is_low_first opts) (map mosi_of rest))
        (value_of (is_low_first opts) (map miso_of rest)) (first_place place_of rest) k out back
    unfolding kept
    held_push = elim (cases_lt (length rest + 1) opts.bits) [
      | inl less ↦ held_short less
      | inr more ↦ held_full (omega (arith, more, short))
    ]
