-- What masks of an alternative say, line by line.
use Rattle.std.proofs.Common.{◌≡◌, ◌⊎◌, inl, inr, ℕ, ◌+◌, ◌-◌, ◌≤◌, ◌<◌, ◌%◌, ◌^◌, min, max, Some, sym, ◌∙◌, ap, arith, bit_and, bit_or, bit_xor}
use Rattle.std.specs.Int.{bit_at}
use Rattle.std.proofs.lemmas.Nat.Bits.{bit_at_and, bit_at_or, bit_at_xor, bit_at-lt, bit_at-zero, same_from_bits}
use Rattle.std.proofs.lemmas.Bool.{cases_eq}
use Rattle.std.proofs.lemmas.Bool.Decides.{leb_tells}
use Rattle.la_base.proofs.Halves.{low_bit, high_bit, no_bit}
use Rattle.wait_cond.specs.Meets.{LinesHold}
use Rattle.wait_cond.specs.Watching.{edge_lines, high_lines}
use Rattle.wait_cond.specs.Pairs.{OfAlt, SaysAll, change_lines, level_lines, low_lines, missing, missing_in}
use Rattle.wait_cond.specs.declared.alt.Alt.{Alt}
use Rattle.wait_cond.specs.declared.pair.Masks.{Masks}

-- where a number is 0, so is each bit of it
none_set : (n line : ℕ) → n ≡ 0 → bit_at n line ≡ 0
none_set n line is = ap (λ (k : ℕ). bit_at k line) is ∙ bit_at-zero line

-- a line is of the lower half or above
part_of : (line : ℕ) → (line < 64) ⊎ (64 ≤ line)
part_of line = elim (leb_tells 64 line) [ inl above ↦ inr above.1 | inr below ↦ inl below.1 ]

-- a line of a mask's lower half
half_bit : (mask lines line : ℕ) → mask ≡ lines % 2 ^ 64 → line < 64 → bit_at mask line ≡ bit_at lines line
half_bit mask lines line is below = ap (λ (k : ℕ). bit_at k line) is ∙ low_bit lines line below

-- what is missing in the lower halves of samples
pub halves_miss : (low_before low_now before now : ℕ) → low_before ≡ before % 2 ^ 64 → low_now ≡ now % 2 ^ 64 → (masks : Masks) → missing masks (bit_xor low_before low_now) low_now ≡ missing_in masks before now
halves_miss low_before low_now before now first second masks = λ i. missing masks (bit_xor (first i) (second i)) (second i)

-- lines of the lower half that are high in a sample are so in its lower half
pub half_has : (lines now : ℕ) → lines < 2 ^ 64 → bit_and lines now ≡ lines → bit_and (now % 2 ^ 64) lines ≡ lines
half_has lines now few same = same_from_bits (bit_and (now % 2 ^ 64) lines) lines at
  where
    small : lines % 2 ^ 64 ≡ lines
    small = omega (arith, few)

    at : (line : ℕ) → bit_at (bit_and (now % 2 ^ 64) lines) line ≡ bit_at lines line
    at line = elim (part_of line) [
      | inl below ↦ omega (arith, bit_at_and (now % 2 ^ 64) lines line, low_bit now line below, bit_at_and lines now line, ap (λ (n : ℕ). bit_at n line) same)
      | inr above ↦ omega (arith, bit_at_and (now % 2 ^ 64) lines line, no_bit lines line above, ap (λ (n : ℕ). bit_at n line) small)
    ]

-- an alternative of which masks say all asks nothing of the lines above
above_none : (alt : Alt) → SaysAll alt → (line : ℕ) → 64 ≤ line → max (bit_at (level_lines alt) line) (bit_at (change_lines alt) line) ≡ 0
above_none alt all line above =
    sym (bit_at_or (level_lines alt) (change_lines alt) line) ∙ (sym (high_bit (bit_or (level_lines alt) (change_lines alt)) line above) ∙ none_set _ (line - 64) all.lower)

module _ (masks : Masks) (alt : Alt) (o : OfAlt masks alt) (before now line : ℕ) (below : line < 64) where
  pub levels_is : bit_at (bit_and (bit_xor (now % 2 ^ 64) masks.want) masks.care) line
      ≡ min ((bit_at now line + bit_at (high_lines alt) line) % 2) (max (bit_at (high_lines alt) line) (bit_at (low_lines alt) line))
  levels_is = omega (
    arith,
    bit_at_and (bit_xor (now % 2 ^ 64) masks.want) masks.care line,
    bit_at_xor (now % 2 ^ 64) masks.want line,
    low_bit now line below,
    half_bit masks.want (high_lines alt) line o.want below,
    half_bit masks.care (level_lines alt) line o.care below,
    bit_at_or (high_lines alt) (low_lines alt) line,
  )

  pub changes_is : bit_at (bit_and (bit_xor (bit_xor (before % 2 ^ 64) (now % 2 ^ 64)) masks.edge) masks.asked) line
      ≡ min (((bit_at before line + bit_at now line) % 2 + bit_at (edge_lines alt) line) % 2) (max (bit_at (edge_lines alt) line) (bit_at alt.steady line))
  changes_is = omega (
    arith,
    bit_at_and (bit_xor (bit_xor (before % 2 ^ 64) (now % 2 ^ 64)) masks.edge) masks.asked line,
    bit_at_xor (bit_xor (before % 2 ^ 64) (now % 2 ^ 64)) masks.edge line,
    bit_at_xor (before % 2 ^ 64) (now % 2 ^ 64) line,
    low_bit before line below,
    low_bit now line below,
    half_bit masks.edge (edge_lines alt) line o.edge below,
    half_bit masks.asked (change_lines alt) line o.asked below,
    bit_at_or (edge_lines alt) alt.steady line,
  )

  -- where nothing is missing
  module _ (all : SaysAll alt) (none : missing_in masks before now ≡ 0) where
    both : max (bit_at (bit_and (bit_xor (now % 2 ^ 64) masks.want) masks.care) line) (bit_at (bit_and (bit_xor (bit_xor (before % 2 ^ 64) (now % 2 ^ 64)) masks.edge) masks.asked) line) ≡ 0
    both = sym (bit_at_or (bit_and (bit_xor (now % 2 ^ 64) masks.want) masks.care) (bit_and (bit_xor (bit_xor (before % 2 ^ 64) (now % 2 ^ 64)) masks.edge) masks.asked) line) ∙ none_set _ line none

    pub level : min (((bit_at now line) + (bit_at (high_lines alt) line)) % 2) (max (bit_at (high_lines alt) line) (bit_at (low_lines alt) line)) ≡ 0
    level = omega (arith, both, levels_is)

    pub change : min ((((bit_at before line) + (bit_at now line)) % 2 + (bit_at (edge_lines alt) line)) % 2) (max (bit_at (edge_lines alt) line) (bit_at alt.steady line)) ≡ 0
    change = omega (arith, both, changes_is)

    pub apart : min (bit_at (high_lines alt) line) (bit_at (low_lines alt) line) ≡ 0
    apart = sym (bit_at_and (high_lines alt) (low_lines alt) line) ∙ none_set _ line all.levels

    pub still : min (bit_at (edge_lines alt) line) (bit_at alt.steady line) ≡ 0
    still = sym (bit_at_and (edge_lines alt) alt.steady line) ∙ none_set _ line all.changes

    pub high_now : (bit_at (high_lines alt) line) ≡ 1 → (bit_at now line) ≡ 1
    high_now is = omega (arith, is, level, bit_at-lt now line)

    pub low_now : (bit_at (low_lines alt) line) ≡ 1 → (bit_at now line) ≡ 0
    low_now is = omega (arith, is, level, apart, bit_at-lt now line, bit_at-lt (high_lines alt) line)

    pub changed : (bit_at (edge_lines alt) line) ≡ 1 → ((bit_at before line) + (bit_at now line)) % 2 ≡ 1
    changed is = omega (arith, is, change, bit_at-lt now line, bit_at-lt before line)

    pub steady : (bit_at alt.steady line) ≡ 1 → ((bit_at before line) + (bit_at now line)) % 2 ≡ 0
    steady is = omega (arith, is, change, still, bit_at-lt now line, bit_at-lt before line, bit_at-lt (edge_lines alt) line)

-- two of which nothing is missing don't exclude each other
pub not_both : (one two : Masks) (changed now : ℕ) → missing one changed now ≡ 0 → missing two changed now ≡ 0 → bit_and (bit_and one.asked two.asked) (bit_xor one.edge two.edge) ≡ 0
not_both one two changed now none also = same_from_bits (bit_and (bit_and one.asked two.asked) (bit_xor one.edge two.edge)) 0 at
  where
    of_line : (masks : Masks) → missing masks changed now ≡ 0 → (line : ℕ) → min ((bit_at changed line + bit_at masks.edge line) % 2) (bit_at masks.asked line) ≡ 0
    of_line masks is line = omega (
      arith,
      none_set (missing masks changed now) line is,
      bit_at_or (bit_and (bit_xor now masks.want) masks.care) (bit_and (bit_xor changed masks.edge) masks.asked) line,
      bit_at_and (bit_xor changed masks.edge) masks.asked line,
      bit_at_xor changed masks.edge line,
    )

    at : (line : ℕ) → bit_at (bit_and (bit_and one.asked two.asked) (bit_xor one.edge two.edge)) line ≡ bit_at 0 line
    at line = omega (
      arith,
      bit_at_and (bit_and one.asked two.asked) (bit_xor one.edge two.edge) line,
      bit_at_and one.asked two.asked line,
      bit_at_xor one.edge two.edge line,
      of_line one none line,
      of_line two also line,
      bit_at-zero line,
      bit_at-lt changed line,
      bit_at-lt one.edge line,
      bit_at-lt two.edge line,
      bit_at-lt one.asked line,
      bit_at-lt two.asked line,
    )

-- masks that say all, where nothing is missing: each term holds
module _ (masks : Masks) (alt : Alt) (o : OfAlt masks alt) (all : SaysAll alt) (before now : ℕ) where
  -- the line of a term is below
  module _ (line : ℕ) where
    of_level : 1 ≤ max (max (bit_at alt.high line) (bit_at alt.rise line)) (max (bit_at alt.low line) (bit_at alt.fall line)) → line < 64
    of_level some = elim (part_of line) [
      | inl below ↦ below
      | inr above ↦ absurd (omega (arith, some, above_none alt all line above, bit_at_or (high_lines alt) (low_lines alt) line, bit_at_or alt.high alt.rise line, bit_at_or alt.low alt.fall line))
    ]

    of_change : 1 ≤ max (max (max (bit_at alt.rise line) (bit_at alt.fall line)) (bit_at alt.edge line)) (bit_at alt.steady line) → line < 64
    of_change some = elim (part_of line) [
      | inl below ↦ below
      | inr above ↦ absurd (omega (arith, some, above_none alt all line above, bit_at_or (edge_lines alt) alt.steady line, bit_at_or (bit_or alt.rise alt.fall) alt.edge line, bit_at_or alt.rise alt.fall line))
    ]

    edge_of : 1 ≤ max (max (bit_at alt.rise line) (bit_at alt.fall line)) (bit_at alt.edge line) → bit_at (edge_lines alt) line ≡ 1
    edge_of some = omega (arith, some, bit_at_or (bit_or alt.rise alt.fall) alt.edge line, bit_at_or alt.rise alt.fall line, bit_at-lt (edge_lines alt) line)

  pub held_by : missing_in masks before now ≡ 0 → LinesHold alt (Some before) now
  held_by none = record {
    low = λ line one. low_now masks alt o before now line (of_level line (omega (arith, one))) all none (omega (arith, one, bit_at_or alt.low alt.fall line, bit_at-lt alt.fall line));
    high = λ line one. high_now masks alt o before now line (of_level line (omega (arith, one))) all none (omega (arith, one, bit_at_or alt.high alt.rise line, bit_at-lt alt.rise line));
    rise = λ line one.
        let below = of_level line (omega (arith, one)) in
        let up = high_now masks alt o before now line below all none (omega (arith, one, bit_at_or alt.high alt.rise line, bit_at-lt alt.high line)) in
        let turned = changed masks alt o before now line below all none (edge_of line (omega (arith, one))) in
        (omega (arith, up, turned, bit_at-lt before line), up);
    fall = λ line one.
        let below = of_level line (omega (arith, one)) in
        let down = low_now masks alt o before now line below all none (omega (arith, one, bit_at_or alt.low alt.fall line, bit_at-lt alt.low line)) in
        let turned = changed masks alt o before now line below all none (edge_of line (omega (arith, one))) in
        (omega (arith, down, turned, bit_at-lt before line), down);
    edge = λ line one.
        let turned = changed masks alt o before now line (of_change line (omega (arith, one))) all none (edge_of line (omega (arith, one))) in
        elim (cases_eq (bit_at now line) 1) [
          | inl up ↦ inl (omega (arith, up, turned, bit_at-lt before line), up)
          | inr not ↦ inr (omega (arith, not, turned, bit_at-lt before line, bit_at-lt now line), omega (arith, not, bit_at-lt now line))
        ];
    steady = λ line one.
        let stays = steady masks alt o before now line (of_change line (omega (arith, one))) all none one in
        (λ r. absurd (omega (arith, stays, r.0, r.1)), λ f. absurd (omega (arith, stays, f.0, f.1)));
  }

-- where each term holds, nothing is missing
module _ (masks : Masks) (alt : Alt) (o : OfAlt masks alt) (before now : ℕ) (holds : LinesHold alt (Some before) now) where
  module _ (line : ℕ) where
    up : bit_at (high_lines alt) line ≡ 1 → bit_at now line ≡ 1
    up is = elim (cases_eq (bit_at alt.high line) 1) [
      | inl one ↦ holds.high line one
      | inr not ↦ (holds.rise line (omega (arith, is, not, bit_at_or alt.high alt.rise line, bit_at-lt alt.high line, bit_at-lt alt.rise line))).1
    ]

    down : bit_at (low_lines alt) line ≡ 1 → bit_at now line ≡ 0
    down is = elim (cases_eq (bit_at alt.low line) 1) [
      | inl one ↦ holds.low line one
      | inr not ↦ (holds.fall line (omega (arith, is, not, bit_at_or alt.low alt.fall line, bit_at-lt alt.low line, bit_at-lt alt.fall line))).1
    ]

    turns : bit_at (edge_lines alt) line ≡ 1 → (bit_at before line + bit_at now line) % 2 ≡ 1
    turns is = elim (cases_eq (bit_at alt.rise line) 1) [
      | inl one ↦ let r = holds.rise line one in omega (arith, r.0, r.1)
      | inr no_rise ↦ elim (cases_eq (bit_at alt.fall line) 1) [
        | inl one ↦ let f = holds.fall line one in omega (arith, f.0, f.1)
        | inr no_fall ↦ elim (holds.edge line (omega (arith, is, no_rise, no_fall, bit_at_or (bit_or alt.rise alt.fall) alt.edge line, bit_at_or alt.rise alt.fall line, bit_at-lt alt.rise line, bit_at-lt alt.fall line, bit_at-lt alt.edge line))) [
          | inl r ↦ omega (arith, r.0, r.1)
          | inr f ↦ omega (arith, f.0, f.1)
        ]
      ]
    ]

    stays : bit_at alt.steady line ≡ 1 → (bit_at before line + bit_at now line) % 2 ≡ 0
    stays is =
        let st = holds.steady line is in
        elim (cases_eq (bit_at before line) 1) [
          | inl was ↦ elim (cases_eq (bit_at now line) 1) [
            | inl now_one ↦ omega (arith, was, now_one)
            | inr not ↦ absurd (st.1 (was, omega (arith, not, bit_at-lt now line)))
          ]
          | inr was_not ↦ elim (cases_eq (bit_at now line) 1) [
            | inl now_one ↦ absurd (st.0 (omega (arith, was_not, bit_at-lt before line), now_one))
            | inr not ↦ omega (arith, not, was_not, bit_at-lt now line, bit_at-lt before line)
          ]
        ]

    level_none : min ((bit_at now line + bit_at (high_lines alt) line) % 2) (max (bit_at (high_lines alt) line) (bit_at (low_lines alt) line)) ≡ 0
    level_none = elim (cases_eq (bit_at (high_lines alt) line) 1) [
      | inl is ↦ omega (arith, is, up is)
      | inr not ↦ elim (cases_eq (bit_at (low_lines alt) line) 1) [
        | inl is ↦ omega (arith, is, down is, not, bit_at-lt (high_lines alt) line)
        | inr neither ↦ omega (arith, not, neither, bit_at-lt (high_lines alt) line, bit_at-lt (low_lines alt) line)
      ]
    ]

    change_none : min (((bit_at before line + bit_at now line) % 2 + bit_at (edge_lines alt) line) % 2) (max (bit_at (edge_lines alt) line) (bit_at alt.steady line)) ≡ 0
    change_none = elim (cases_eq (bit_at (edge_lines alt) line) 1) [
      | inl is ↦ omega (arith, is, turns is)
      | inr not ↦ elim (cases_eq (bit_at alt.steady line) 1) [
        | inl is ↦ omega (arith, is, stays is, not, bit_at-lt (edge_lines alt) line)
        | inr neither ↦ omega (arith, not, neither, bit_at-lt (edge_lines alt) line, bit_at-lt alt.steady line)
      ]
    ]

  -- above there is nothing in the masks
  level_above : (line : ℕ) → 64 ≤ line → bit_at (bit_and (bit_xor (now % 2 ^ 64) masks.want) masks.care) line ≡ 0
  level_above line above = omega (arith, bit_at_and (bit_xor (now % 2 ^ 64) masks.want) masks.care line, ap (λ (k : ℕ). bit_at k line) o.care, no_bit (level_lines alt) line above)

  change_above : (line : ℕ) → 64 ≤ line → bit_at (bit_and (bit_xor (bit_xor (before % 2 ^ 64) (now % 2 ^ 64)) masks.edge) masks.asked) line ≡ 0
  change_above line above =
      omega (arith, bit_at_and (bit_xor (bit_xor (before % 2 ^ 64) (now % 2 ^ 64)) masks.edge) masks.asked line, ap (λ (k : ℕ). bit_at k line) o.asked, no_bit (change_lines alt) line above)

  pub none_missing : missing_in masks before now ≡ 0
  none_missing = same_from_bits (missing_in masks before now) 0 at
    where
      at : (line : ℕ) → bit_at (missing_in masks before now) line ≡ bit_at 0 line
      at line = elim (part_of line) [
        | inl below ↦ omega (
          arith,
          bit_at_or (bit_and (bit_xor (now % 2 ^ 64) masks.want) masks.care) (bit_and (bit_xor (bit_xor (before % 2 ^ 64) (now % 2 ^ 64)) masks.edge) masks.asked) line,
          levels_is masks alt o before now line below,
          changes_is masks alt o before now line below,
          level_none line,
          change_none line,
          bit_at-zero line,
        )
        | inr above ↦ omega (
          arith,
          bit_at_or (bit_and (bit_xor (now % 2 ^ 64) masks.want) masks.care) (bit_and (bit_xor (bit_xor (before % 2 ^ 64) (now % 2 ^ 64)) masks.edge) masks.asked) line,
          level_above line above,
          change_above line above,
          bit_at-zero line,
        )
      ]
