-- What ten equal levels do on a line with ten samples a bit, which is read in the sixth of them.
use Rattle.std.proofs.Common.{◌≡◌, ℕ, ◌+◌, ◌*◌, ◌<◌, ◌≤◌, Bool, true, false, List, [], ◌∷◌, ◌++◌, length, refl, ◌∙◌, sym, ap, arith, append_assoc, length-append, if◌then◌else◌}
use Rattle.std.specs.List.{flat_map}
use Rattle.std.proofs.lemmas.List.{append-nil}
use Rattle.list_cuts.proofs.TestLaws.{less_yes, less_no}
use Rattle.la_base.specs.declared.wires.Out.{Out}
use Rattle.capture_make.specs.Made.{ten}
use Rattle.dec_uart.specs.Chain.{Shape, any_high}
use Rattle.dec_uart.specs.laws.Machine.{Idle, Inside, Low, is_false_start, after_all, point_gives, point_next}
use Rattle.made_laws.specs.LineLevels.{levels_give}

module _ (c : Shape) where
  -- a line that stays high, or gets high, begins no frame
  idle_one : (q : ℕ) (before : Bool) (more : List Bool) → levels_give c Idle q before (true ∷ more) ≡ levels_give c Idle (q + 1) true more
  idle_one q true more = refl
  idle_one q false more = refl

  pub idle_five : (q : ℕ) (before : Bool) (more : List Bool) → levels_give c Idle q before (true ∷ true ∷ true ∷ true ∷ true ∷ more) ≡ levels_give c Idle (q + 5) true more
  idle_five q before more =
      let place : q + 1 + 1 + 1 + 1 + 1 ≡ q + 5 = omega arith in
      idle_one q before (true ∷ true ∷ true ∷ true ∷ more) ∙ ap (λ (n : ℕ). levels_give c Idle n true more) place

  pub idle_ten : (q : ℕ) (before : Bool) (more : List Bool) → levels_give c Idle q before (ten true ++ more) ≡ levels_give c Idle (q + 10) true more
  idle_ten q before more =
      let place : q + 5 + 5 ≡ q + 10 = omega arith in
      idle_five q before (true ∷ true ∷ true ∷ true ∷ true ∷ more) ∙ idle_five (q + 5) true more ∙ ap (λ (n : ℕ). levels_give c Idle n true more) place

  module _ (f : ℕ) (levels : List Bool) where
    -- inside a frame the level before does not matter
    any_before : (q : ℕ) (one other : Bool) (more : List Bool) → levels_give c (Inside f levels) q one more ≡ levels_give c (Inside f levels) q other more
    any_before q one other [] = refl
    any_before q one other (now ∷ more) = refl

    -- nothing happens before the next point
    wait_one : (q : ℕ) (before now : Bool) (more : List Bool) → q < f + c.point (length levels) → levels_give c (Inside f levels) q before (now ∷ more) ≡ levels_give c (Inside f levels) (q + 1) now more
    wait_one q before now more early =
        let less = less_yes q (f + c.point (length levels)) early in
        λ i. (if less i then [] else point_gives c f levels q now) ++ levels_give c (if less i then Inside f levels else point_next c f levels now) (q + 1) now more

    wait_four : (q : ℕ) (before now : Bool) (more : List Bool) → q + 4 ≤ f + c.point (length levels)
        → levels_give c (Inside f levels) q before (now ∷ now ∷ now ∷ now ∷ more) ≡ levels_give c (Inside f levels) (q + 4) now more
    wait_four q before now more early =
        let place : q + 1 + 1 + 1 + 1 ≡ q + 4 = omega arith in
        wait_one q before now (now ∷ now ∷ now ∷ more) (omega (arith, early))
        ∙ wait_one (q + 1) now now (now ∷ now ∷ more) (omega (arith, early))
        ∙ wait_one (q + 1 + 1) now now (now ∷ more) (omega (arith, early))
        ∙ wait_one (q + 1 + 1 + 1) now now more (omega (arith, early))
        ∙ ap (λ (n : ℕ). levels_give c (Inside f levels) n now more) place

    wait_five : (q : ℕ) (before now : Bool) (more : List Bool) → q + 5 ≤ f + c.point (length levels)
        → levels_give c (Inside f levels) q before (now ∷ now ∷ now ∷ now ∷ now ∷ more) ≡ levels_give c (Inside f levels) (q + 5) now more
    wait_five q before now more early =
        let place : q + 1 + 4 ≡ q + 5 = omega arith in
        wait_one q before now (now ∷ now ∷ now ∷ now ∷ more) (omega (arith, early))
        ∙ wait_four (q + 1) now now more (omega (arith, early))
        ∙ ap (λ (n : ℕ). levels_give c (Inside f levels) n now more) place

    -- a point that isn't the last is read
    reads : (q : ℕ) (before now : Bool) (more : List Bool) → f + c.point (length levels) ≤ q → is_false_start levels now ≡ false → length levels < c.last
        → levels_give c (Inside f levels) q before (now ∷ more) ≡ levels_give c (Inside f (levels ++ now ∷ [])) (q + 1) now more
    reads q before now more there real few =
        let here = less_no q (f + c.point (length levels)) there in
        let less = less_yes (length levels) c.last few in
        λ i. (if here i then [] else (if real i then c.false_start f q else (if less i then [] else c.frame f q (levels ++ now ∷ []))))
        ++ levels_give c (if here i then Inside f levels else (if real i then Idle else (if less i then Inside f (levels ++ now ∷ []) else after_all f (levels ++ now ∷ [])))) (q + 1) now more

    -- and the last, where the line is high, ends the frame
    ends : (q : ℕ) (before : Bool) (more : List Bool) → f + c.point (length levels) ≤ q → is_false_start levels true ≡ false → c.last ≤ length levels
        → levels_give c (Inside f levels) q before (true ∷ more) ≡ c.frame f q (levels ++ true ∷ []) ++ levels_give c Idle (q + 1) true more
    ends q before more there real all =
        let here = less_no q (f + c.point (length levels)) there in
        let less = less_no (length levels) c.last all in
        let high : any_high (levels ++ true ∷ []) ≡ true = some_high levels in
        λ i. (if here i then [] else (if real i then c.false_start f q else (if less i then [] else c.frame f q (levels ++ true ∷ []))))
        ++ levels_give c (if here i then Inside f levels else (if real i then Idle else (if less i then Inside f (levels ++ true ∷ []) else (if high i then Idle else Low f)))) (q + 1) true more
      where
        some_high : (levels : List Bool) → any_high (levels ++ true ∷ []) ≡ true
        some_high [] = refl
        some_high (true ∷ levels) = refl
        some_high (false ∷ levels) = some_high levels

-- points in the middle of bits of ten samples, up to the stop bit behind eight bits of data
module _ (c : Shape) (points : (i : ℕ) → c.point i ≡ 10 * i + 5) (last : c.last ≡ 9) where
  -- the start bit
  pub start_cell : (q : ℕ) (more : List Bool) → levels_give c Idle q true (ten false ++ more) ≡ levels_give c (Inside q (false ∷ [])) (q + 10) false more
  start_cell q more =
      let zeroth = points 0 in
      let first = points 1 in
      let place : q + 1 + 4 + 1 + 4 ≡ q + 10 = omega arith in
      wait_four c q [] (q + 1) false false (false ∷ false ∷ false ∷ false ∷ false ∷ more) (omega (arith, zeroth))
      ∙ reads c q [] (q + 1 + 4) false false (false ∷ false ∷ false ∷ false ∷ more) (omega (arith, zeroth)) refl (omega (arith, last))
      ∙ wait_four c q (false ∷ []) (q + 1 + 4 + 1) false false more (omega (arith, first))
      ∙ ap (λ (n : ℕ). levels_give c (Inside q (false ∷ [])) n false more) place

  module _ (f : ℕ) where
    -- a bit of data
    bit_cell : (levels : List Bool) (first : Bool) (q : ℕ) (before now : Bool) (more : List Bool) → q ≡ f + 10 * length (first ∷ levels) → length (first ∷ levels) < 9
        → levels_give c (Inside f (first ∷ levels)) q before (ten now ++ more) ≡ levels_give c (Inside f (first ∷ levels ++ now ∷ [])) (q + 10) now more
    bit_cell levels first q before now more is few =
        let here = points (length (first ∷ levels)) in
        let next = points (length (first ∷ levels ++ now ∷ [])) in
        let longer : length (levels ++ now ∷ []) ≡ length levels + 1 = length-append levels (now ∷ []) in
        let place : q + 5 + 1 + 4 ≡ q + 10 = omega arith in
        wait_five c f (first ∷ levels) q before now (now ∷ now ∷ now ∷ now ∷ now ∷ more) (omega (arith, is, here))
        ∙ reads c f (first ∷ levels) (q + 5) now now (now ∷ now ∷ now ∷ now ∷ more) (omega (arith, is, here)) refl (omega (arith, last, few))
        ∙ wait_four c f (first ∷ levels ++ now ∷ []) (q + 5 + 1) now now more (omega (arith, is, next, longer))
        ∙ ap (λ (n : ℕ). levels_give c (Inside f (first ∷ levels ++ now ∷ [])) n now more) place

    -- bits of data one after another
    pub bit_cells : (bits levels : List Bool) (first : Bool) (q : ℕ) (before : Bool) (more : List Bool)
        → q ≡ f + 10 * length (first ∷ levels) → length (first ∷ levels) + length bits ≤ 9
        → levels_give c (Inside f (first ∷ levels)) q before (flat_map ten bits ++ more) ≡ levels_give c (Inside f (first ∷ levels ++ bits)) (q + 10 * length bits) before more
    bit_cells [] levels first q before more is few =
        let same : q ≡ q + 10 * 0 = omega arith in
        λ i. levels_give c (Inside f (first ∷ sym (append-nil levels) i)) (same i) before more
    bit_cells (now ∷ bits) levels first q before more is few =
        let longer : length (levels ++ now ∷ []) ≡ length levels + 1 = length-append levels (now ∷ []) in
        let place : q + 10 + 10 * length bits ≡ q + 10 * length (now ∷ bits) = omega arith in
        ap (λ (l : List Bool). levels_give c (Inside f (first ∷ levels)) q before l) (append_assoc (ten now) (flat_map ten bits) more)
        ∙ bit_cell levels first q before now (flat_map ten bits ++ more) is (omega (arith, few))
        ∙ any_before c f (first ∷ levels ++ now ∷ []) (q + 10) now before (flat_map ten bits ++ more)
        ∙ bit_cells bits (levels ++ now ∷ []) first (q + 10) before more (omega (arith, is, longer)) (omega (arith, few, longer))
        ∙ (λ i. levels_give c (Inside f (first ∷ append_assoc levels (now ∷ []) bits i)) (place i) before more)

    -- the stop bit, in the sixth sample of which the frame is given
    pub stop_cell : (levels : List Bool) (first : Bool) (q : ℕ) (before : Bool) (more : List Bool) → q ≡ f + 90 → length (first ∷ levels) ≡ 9
        → levels_give c (Inside f (first ∷ levels)) q before (ten true ++ more) ≡ c.frame f (q + 5) (first ∷ levels ++ true ∷ []) ++ levels_give c Idle (q + 10) true more
    stop_cell levels first q before more is all =
        let here : c.point (length (first ∷ levels)) ≡ 95 = ap c.point all ∙ points 9 in
        let place : q + 5 + 5 ≡ q + 10 = omega arith in
        wait_five c f (first ∷ levels) q before true (true ∷ true ∷ true ∷ true ∷ true ∷ more) (omega (arith, is, here))
        ∙ ends c f (first ∷ levels) (q + 5) true (true ∷ true ∷ true ∷ true ∷ more) (omega (arith, is, here)) refl (omega (arith, last, all))
        ∙ ap (λ (l : List Out). c.frame f (q + 5) (first ∷ levels ++ true ∷ []) ++ l)
        (sym (idle_one c (q + 5) true (true ∷ true ∷ true ∷ true ∷ more)) ∙ idle_five c (q + 5) true more ∙ ap (λ (n : ℕ). levels_give c Idle n true more) place)
