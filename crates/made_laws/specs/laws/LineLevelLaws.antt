-- The walk over samples of a line is the walk over its levels.
use Rattle.std.proofs.Common.{◌≡◌, ℕ, ◌+◌, List, [], ◌∷◌, ◌++◌, Option, Some, None, refl, ◌∙◌}
use Rattle.la_base.specs.Samples.{is_high}
use Rattle.sample_walks.specs.Walks.{given_from}
use Rattle.dec_uart.specs.Chain.{Shape}
use Rattle.dec_uart.specs.laws.Machine.{Kept, Idle, Inside, Low, line_next, line_gives, line_walk}
use Rattle.made_laws.specs.LineLevels.{levels_of, was_high, level_next, level_gives, levels_give}

module _ (c : Shape) where
  -- one more sample keeps what its level keeps
  next_same : (h : Kept) (q : ℕ) (before : Option ℕ) (now : ℕ) → line_next c h q before now ≡ level_next c h q (was_high c.rx before) (is_high now c.rx)
  next_same Idle q None now = refl
  next_same Idle q (Some before) now = refl
  next_same (Inside f levels) q before now = refl
  next_same (Low f) q before now = refl

  -- and gives what its level gives
  gives_same : (h : Kept) (q : ℕ) (before : Option ℕ) (now : ℕ) → line_gives c h q before now ≡ level_gives c h q (is_high now c.rx)
  gives_same Idle q before now = refl
  gives_same (Inside f levels) q before now = refl
  gives_same (Low f) q before now = refl

  -- so samples give what their levels give
  pub by_levels : (samples : List ℕ) (h : Kept) (q : ℕ) (before : Option ℕ)
      → given_from (line_walk c) h q before samples ≡ levels_give c h q (was_high c.rx before) (levels_of c.rx samples)
  by_levels [] h q before = refl
  by_levels (now ∷ later) h q before =
      let rest = by_levels later (line_next c h q before now) (q + 1) (Some now) in
      (λ i. gives_same h q before now i ++ rest i)
      ∙ (λ i. level_gives c h q (is_high now c.rx) ++ levels_give c (next_same h q before now i) (q + 1) (is_high now c.rx) (levels_of c.rx later))
