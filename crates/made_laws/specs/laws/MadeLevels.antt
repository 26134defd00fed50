-- The levels of the serial line in made samples are those that were put in.
use Rattle.std.proofs.Common.{◌≡◌, ℕ, Bool, true, false, List, [], ◌∷◌, ◌++◌, length, refl, ◌∙◌, ap, arith}
use Rattle.std.specs.List.{flat_map}
use Rattle.std.proofs.lemmas.List.{map-append}
use Rattle.la_base.specs.Samples.{is_high}
use Rattle.capture_make.specs.declared.drawing.Sent.{Sent}
use Rattle.capture_make.specs.Made.{scl_levels, sda_levels, rx_levels, sample_of, samples_of, block}
use Rattle.made_laws.specs.LineLevels.{levels_of}

-- bit 2 of a sample is the level of the line
line_in : (scl sda rx : Bool) → is_high (sample_of scl sda rx) 2 ≡ rx
line_in true true true = refl
line_in true true false = refl
line_in true false true = refl
line_in true false false = refl
line_in false true true = refl
line_in false true false = refl
line_in false false true = refl
line_in false false false = refl

-- where three lines have as many levels, the line has its own levels
lines_in : (scls sdas rxs : List Bool) → length scls ≡ length rxs → length sdas ≡ length rxs → levels_of 2 (samples_of scls sdas rxs) ≡ rxs
lines_in [] sdas [] one two = refl
lines_in [] sdas (rx ∷ rxs) one two = absurd (omega (arith, one))
lines_in (scl ∷ scls) [] [] one two = absurd (omega (arith, one))
lines_in (scl ∷ scls) [] (rx ∷ rxs) one two = absurd (omega (arith, two))
lines_in (scl ∷ scls) (sda ∷ sdas) [] one two = absurd (omega (arith, one))
lines_in (scl ∷ scls) (sda ∷ sdas) (rx ∷ rxs) one two =
    let rest : levels_of 2 (samples_of scls sdas rxs) ≡ rxs = lines_in scls sdas rxs (omega (arith, one)) (omega (arith, two)) in
    λ i. line_in scl sda rx i ∷ rest i

-- the levels of a transaction
pub block_levels : (s : Sent) → levels_of 2 (block s) ≡ rx_levels s
unfolding block
block_levels s = lines_in (scl_levels s) (sda_levels s) (rx_levels s) refl refl

-- and of one with others behind it
pub more_levels : (s : Sent) (later : List Sent) → levels_of 2 (flat_map block (s ∷ later)) ≡ rx_levels s ++ levels_of 2 (flat_map block later)
more_levels s later = map-append (λ (sample : ℕ). is_high sample 2) (block s) (flat_map block later) ∙ ap (λ (l : List Bool). l ++ levels_of 2 (flat_map block later)) (block_levels s)
