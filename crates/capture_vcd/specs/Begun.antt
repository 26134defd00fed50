-- What the reader is told of a token that belongs to nothing before it.
use Rattle.std.specs.Prelude.{ℕ, ◌≡◌, ◌^◌, ◌≤◌, ◌<◌, true, false, List, [], ◌∷◌, min, Option, Some}
use Rattle.std.specs.Prelude.{None}
use Rattle.la_base.specs.Naming.{number_after}
use Rattle.text_parts.specs.Numbers.{is_number}
use Rattle.capture_vcd.specs.Body.{Time, Change, Wrong}
use Rattle.capture_vcd.specs.Within.{Free, Value, Skip, Comment, begins}
use Rattle.capture_vcd.specs.declared.tokens.Begun.{Begun}
use Rattle.capture_vcd.specs.declared.tokens.Begun.TheVariants as told

-- a number, and 2^60 for every larger one
abbrev pub IfNumber : List ℕ → Option ℕ → Type 0
IfNumber text None = is_number text ≡ false
IfNumber text (Some number) =
    (is_number text ≡ true) × (number ≡ min (number_after 0 text) (2 ^ 60))

abbrev pub Begins : ℕ → List ℕ → Begun → Type 0
Begins first rest (told.Time time) =
    (time < 2 ^ 60) × ((at : ℕ) → begins at (first ∷ rest) ≡ (Time at time ∷ [], Free))
Begins first rest told.Large =
    (time : ℕ) × (2 ^ 60 ≤ time) × ((at : ℕ) → begins at (first ∷ rest) ≡ (Time at time ∷ [], Free))
Begins first rest told.Scalar =
    (at : ℕ) → begins at (first ∷ rest) ≡ (Change rest (first ∷ []) ∷ [], Free)
Begins first rest told.Vector = (at : ℕ) → begins at (first ∷ rest) ≡ ([], Value at rest)
Begins first rest told.Skip = (at : ℕ) → begins at (first ∷ rest) ≡ ([], Skip at)
Begins first rest told.Comment = (at : ℕ) → begins at (first ∷ rest) ≡ ([], Comment)
Begins first rest told.Passed = (at : ℕ) → begins at (first ∷ rest) ≡ ([], Free)
Begins first rest told.Wrong = (at : ℕ) → begins at (first ∷ rest) ≡ (Wrong at ∷ [], Free)
