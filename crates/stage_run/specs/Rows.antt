-- What a short row keeps.
use Rattle.std.specs.Prelude.{ℕ, List, [], ◌∷◌, drop, Option, Some, None}

-- all things of a row, of which those before a place are done
pub record Kept (T : Type 0) : Type 0 where
  pub list : List T
  pub at : ℕ

abbrev pub none_kept : {T : Type 0} → Kept T
none_kept = record { list = []; at = 0 }

-- those that aren't done
abbrev pub waiting : {T : Type 0} → Kept T → List T
waiting row = drop row.at row.list

-- what is left of one, if anything is, and others behind it
abbrev pub with_left : {T : Type 0} → Option T → List T → List T
with_left None others = others
with_left (Some left) others = left ∷ others
