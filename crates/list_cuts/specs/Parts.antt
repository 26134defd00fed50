-- A list cut at marks.
use Rattle.std.specs.Prelude.{ℕ, ◌≡◌, Bool, true, false, cond, ◌||◌, List, [], ◌∷◌, ◌++◌, Option}
use Rattle.std.specs.Prelude.{Some, None, slice_get}

-- what stands before the first mark
abbrev pub before_mark : {X : Type 0} → (X → Bool) → List X → List X
before_mark mark [] = []
before_mark mark (x ∷ xs) = cond (mark x) [] (x ∷ before_mark mark xs)

-- the first mark
abbrev pub first_mark : {X : Type 0} → (X → Bool) → List X → Option X
first_mark mark [] = None
first_mark mark (x ∷ xs) = cond (mark x) (Some x) (first_mark mark xs)

-- the parts that begin at a mark, each up to the next
abbrev pub parts : {X : Type 0} → (X → Bool) → List X → List (List X)
parts mark [] = []
parts mark (x ∷ xs) = cond (mark x) ((x ∷ before_mark mark xs) ∷ parts mark xs) (parts mark xs)

-- a list that begins at a mark and has no other
pub record IsPart {X : Type 0} (mark : X → Bool) (part : List X) : Type 0 where
  pub head : X
  pub others : List X
  pub is : part ≡ head ∷ others
  pub begins : mark head ≡ true
  pub no_other : (k : ℕ) (other : X) → slice_get others k ≡ Some other → mark other ≡ false

-- a part of a list, and what ended it: none where the list ends first
pub record Part (X : Type 0) : Type 0 where
  pub items : List X
  pub ended_by : Option X

-- the part that begins at x and goes up to the next mark of what follows
abbrev pub part_from : {X : Type 0} → (X → Bool) → X → List X → Part X
part_from mark x xs = record { items = x ∷ before_mark mark xs; ended_by = first_mark mark xs }

-- whether something begins or ends a part
abbrev pub cuts : {X : Type 0} → (X → Bool) → (X → Bool) → X → Bool
cuts begins ends x = begins x || ends x

-- the parts that begin at a beginning, each up to the next beginning or end
abbrev pub parts_between : {X : Type 0} → (X → Bool) → (X → Bool) → List X → List (Part X)
parts_between begins ends [] = []
parts_between begins ends (x ∷ xs) =
    cond (begins x) (part_from (cuts begins ends) x xs ∷ parts_between begins ends xs)
    (parts_between begins ends xs)

-- the last of some lists with y behind it
abbrev pub grow_last : {X : Type 0} → List (List X) → X → List (List X)
grow_last [] y = []
grow_last (p ∷ []) y = (p ++ y ∷ []) ∷ []
grow_last (p ∷ q ∷ ps) y = p ∷ grow_last (q ∷ ps) y

-- a part with y behind it, where nothing has ended it
abbrev pub longer : {X : Type 0} → X → List X → Option X → Part X
longer y items None = record { items = items ++ y ∷ []; ended_by = None }
longer y items (Some e) = record { items = items; ended_by = Some e }

-- a part ended by y, where nothing has ended it
abbrev pub ended : {X : Type 0} → X → List X → Option X → Part X
ended y items None = record { items = items; ended_by = Some y }
ended y items (Some e) = record { items = items; ended_by = Some e }

-- the last of some parts with y behind it, where nothing has ended it
abbrev pub grow_open : {X : Type 0} → List (Part X) → X → List (Part X)
grow_open [] y = []
grow_open (p ∷ []) y = longer y p.items p.ended_by ∷ []
grow_open (p ∷ q ∷ ps) y = p ∷ grow_open (q ∷ ps) y

-- the last of some parts ended by y, where nothing has ended it
abbrev pub end_open : {X : Type 0} → List (Part X) → X → List (Part X)
end_open [] y = []
end_open (p ∷ []) y = ended y p.items p.ended_by ∷ []
end_open (p ∷ q ∷ ps) y = p ∷ end_open (q ∷ ps) y
