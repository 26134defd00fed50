-- The links of a tree of stages, by the ends that its stages and the driver have.
use Rattle.std.specs.Prelude.{ℕ, suc, ◌≡◌, Bool, true, false, if◌then◌else◌, List, [], ◌∷◌, take}
use Rattle.std.specs.Prelude.{length, Option, Some, None, slice_get}
use Rattle.tree_runs.specs.Passing.{same_place}
use Rattle.stage_ring.specs.Link.{Link}
use Rattle.stage_run.specs.Stages.{Links}

-- how many of these stand on a place; None is the outside of the tree
abbrev pub on_place : Option ℕ → List (Option ℕ) → ℕ
on_place above [] = 0
on_place above (parent ∷ parents) =
    if same_place parent above then suc (on_place above parents) else on_place above parents

-- the place of an instance among those that stand where it does
abbrev pub place_of : List (Option ℕ) → ℕ → Option ℕ → ℕ
place_of parents j parent = on_place parent (take j parents)

abbrev pub children_in : Option Links → List Link
children_in None = []
children_in (Some links) = links.children

-- the links to those that stand on a place: the driver's, or those of a stage
abbrev pub links_down : List Links → List Link → Option ℕ → List Link
links_down stages feeds None = feeds
links_down stages feeds (Some parent) = children_in (slice_get stages parent)

abbrev pub is_root : Option ℕ → Bool
is_root None = true
is_root (Some parent) = false

-- an instance receives what is sent to its place, and samples where it stands on nothing
abbrev pub Reads : List (Option ℕ) → List Links → List Link → ℕ → Type 0
Reads parents stages feeds j =
    (parent : Option ℕ) (s : Links) → slice_get parents j ≡ Some parent
    → slice_get stages j ≡ Some s
    → (slice_get (links_down stages feeds parent) (place_of parents j parent) ≡ Some s.input)
    × (s.samples ≡ is_root parent)

-- each instance receives what is sent to its place; and the driver receives the marks of each at
-- its place
pub record Wired (parents : List (Option ℕ)) (stages : List Links) (feeds marks : List Link)
    : Type 0 where
  pub count : length stages ≡ length parents
  pub inputs : (j : ℕ) → Reads parents stages feeds j
  pub outputs : (j : ℕ) (s : Links) → slice_get stages j ≡ Some s
      → slice_get marks j ≡ Some s.marks

-- each stage has as many links to children as instances stand on it
abbrev pub Serves : List (Option ℕ) → List Links → Type 0
Serves parents stages =
    (j : ℕ) (s : Links) → slice_get stages j ≡ Some s
    → length s.children ≡ on_place (Some j) parents
