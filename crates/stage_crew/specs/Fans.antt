-- Several links that each get the same list.
use Rattle.std.specs.Prelude.{ℕ, ◌≡◌, ◌<◌, List, ◌++◌, drop, Some, slice_get}
use Rattle.stage_crew.specs.declared.fan.Cursor.{Cursor}

-- those before a place were sent all of a list; the one at that place all but what is behind
-- `given` of the row; those behind it all but the row
pub record Fans {T : Type 0} (sents : List (List T)) (row : List T) (cursor : Cursor) (all : List T)
    : Type 0 where
  pub served : (k : ℕ) (sent : List T) → slice_get sents k ≡ Some sent → k < cursor.child
      → sent ≡ all
  pub here : (sent : List T) → slice_get sents cursor.child ≡ Some sent
      → sent ++ drop cursor.given row ≡ all
  pub waiting : (k : ℕ) (sent : List T) → slice_get sents k ≡ Some sent → cursor.child < k
      → sent ++ row ≡ all
