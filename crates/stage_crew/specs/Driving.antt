-- What a driver did: the runs that it fed, and the marks that it gathered and had taken.
use Rattle.std.specs.Prelude.{ℕ, ◌≡◌, ◌≤◌, nat_lt, Bool, true, if◌then◌else◌}
use Rattle.std.specs.Prelude.{List, [], ◌∷◌, ◌++◌, map, length, Some, slice_get}
use Rattle.la_base.specs.declared.samples.Run.{Run}
use Rattle.la_base.specs.declared.wires.Feed.TheVariants.{Run as RunFeed, End as EndFeed}
use Rattle.la_base.specs.declared.wires.Mark.{Mark}
use Rattle.la_base.specs.declared.wires.Mark.TheVariants.{Note as NoteMark, Piece as PieceMark}
use Rattle.la_base.specs.declared.wires.Mark.TheVariants.{Floor as FloorMark, End as EndMark}
use Rattle.tree_io.specs.Feeds.{real}
use Rattle.tree_io.specs.Feeds.{together}
use Rattle.decoder_core.specs.declared.end.RunEnd.{RunEnd}
use Rattle.decoder_core.specs.declared.end.RunEnd.TheVariants.{Ended}
use Rattle.tree_runs.specs.Passing.{Took}
use Rattle.tree_runs.specs.Reaching.{Reaches}
use Rattle.stage_ring.specs.declared.ends.Rx.{Rx}
use Rattle.stage_ring.specs.declared.ends.Tx.{Tx}
use Rattle.stage_ring.specs.Link.{received, sent}
use Rattle.stage_run.specs.Inputs.{feeds_in}
use Rattle.stage_run.specs.declared.input.HalfRun.{HalfRun}

-- this is the last of a list
abbrev pub EndsWith : {X : Type 0} → X → List X → Type 0
EndsWith {X} last xs = (front : List X) × (xs ≡ front ++ last ∷ [])

-- the lists of runs that the feed gave were sent to each root, and then the end; each instance's
-- marks were gathered up to an end, and those that were taken are these, or a front of them where
-- it was stopped; the ends were taken of the first instances, behind all other marks
pub record Drove (gave_old gave_new : List (List Run) → Type 0)
    (took_old took_new : (ℕ → List Mark) → Type 0) (at_end : Bool) (result : RunEnd)
    (sents : List (List HalfRun)) (gathered : List (List Mark)) : Type 0 where
  pub lists : List (List Run)
  pub gave : (earlier : List (List Run)) → gave_old earlier → gave_new (earlier ++ lists)
  pub fed : (k : ℕ) (s : List HalfRun) → slice_get sents k ≡ Some s
      → feeds_in 0 s ≡ map RunFeed (together lists) ++ EndFeed ∷ []
  pub came : (i : ℕ) (marks : List Mark) → slice_get gathered i ≡ Some marks
      → EndsWith EndMark marks
  pub done : Bool
  pub taken : ℕ → List Mark
  pub fronts : (i : ℕ) (marks : List Mark) → slice_get gathered i ≡ Some marks
      → Reaches done (taken i) (real marks)
  pub others : (i : ℕ) → length gathered ≤ i → taken i ≡ []
  pub ends : ℕ
  pub took : Took took_old took_new
      (λ i. taken i ++ (if nat_lt i ends then EndMark ∷ [] else []))
  pub by_end : (i : ℕ) → nat_lt i ends ≡ true → (done ≡ true) × (at_end ≡ true)
  pub closes : result ≡ Ended → (done ≡ true)
      × ((i : ℕ) (marks : List Mark) → slice_get gathered i ≡ Some marks → nat_lt i ends ≡ true)

-- nothing was sent or received yet
pub record Fresh (feeds : List (Tx HalfRun)) (marks : List (Rx Mark)) : Type 0 where
  pub feeds_fresh : (k : ℕ) (s : List HalfRun) → slice_get (map sent feeds) k ≡ Some s → s ≡ []
  pub marks_fresh : (k : ℕ) (m : List Mark) → slice_get (map received marks) k ≡ Some m → m ≡ []
