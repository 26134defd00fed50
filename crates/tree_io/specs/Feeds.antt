-- What a tree of decoders is fed with, and the marks that are taken of it.
use Rattle.std.specs.Prelude.{ℕ, ◌≡◌, ◌≢◌, ◌<◌, ◌≤◌, ◌^◌, ◌⊎◌, Bool, true, false, List, [], ◌∷◌}
use Rattle.std.specs.Prelude.{◌++◌, length}
use Rattle.la_base.specs.Runs.{samples_of}
use Rattle.la_base.specs.declared.samples.Run.{Run}
use Rattle.la_base.specs.declared.wires.Mark.{Mark}
use Rattle.la_base.specs.declared.wires.Mark.TheVariants.{Note as NoteMark, Piece as PieceMark}
use Rattle.la_base.specs.declared.wires.Mark.TheVariants.{Floor as FloorMark, End as EndMark}
use Rattle.la_base.specs.declared.wires.Out.{Out}
use Rattle.la_base.specs.declared.wires.Out.TheVariants.{Note as NoteOut, Piece as PieceOut}
use Rattle.la_base.specs.declared.wires.Out.TheVariants.{Packet as PacketOut}

-- an answer says whether there was more to give; where there wasn't, no run was given, and the feed
-- is at its end
abbrev pub TellsMore : Bool → Bool → List Run → Type 0
TellsMore true ended runs = ended ≡ false
TellsMore false ended runs = (ended ≡ true) × (runs ≡ [])

-- what lists hold, one list behind another
abbrev pub together : {X : Type 0} → List (List X) → List X
together [] = []
together (list ∷ lists) = list ++ together lists

-- the list that a call gives, where it has more to give
abbrev pub given_now : Bool → List Run → List (List Run)
given_now true runs = runs ∷ []
given_now false runs = []

-- runs that are given are one list more; no more samples are given than are numbered
pub record GivesRuns (more : Bool) (old new : List (List Run) → Type 0) (runs : List Run)
    : Type 0 where
  pub gave : (before : List (List Run)) → old before → new (before ++ given_now more runs)
  pub few : (all : List (List Run)) → new all → length (samples_of (together all)) ≤ 2 ^ 60

-- runs that were at hand are one list more; or nothing was given, and those that were given last are
-- kept or let go
abbrev pub GivesHeld : Bool → (List (List Run) → Type 0) → (List (List Run) → Type 0) → List Run
    → List Run → Type 0
GivesHeld true old new held_old held_new = GivesRuns true old new held_new
GivesHeld false old new held_old held_new =
    ((before : List (List Run)) → old before → new before)
    × ((held_new ≡ held_old) ⊎ (held_new ≡ []))

-- a count grows where there was more to give, and has an end
pub record Counts (more : Bool) (old new : ℕ) : Type 0 where
  pub grows : more ≡ true → old < new
  pub within : new ≤ 2 ^ 60

-- marks are appended to the list of an instance, and to no other
pub record AddsMarks (old new : ℕ → List Mark) (instance : ℕ) (marks : List Mark) : Type 0 where
  pub here : new instance ≡ old instance ++ marks
  pub others : (i : ℕ) → i ≢ instance → new i ≡ old i

-- whatever marks were taken before, these were taken now
abbrev pub TakesMarks : ((ℕ → List Mark) → Type 0) → ((ℕ → List Mark) → Type 0) → ℕ → List Mark
    → Type 0
TakesMarks old new instance marks =
    (before after : ℕ → List Mark) → old before → AddsMarks before after instance marks → new after

-- a mark is appended to the list of its instance, and to no other
abbrev pub AddsMark : (ℕ → List Mark) → (ℕ → List Mark) → ℕ → Mark → Type 0
AddsMark old new instance mark = AddsMarks old new instance (mark ∷ [])

-- whatever marks were taken before, one more was taken now
abbrev pub TakesMark : ((ℕ → List Mark) → Type 0) → ((ℕ → List Mark) → Type 0) → ℕ → Mark → Type 0
TakesMark old new instance mark = TakesMarks old new instance (mark ∷ [])

-- the notes and pieces among outputs
abbrev pub marks_of : List Out → List Mark
marks_of [] = []
marks_of (NoteOut note ∷ outs) = NoteMark note ∷ marks_of outs
marks_of (PieceOut piece ∷ outs) = PieceMark piece ∷ marks_of outs
marks_of (PacketOut packet ∷ outs) = marks_of outs

-- marks but for ends
abbrev pub real : List Mark → List Mark
real [] = []
real (NoteMark note ∷ marks) = NoteMark note ∷ real marks
real (PieceMark piece ∷ marks) = PieceMark piece ∷ real marks
real (FloorMark start ∷ marks) = FloorMark start ∷ real marks
real (EndMark ∷ marks) = real marks

-- all of these marks were taken; or it stopped at one, and they were taken up to that one or further
pub record TakesFront (done : Bool) (old new : (ℕ → List Mark) → Type 0) (instance : ℕ)
    (marks : List Mark) : Type 0 where
  pub taken : List Mark
  pub rest : List Mark
  pub front : taken ++ rest ≡ marks
  pub whole : done ≡ true → rest ≡ []
  pub some : done ≡ false → taken ≢ []
  pub takes : TakesMarks old new instance taken
