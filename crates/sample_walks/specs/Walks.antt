-- A walk over samples: what is kept of the samples so far, and what one more of them gives and
-- changes, by its place, the sample before it and its own value.
use Rattle.std.specs.Prelude.{ℕ, ◌≡◌, ◌≢◌, ◌+◌, ◌≤◌, ◌⊎◌, Bool, true, false, List, [], ◌∷◌, ◌++◌}
use Rattle.std.specs.Prelude.{length, Option, Some, None}
use Rattle.la_base.specs.declared.wires.Out.{Out}
use Rattle.wait_cond.specs.declared.alt.Alt.{Alt}
use Rattle.wait_cond.specs.Stops.{MetSet}
use Rattle.list_cuts.specs.Neighbours.{last_of}
use Rattle.decoder_core.specs.Promises.{NotesFrom, packet_starts}

-- numbers that never fall, from one number up to another
abbrev pub Between : ℕ → ℕ → List ℕ → Type 0
Between low high [] = low ≤ high
Between low high (n ∷ ns) = (low ≤ n) × Between n high ns

-- a walk: its states, and what one more sample does to a state
pub record Walk (H : Type 0) : Type 0 where
  -- what is kept of no samples
  pub begin : H
  -- what is then kept, what is given, and whether the sample changes or gives anything
  pub next : H → ℕ → Option ℕ → ℕ → H
  pub gives : H → ℕ → Option ℕ → ℕ → List Out
  pub moves : H → ℕ → Option ℕ → ℕ → Bool
  -- what is waited for, and where that starts which has begun and isn't given yet
  pub alts : H → List Alt
  pub near : H → ℕ → ℕ

module _ {H : Type 0} (w : Walk H) where
  -- the state behind samples, the first of which stands at place k, and what they give
  abbrev pub walk_from : H → ℕ → Option ℕ → List ℕ → H
  walk_from h k before [] = h
  walk_from h k before (now ∷ later) = walk_from (w.next h k before now) (k + 1) (Some now) later

  abbrev pub given_from : H → ℕ → Option ℕ → List ℕ → List Out
  given_from h k before [] = []
  given_from h k before (now ∷ later) =
      w.gives h k before now ++ given_from (w.next h k before now) (k + 1) (Some now) later

  -- what is kept of samples, and what they give
  unfoldable pub walked : List ℕ → H
  walked list = walk_from w.begin 0 None list

  unfoldable pub given : List ℕ → List Out
  given list = given_from w.begin 0 None list

  -- the last sample is one that changes or gives something, or there is none
  abbrev pub EndsThere : List ℕ → Type 0
  EndsThere list =
      (list ≡ [])
      ⊎ ((front : List ℕ) × (now : ℕ) × (list ≡ front ++ now ∷ [])
      × (w.moves (walked front) (length front) (last_of front) now ≡ true))

  -- what a walk owes. `fits`: a state may stand behind so many samples, the last of which is this
  -- one; `timed`: it may do so where the last stop was just before that place
  pub record Sound (fits : H → ℕ → Option ℕ → Type 0) (timed : H → ℕ → Type 0) : Type 0 where
    pub begin_fits : fits w.begin 0 None
    pub begin_timed : timed w.begin 0
    pub next_fits : (h : H) (q : ℕ) (before : Option ℕ) (now : ℕ) → fits h q before
        → fits (w.next h q before now) (q + 1) (Some now)
    pub next_timed : (h : H) (q : ℕ) (before : Option ℕ) (now : ℕ) → fits h q before
        → w.moves h q before now ≡ true → timed (w.next h q before now) (q + 1)
    pub still : (h : H) (q : ℕ) (before : Option ℕ) (now : ℕ) → fits h q before
        → w.moves h q before now ≡ false
        → (w.gives h q before now ≡ []) × (w.next h q before now ≡ h)
    pub none : (h : H) (q : ℕ) (before : Option ℕ) (now from : ℕ) → fits h q before → timed h from
        → MetSet (w.alts h) before now from q 0 → w.moves h q before now ≡ false
    pub some : (h : H) (q : ℕ) (before : Option ℕ) (now from met : ℕ) → fits h q before
        → timed h from → MetSet (w.alts h) before now from q met → met ≢ 0
        → w.moves h q before now ≡ true
    pub few : (h : H) (q : ℕ) (before : Option ℕ) (now : ℕ) → length (w.gives h q before now) ≤ 16
    pub notes : (h : H) (q : ℕ) (before : Option ℕ) (now : ℕ) → fits h q before
        → NotesFrom (w.near h q) (w.gives h q before now)
    pub packets : (h : H) (q : ℕ) (before : Option ℕ) (now : ℕ) → fits h q before
        → Between (w.near h q) (w.near (w.next h q before now) (q + 1))
        (packet_starts (w.gives h q before now))
