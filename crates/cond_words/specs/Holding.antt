-- What the terms of an alternative ask, in the levels of the channels themselves.
use Rattle.std.specs.Prelude.{ℕ, ◌≡◌, ◌≢◌, ◌+◌, ◌≤◌, ◌⊎◌, ◌↔◌, List, slice_get, Option, Some, None}
use Rattle.std.specs.Int.{bit_at}
use Rattle.la_base.specs.Naming.{find_channel}
use Rattle.cond_words.specs.Binding.{IsBound}
use Rattle.wait_cond.specs.Meets.{MeetsAt}
use Rattle.cond_words.specs.Words.{Meaning, Line, Skip}
use Rattle.wait_cond.specs.declared.alt.Alt.{Alt}
use Rattle.cond_words.specs.declared.words.Letter.{Letter}
use Rattle.cond_words.specs.declared.words.Letter.TheVariants.{Low, High, Rise, Fall, Edge, Steady}

-- the level of each channel at a sample: 1 for high, 0 for low
abbrev pub Levels : Type 0
Levels = ℕ → ℕ

-- a sample has the levels of the channels that are its pins
abbrev pub HasLevels : List ℕ → Levels → ℕ → Type 0
HasLevels pins levels sample =
    (line channel : ℕ) → slice_get pins line ≡ Some channel → bit_at sample line ≡ levels channel

-- so has the sample before, if there is one
abbrev pub HadLevels : List ℕ → Option Levels → Option ℕ → Type 0
HadLevels pins (Some levels) (Some sample) = HasLevels pins levels sample
HadLevels pins (Some levels) None = ⊥
HadLevels pins None (Some sample) = ⊥
HadLevels pins None None = Unit {0}

-- a channel rises or falls from the sample before, if there is one
abbrev pub GoesUp : Option Levels → Levels → ℕ → Type 0
GoesUp None now channel = ⊥
GoesUp (Some before) now channel = (before channel ≡ 0) × (now channel ≡ 1)

abbrev pub GoesDown : Option Levels → Levels → ℕ → Type 0
GoesDown None now channel = ⊥
GoesDown (Some before) now channel = (before channel ≡ 1) × (now channel ≡ 0)

-- a letter holds of a channel
abbrev pub LetterHolds : Option Levels → Levels → ℕ → Letter → Type 0
LetterHolds before now channel Low = now channel ≡ 0
LetterHolds before now channel High = now channel ≡ 1
LetterHolds before now channel Rise = GoesUp before now channel
LetterHolds before now channel Fall = GoesDown before now channel
LetterHolds before now channel Edge = GoesUp before now channel ⊎ GoesDown before now channel
LetterHolds before now channel Steady =
    (¬ GoesUp before now channel) × (¬ GoesDown before now channel)

-- a term holds at sample q in the wait from sample `from` on: its letter, of the channel of its
-- reference; or so many samples lie between
abbrev pub TermHolds : List (List ℕ) → Option Levels → Levels → ℕ → ℕ → Meaning → Type 0
TermHolds names before now from q (Line reference letter) =
    (channel : ℕ) × (find_channel names reference ≡ Some channel)
    × LetterHolds before now channel letter
TermHolds names before now from q (Skip number) = number ≢ 0 → from + number ≤ q + 1

-- each term holds
abbrev pub AllHold : List (List ℕ) → Option Levels → Levels → ℕ → ℕ → List Meaning → Type 0
AllHold names before now from q terms =
    (i : ℕ) (term : Meaning) → slice_get terms i ≡ Some term
    → TermHolds names before now from q term

-- an alternative that terms are bound to is met exactly where each of the terms holds
abbrev pub MetWhereTermsHold : Type 0
MetWhereTermsHold =
    (most : ℕ) (names : List (List ℕ)) (old pins : List ℕ) (terms : List Meaning) (alt : Alt)
    → IsBound most names old pins terms alt
    → (before : Option Levels) (now : Levels) (sample_before : Option ℕ) (sample from q : ℕ)
    → HadLevels pins before sample_before → HasLevels pins now sample
    → MeetsAt alt sample_before sample from q ↔ AllHold names before now from q terms
