-- Laws of checks.
use Rattle.std.specs.Prelude.{ℕ, ◌≡◌, List}
use Rattle.check_point.specs.Checks.{IsWord}

-- a word is one check at most: it tells how many samples, and what each machine saves
abbrev pub OneWord : Type 0
OneWord = (word kinds : List ℕ) (samples number : ℕ) (one other : List (List ℕ))
    → IsWord word samples kinds one → IsWord word number kinds other → (samples ≡ number)
    × (one ≡ other)
