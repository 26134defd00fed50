-- The form of a check: its bytes, and the word that they are written as.
use Rattle.std.specs.Prelude.{ℕ, ◌≡◌, ◌≤◌, ◌<◌, ◌^◌, List, [], ◌∷◌, ◌++◌, length, codes}
use Rattle.std.specs.Prelude.{get_or, Option, Result, Ok, OnOk}
use Rattle.std.specs.Io.KnownBytes.{Appends}
use Rattle.la_io.specs.Causes.{AppendsFront}
use Rattle.la_io.specs.declared.outside.Failed.{Failed}
use Rattle.std.specs.Int.{w64, to_be_bytes}
use Rattle.hex.specs.Hex.{decode_of, encode_lower}

-- one machine: the place of its kind, how many bytes it saves, and these
abbrev pub entry_bytes : ℕ → List ℕ → List ℕ
entry_bytes place saved = place ∷ length saved ∷ saved

-- bytes are those of machines of these kinds, which save these bytes, at most 240 each
abbrev pub AreEntries : List ℕ → List (List ℕ) → List ℕ → Type 0
AreEntries [] [] bytes = bytes ≡ []
AreEntries [] (saved ∷ saves) bytes = ⊥
AreEntries (place ∷ kinds) [] bytes = ⊥
AreEntries (place ∷ kinds) (saved ∷ saves) bytes = (rest : List ℕ) × (length saved ≤ 240)
    × (bytes ≡ entry_bytes place saved ++ rest) × AreEntries kinds saves rest

-- bytes are a check: 1, how many samples, how many machines, and the machines
pub record IsCheck (bytes : List ℕ) (samples : ℕ) (kinds : List ℕ) (saves : List (List ℕ))
    : Type 0 where
  pub few : samples ≤ 2 ^ 59
  pub tail : List ℕ
  pub form : bytes ≡ 1 ∷ to_be_bytes w64 samples ++ length kinds ∷ tail
  pub entries : AreEntries kinds saves tail

-- the word of a check, its digits in either case
abbrev pub IsWord : List ℕ → ℕ → List ℕ → List (List ℕ) → Type 0
IsWord word samples kinds saves = (bytes : List ℕ) × (decode_of word ≡ Ok bytes)
    × IsCheck bytes samples kinds saves

-- its line: `checkpoint: `, the word in lower case, and a line feed
abbrev pub check_line : List ℕ → List ℕ
check_line bytes = codes "checkpoint: " ++ encode_lower bytes ++ 10 ∷ []

-- each machine saves its bytes
pub record AllSave {M : Type 0} (saves : M → List ℕ → Type 0) (machines : List M)
    (all : List (List ℕ)) : Type 0 where
  pub count : length all ≡ length machines
  pub each : (j : ℕ) (d : M) → j < length machines → saves (get_or machines j d) (get_or all j [])

-- machines were appended, one after another
pub record PushesEntries {M : Type 0} (saves : M → List ℕ → Type 0) (kinds : List ℕ)
    (machines : List M) (before after : List ℕ) : Type 0 where
  pub all : List (List ℕ)
  pub save : AllSave saves machines all
  pub tail : List ℕ
  pub entries : AreEntries kinds all tail
  pub behind : after ≡ before ++ tail

-- bytes are a check of these machines, and the word in lower case is read as these bytes
pub record IsCheckOf {M : Type 0} (saves : M → List ℕ → Type 0) (samples : ℕ) (kinds : List ℕ)
    (machines : List M) (bytes : List ℕ) : Type 0 where
  pub all : List (List ℕ)
  pub save : AllSave saves machines all
  pub check : IsCheck bytes samples kinds all
  pub back : decode_of (encode_lower bytes) ≡ Ok bytes

-- the line of a check of these machines was written, or a front of it
pub record WritesCheck {M : Type 0} (saves : M → List ℕ → Type 0) (samples : ℕ) (kinds : List ℕ)
    (machines : List M) (old new : Option (List ℕ)) (result : Result Unit Failed) : Type 0 where
  pub bytes : List ℕ
  pub check : IsCheckOf saves samples kinds machines bytes
  pub whole : OnOk result (Appends old new (check_line bytes))
  pub front : AppendsFront old new (check_line bytes)
