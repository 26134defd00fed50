-- What the help tells.
use Rattle.std.specs.Prelude.{ℕ, ◌≡◌, List, [], ◌∷◌, ◌++◌, codes, unwrap_or}
use Rattle.std.specs.List.{concat}
use Rattle.kind_table.specs.declared.kinds.Kind.{Kind}
use Rattle.words.specs.Options.{row}
use Rattle.words.specs.declared.options.Name.{Name}
use Rattle.help_text.specs.Decoders.{kind_told}

-- the lines of an option: its name, what it sets, its values and its usual value
abbrev pub option_lines : List ℕ → List ℕ → List ℕ → List ℕ → List ℕ
option_lines name sets values usual =
    concat (codes "  --" ∷ name ∷ codes "\n      " ∷ sets ∷ codes "\n      takes " ∷ values
    ∷ codes "; usual: " ∷ usual ∷ codes "\n" ∷ [])

-- a text that tells an option of the program: its name and its usual value, or that it has none, are those of its row
abbrev pub TellsOption : Name → List ℕ → Type 0
TellsOption name text = (sets values : List ℕ) × (text ≡ option_lines (row name).name sets values (unwrap_or (row name).usual (codes "none")))

-- a text that tells a decoder: what it is and stands on, its options with what they take, which of
-- them are needed, and its classes of binary data
abbrev pub TellsKind : Kind → List ℕ → Type 0
TellsKind kind text = text ≡ kind_told kind

-- a text has a part for each of these, in their order
abbrev pub TellsEach : {A : Type 0} → (A → List ℕ → Type 0) → List A → List ℕ → Type 0
TellsEach Tells [] text = text ≡ []
TellsEach Tells (x ∷ xs) text = (part rest : List ℕ) × (text ≡ part ++ rest) × Tells x part × TellsEach Tells xs rest

-- the help: how words are put, each option, what stands before the decoders, each decoder, and the examples with the exit
-- statuses
pub record IsHelp (usage decoders closing : List ℕ) (names : List Name) (kinds : List Kind) (text : List ℕ) : Type 0 where
  pub options_told : List ℕ
  pub options : TellsEach TellsOption names options_told
  pub kinds_told : List ℕ
  pub each_kind : TellsEach TellsKind kinds kinds_told
  pub is : text ≡ usage ++ options_told ++ decoders ++ kinds_told ++ closing
