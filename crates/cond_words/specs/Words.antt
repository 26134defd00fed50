-- What the terms of an alternative mean.
use Rattle.std.specs.Prelude.{ℕ, List, map, Option, Some, None}
use Rattle.std.specs.String.{string_bytes}
use Rattle.cond_words.specs.declared.words.AltWords.{AltWords}
use Rattle.cond_words.specs.declared.words.CondError.{CondError}
use Rattle.cond_words.specs.declared.words.CondError.TheVariants as error
use Rattle.cond_words.specs.declared.words.CondFault.{CondFault}
use Rattle.cond_words.specs.declared.words.Letter.{Letter}
use Rattle.cond_words.specs.declared.words.Term.{Term}
use Rattle.cond_words.specs.declared.words.Term.TheVariants as term

-- a reference with its letter, or a skip with its number
pub data Meaning : Type 0 where
  Line : List ℕ → Letter → Meaning
  Skip : ℕ → Meaning

abbrev pub meaning_of : Term → Meaning
meaning_of (term.Line reference letter) = Line (string_bytes reference) letter
meaning_of (term.Skip number) = Skip number

abbrev pub meanings : List Term → List Meaning
meanings = map meaning_of

-- the terms of a word that was read
abbrev pub alt_terms : AltWords → List Meaning
alt_terms words = meanings words.terms.items

-- the fault that an error tells; want of memory tells none
abbrev pub fault_in : CondError → Option CondFault
fault_in (error.Fault fault) = Some fault
fault_in error.NoMemory = None
