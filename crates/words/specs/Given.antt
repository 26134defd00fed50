-- What a use of an option means.
use Rattle.std.specs.Prelude.{Option, Some, None}
use Rattle.words.specs.Uses.{Used}
use Rattle.words.specs.declared.uses.Given.{Given}
use Rattle.words.specs.declared.kinds.WordFault.{WordFault}
use Rattle.words.specs.declared.kinds.WordsError.{WordsError}
use Rattle.words.specs.declared.kinds.WordsError.TheVariants as error

-- a use, as the code has it
abbrev pub used_of : Given → Used
used_of given = record { name = given.name; word = given.word; text = given.text.now }

-- the fault that an error tells; want of memory tells none
abbrev pub word_fault_in : WordsError → Option WordFault
word_fault_in (error.Fault fault) = Some fault
word_fault_in error.NoMemory = None
