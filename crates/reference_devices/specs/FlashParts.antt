-- The parts of what the words of a flash say, as the reference program puts them together.
use Rattle.std.specs.Prelude.{ℕ, List, [], ◌∷◌, length}
use Rattle.la_base.specs.declared.wires.Out.{Out}
use Rattle.la_base.specs.declared.wires.Packet.{Packet}
use Rattle.decoder_core.specs.Outputs.{span_note}
use Rattle.dev_flash25.specs.declared.held.Command.{Command}
use Rattle.dev_flash25.specs.declared.held.Command.TheVariants.{Id, Read, FastRead, Program}
use Rattle.dev_flash25.specs.declared.held.Command.TheVariants.{EraseSector, EraseBlock}
use Rattle.dev_flash25.specs.Flash.{id_outs, address, addressed, reads, fast_reads, programs}
use Rattle.dev_flash25.specs.Flash.{behind_dummy, data_summary}

-- the data behind an address
abbrev pub data_behind : Command → ℕ → List Packet → List Out
data_behind Read at words = reads at words
data_behind FastRead at words = fast_reads at words
data_behind Program at words = programs at words
data_behind command at words = []

-- a number of three bytes, and the words behind it
abbrev pub number_outs : Command → Packet → Packet → Packet → List Packet → List Out
number_outs Id x y z others = id_outs x y z others
number_outs command x y z others = addressed (data_behind command) x y z others

-- the summary of an instruction whose address is whole
abbrev pub at_summary : Command → ℕ → ℕ → ℕ → List Packet → List Out
at_summary Read first last at others = data_summary 7 first last at (length others)
at_summary FastRead first last at others =
    data_summary 7 first last at (length (behind_dummy others))
at_summary Program first last at others = data_summary 8 first last at (length others)
at_summary EraseSector first last at others = span_note 9 first last 0 at ∷ []
at_summary EraseBlock first last at others = span_note 10 first last 0 at ∷ []
at_summary command first last at others = []

abbrev pub whole_summary : Command → ℕ → ℕ → Packet → Packet → Packet → List Packet → List Out
whole_summary command first last x y z others = at_summary command first last (address x y z) others
