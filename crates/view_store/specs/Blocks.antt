-- Notes that lie in blocks.
use Rattle.std.specs.Prelude.{ℕ, List, Option, Some, None, []}
use Rattle.std.specs.List.{flat_map}
use Rattle.std.specs.Arc.{arc_value}
use Rattle.la_base.specs.declared.wires.Note.{Note}
use Rattle.view_store.specs.declared.block.Block.{Block}

-- the notes of a block
abbrev pub notes_of_block : Block → List (ℕ × Note)
notes_of_block block = (arc_value block.notes).items

-- the notes of blocks, in their order
abbrev pub notes_in : List Block → List (ℕ × Note)
notes_in blocks = flat_map notes_of_block blocks

abbrev pub notes_held : Option Block → List (ℕ × Note)
notes_held None = []
notes_held (Some block) = notes_of_block block
