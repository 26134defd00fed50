-- The part that a value of the program stands for.
use Rattle.list_cuts.specs.Parts.{Part}
use Rattle.list_cuts.specs.declared.parts.Part.{Part as Held}

-- its items and what ended it
abbrev pub kept : {T : Type 0} → Held T → Part T
kept held = record { items = held.items.items; ended_by = held.ended_by }
