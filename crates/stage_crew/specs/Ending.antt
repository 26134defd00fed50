-- What the answer of a turn says.
use Rattle.std.specs.Prelude.{Bool, true, false}
use Rattle.stage_run.specs.declared.turn.Turn.{Turn}
use Rattle.stage_run.specs.declared.turn.Turn.TheVariants.{Moved, Idle, Ended}

-- whether it says that there is nothing left to do
abbrev pub tells_end : Turn → Bool
tells_end Ended = true
tells_end Moved = false
tells_end Idle = false
