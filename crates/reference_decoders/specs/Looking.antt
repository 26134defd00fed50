-- What a frame shows to the reference program of serial lines, and to the definition.
use Rattle.dec_uart.specs.Chain.{Shape, Look as Shows, Ahead as ShowsAhead}
use Rattle.dec_uart.specs.Chain.{FalseStart as ShowsFalseStart, Whole as ShowsWhole}
use Rattle.dec_uart.specs.Chain.{AllLow as ShowsAllLow}
use Rattle.dec_uart.specs.Frames.{shape_of}
use Rattle.dec_uart.specs.declared.held.Line.{Line}
use Rattle.reference_decoders.specs.declared.uart.Look.{Look}
use Rattle.reference_decoders.specs.declared.uart.Look.TheVariants.{Ahead, FalseStart, Whole, AllLow}

-- the shape of a line's frames
abbrev pub line_shape : Line → Shape
line_shape line = shape_of line.opts line.rate

-- what the program's look stands for
abbrev pub shown : Look → Shows
shown Ahead = ShowsAhead
shown FalseStart = ShowsFalseStart
shown (Whole levels) = ShowsWhole levels.items
shown (AllLow levels high) = ShowsAllLow levels.items high
