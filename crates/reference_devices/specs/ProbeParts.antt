-- What values of the thermometer's reference program stand for.
use Rattle.std.specs.Prelude.{List, Option, Some, None}
use Rattle.std.specs.Borrow.{Bor}
use Rattle.la_base.specs.declared.wires.Packet.{Packet}

-- packets that were found, if any
abbrev pub behind : Option (Bor (List Packet)) → Option (List Packet)
behind None = None
behind (Some packets) = Some packets.now
