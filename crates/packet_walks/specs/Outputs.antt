-- What all outputs of a decoder of packets promise.
use Rattle.std.specs.Prelude.{List}
use Rattle.la_base.specs.declared.wires.Out.{Out}
use Rattle.la_base.specs.declared.wires.Packet.{Packet}
use Rattle.la_base.specs.declared.wires.Wire.{Wire}
use Rattle.decoder_core.specs.Packets.{PacketsStayInOrder}
use Rattle.decoder_core.specs.Promises.{AddsFew, GivesNothing, GivesOn, KeepsFront}

-- nothing, prefix, order where packets of one wire count, few, and packets of another wire alone
pub record PacketOuts (wants gives : Wire) (outs : List Packet → List Out) : Type 0 where
  pub nothing : GivesNothing outs
  pub prefix : KeepsFront outs
  pub order : PacketsStayInOrder wants outs
  pub few : AddsFew outs
  pub on_wire : GivesOn gives outs
