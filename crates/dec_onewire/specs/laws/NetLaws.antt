-- What the network promises of its outputs, and that packets make its decoder.
use Rattle.std.proofs.Common.{◌≡◌, List, refl}
use Rattle.la_base.specs.declared.wires.Packet.{Packet}
use Rattle.la_base.specs.declared.wires.Wire.TheVariants.{OwLink as LinkWire, OwNet as NetWire}
use Rattle.packet_walks.specs.Outputs.{PacketOuts}
use Rattle.packet_walks.specs.laws.WalkLaws.{walk_promises}
use Rattle.packet_walks.specs.laws.Walking.{one_walking}
use Rattle.dec_onewire.specs.declared.net.held.OwNetOpts.{OwNetOpts}
use Rattle.dec_onewire.specs.Net.{net_outs}
use Rattle.dec_onewire.specs.Opening.{NetDecoder, NetStandsFor}
use Rattle.dec_onewire.specs.laws.NetMachine.{held_of, net_walk}
use Rattle.dec_onewire.specs.laws.NetPushed.{net_pushed}
use Rattle.dec_onewire.specs.laws.NetSound.{net_fits, net_sound}

pub net_promises : PacketOuts LinkWire NetWire net_outs
net_promises =
    walk_promises net_walk net_outs held_of net_pushed NetWire net_fits net_sound LinkWire

pub one_net : (one other : NetDecoder) (packets : List Packet) → NetStandsFor one packets
    → NetStandsFor other packets → one ≡ other
one_net one other packets stands also =
    one_walking (λ (opts : OwNetOpts). held_of) one other packets refl stands also
