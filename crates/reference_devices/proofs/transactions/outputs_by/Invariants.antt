use Rattle.std.proofs.Common.{◌≡◌, take}
use Rattle.packet_walks.specs.laws.CutLaws.{ended_of, last_of}
use Rattle.reference_devices.proofs.transactions.outputs_by.Given as goal

abbrev pub invariant-loop-packet : goal.invariant-loop-packet
invariant-loop-packet g l = record {
  told : l.outs.items ≡ ended_of (g.D.Transacts.device l.device) (take l.packet-index l.packets);
  left : l.rest.items ≡ last_of (g.D.Transacts.device l.device) (take l.packet-index l.packets);
}
