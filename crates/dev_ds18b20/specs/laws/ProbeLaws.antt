-- What a thermometer promises of its outputs, and that packets make its decoder.
use Rattle.std.proofs.Common.{◌≡◌, List, sym, ◌∙◌}
use Rattle.la_base.specs.declared.wires.Packet.{Packet}
use Rattle.la_base.specs.declared.wires.Wire.TheVariants.{OwNet as NetWire, Nothing as NoWire}
use Rattle.packet_walks.specs.Outputs.{PacketOuts}
use Rattle.packet_walks.specs.laws.TransactionLaws.{promises}
use Rattle.dev_ds18b20.specs.Opening.{ProbeDecoder, StandsFor}
use Rattle.dev_ds18b20.specs.Probe.{probe, probe_outs}
use Rattle.dev_ds18b20.specs.laws.Held.{transaction_kept, probe_steps}
use Rattle.dev_ds18b20.specs.laws.ByteLaws.{probe_pushed}
use Rattle.dev_ds18b20.specs.laws.SoundLaws.{probe_fits, probe_sound}

pub probe_promises : PacketOuts NetWire NoWire probe_outs
probe_promises =
    (promises probe probe_steps NetWire probe_fits transaction_kept probe_sound probe_pushed).all

-- packets make their decoder
pub one_probe : (one other : ProbeDecoder) (packets : List Packet) → StandsFor one packets
    → StandsFor other packets → one ≡ other
one_probe one other packets stands also = λ i. record { held = (stands ∙ sym also) i }
