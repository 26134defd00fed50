-- What a decoder of a thermometer stands for.
use Rattle.std.specs.Prelude.{List}
use Rattle.la_base.specs.declared.wires.Packet.{Packet}
use Rattle.packet_walks.specs.declared.transacting.Transacting.{Transacting}
use Rattle.packet_walks.specs.laws.Transacting as transacting
use Rattle.dev_ds18b20.specs.declared.held.ProbeOpts.{ProbeOpts}
use Rattle.dev_ds18b20.specs.declared.held.Transaction.{Transaction}
use Rattle.dev_ds18b20.specs.Probe.{probe}
use Rattle.dev_ds18b20.specs.laws.Held.{probe_steps, transaction_kept}

abbrev pub ProbeDecoder : Type 0
ProbeDecoder = Transacting Transaction ProbeOpts

-- it stands for packets: it keeps what they leave
abbrev pub StandsFor : ProbeDecoder → List Packet → Type 0
StandsFor machine packets = transacting.StandsFor probe probe_steps transaction_kept machine packets
