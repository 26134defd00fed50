-- What a decoder of a flash stands for.
use Rattle.std.specs.Prelude.{List}
use Rattle.la_base.specs.declared.wires.Packet.{Packet}
use Rattle.packet_walks.specs.declared.transacting.Transacting.{Transacting}
use Rattle.packet_walks.specs.laws.Transacting as transacting
use Rattle.dev_flash25.specs.declared.held.FlashOpts.{FlashOpts}
use Rattle.dev_flash25.specs.declared.held.Open.{Open}
use Rattle.dev_flash25.specs.Flash.{flash}
use Rattle.dev_flash25.specs.laws.Held.{flash_steps, open_kept}

abbrev pub FlashDecoder : Type 0
FlashDecoder = Transacting Open FlashOpts

-- it stands for packets: it keeps what they leave
abbrev pub StandsFor : FlashDecoder → List Packet → Type 0
StandsFor machine packets = transacting.StandsFor flash flash_steps open_kept machine packets
