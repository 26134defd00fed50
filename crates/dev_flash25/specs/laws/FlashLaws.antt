-- What a flash promises of its outputs, and that packets make its decoder.
use Rattle.std.proofs.Common.{◌≡◌, List, sym, ◌∙◌}
use Rattle.la_base.specs.declared.wires.Packet.{Packet}
use Rattle.la_base.specs.declared.wires.Wire.TheVariants.{Spi as SpiWire, Nothing as NoWire}
use Rattle.packet_walks.specs.Outputs.{PacketOuts}
use Rattle.packet_walks.specs.laws.TransactionLaws.{promises}
use Rattle.dev_flash25.specs.Flash.{flash, flash_outs}
use Rattle.dev_flash25.specs.Opening.{FlashDecoder, StandsFor}
use Rattle.dev_flash25.specs.laws.Held.{open_kept, flash_steps}
use Rattle.dev_flash25.specs.laws.WordLaws.{flash_pushed}
use Rattle.dev_flash25.specs.laws.SoundLaws.{flash_fits, flash_sound}

pub flash_promises : PacketOuts SpiWire NoWire flash_outs
flash_promises =
    (promises flash flash_steps SpiWire flash_fits open_kept flash_sound flash_pushed).all

-- packets make their decoder
pub one_flash : (one other : FlashDecoder) (packets : List Packet) → StandsFor one packets
    → StandsFor other packets → one ≡ other
one_flash one other packets stands also = λ i. record { held = (stands ∙ sym also) i }
