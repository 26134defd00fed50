use Rattle.std.proofs.Common.{◌≡◌, take}
use Rattle.dev_flash25.specs.Flash.{words_in}
use Rattle.reference_devices.proofs.flash25.words_in.Given as goal

abbrev pub invariant-loop-packet : goal.invariant-loop-packet
invariant-loop-packet l = l.words.items ≡ words_in (take l.packet-index l.packets)
