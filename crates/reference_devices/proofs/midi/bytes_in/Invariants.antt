use Rattle.std.proofs.Common.{◌≡◌, take}
use Rattle.dec_midi.specs.Midi.{bytes_in}
use Rattle.reference_devices.proofs.midi.bytes_in.Given as goal

abbrev pub invariant-loop-packet : goal.invariant-loop-packet
invariant-loop-packet l = l.bytes.items ≡ bytes_in (take l.packet-index l.packets)
