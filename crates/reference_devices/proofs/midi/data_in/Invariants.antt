use Rattle.std.proofs.Common.{◌≡◌, map, take}
use Rattle.dec_midi.specs.Midi.{data_in}
use Rattle.reference_devices.specs.MidiParts.{datum}
use Rattle.reference_devices.proofs.midi.data_in.Given as goal

abbrev pub invariant-loop-byte : goal.invariant-loop-byte
invariant-loop-byte l = map datum l.list.items ≡ data_in (take l.byte-index l.bytes)
