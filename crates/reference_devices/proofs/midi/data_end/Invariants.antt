use Rattle.std.proofs.Common.{◌≡◌, drop, map}
use Rattle.dec_midi.specs.Midi.{data_end}
use Rattle.reference_devices.specs.MidiParts.{datum}
use Rattle.reference_devices.proofs.midi.data_end.Given as goal

abbrev pub invariant-loop-one : goal.invariant-loop-one
invariant-loop-one l = data_end l.end (map datum (drop l.one-index l.list)) ≡ data_end l.fn.last (map datum l.list)
