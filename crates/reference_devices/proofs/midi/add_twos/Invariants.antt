use Rattle.std.proofs.Common.{◌≡◌, true, length, map}
use Rattle.dec_midi.specs.Midi.{twos_outs}
use Rattle.reference_devices.specs.MidiParts.{datum}
use Rattle.reference_devices.proofs.midi.add_twos.Given as goal

abbrev pub invariant-loop-rest : goal.invariant-loop-rest
invariant-loop-rest l = twos_outs l.first l.fn.status.byte (map datum l.rest) l.fn.byte.byte ≡ twos_outs true l.fn.status.byte (map datum l.fn.before) l.fn.byte.byte

abbrev pub decreases-loop-rest : goal.decreases-loop-rest
decreases-loop-rest l = length l.rest
