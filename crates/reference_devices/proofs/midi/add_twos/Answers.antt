use Rattle.std.proofs.Common.{◌∙◌, false, List, map, ap, arith}
use Rattle.dec_midi.specs.Midi.{twos_outs}
use Rattle.reference_devices.specs.declared.midi_bytes.Datum.{Datum}
use Rattle.reference_devices.specs.MidiParts.{datum}
use Rattle.reference_devices.proofs.MidiRounds.{two_fewer}
use Rattle.reference_devices.proofs.midi.add_twos.Goals as goal

pub loop-rest-preserved : goal.loop-rest-preserved
loop-rest-preserved c =
    ap (λ (l : List Datum). twos_outs false c.args.status.byte (map datum l) c.args.byte.byte) c.split_at.ensures.back
    ∙ two_fewer c.loop-rest.first c.args.status.byte c.args.byte.byte c.loop-rest.rest.now (omega arith) ∙ c.loop-rest.invariant
