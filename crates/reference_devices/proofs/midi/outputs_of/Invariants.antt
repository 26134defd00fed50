use Rattle.std.proofs.Common.{◌≡◌, take}
use Rattle.list_cuts.specs.Neighbours.{last_of}
use Rattle.list_cuts.specs.Parts.{parts}
use Rattle.dec_midi.specs.Midi.{bytes_outs, is_status}
use Rattle.reference_devices.specs.MidiParts.{head, part_by}
use Rattle.reference_devices.proofs.midi.outputs_of.Given as goal

abbrev pub invariant-loop-byte : goal.invariant-loop-byte
invariant-loop-byte l = record {
  told : l.outs.items ≡ bytes_outs (take l.byte-index l.byte-items);
  left : part_by (head l.status) l.others.items ≡ last_of (parts is_status (take l.byte-index l.byte-items));
}
