use Rattle.std.proofs.Common.{◌∙◌, ◌<◌, ◌++◌, List, length, ap, arith}
use Rattle.std.proofs.lemmas.List.{take_all}
use Rattle.la_base.specs.declared.wires.Packet.{Packet}
use Rattle.dec_midi.specs.Midi.{bytes_outs, midi_outs}
use Rattle.reference_devices.specs.MidiParts.{byte_gives, head, others_behind}
use Rattle.reference_devices.proofs.MidiRounds.{byte_round}
use Rattle.reference_devices.proofs.midi.outputs_of.Goals as goal

pub loop-byte-preserved : goal.loop-byte-preserved
loop-byte-preserved c =
    let s = c.loop-byte in
    let byte = c.byte-item.result in
    let bytes = c.deref-byte-items.result.now in
    let within : s.byte-index < length bytes = omega arith in
    let all = byte_round bytes s.byte-index byte within c.byte-item.is (head s.status) (head c.head_behind-status.result) s.others.items c.in_ok-others.others.items s.outs.items c.add_byte.new.outs.items s.invariant.left s.invariant.told
    (c.in_ok-add_byte.ensures ∙ ap (λ (l : List Packet). s.outs.items ++ byte_gives (head s.status) l byte) c.deref.ensures.value)
    c.head_behind-status.ensures
    (c.in_ok-others.ensures ∙ ap (λ (l : List Packet). others_behind l byte) c.deref-in-loop-byte.ensures.value) in
    record { told = all.0; left = all.1 }

pub returns : goal.returns
unfolding midi_outs
returns c =
    let s = c.loop-byte in
    s.invariant.told ∙ ap bytes_outs (take_all s.byte-index c.deref-byte-items.result.now (omega arith) ∙ c.deref-byte-items.ensures.value ∙ c.in_ok-bytes.ensures)
