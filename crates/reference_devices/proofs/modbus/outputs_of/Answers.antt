use Rattle.std.proofs.Common.{◌∙◌, ◌<◌, ◌++◌, List, length, ap, arith}
use Rattle.std.proofs.lemmas.List.{take_all}
use Rattle.la_base.specs.declared.wires.Packet.{Packet}
use Rattle.dec_modbus.specs.Modbus.{messages, modbus_outs, rows_outs}
use Rattle.reference_devices.specs.MessageParts.{packet_outs, with_packet}
use Rattle.reference_devices.proofs.MessageRounds.{message_round}
use Rattle.reference_devices.proofs.modbus.outputs_of.Goals as goal

pub loop-packet-preserved : goal.loop-packet-preserved
loop-packet-preserved c =
    let s = c.loop-packet in
    let gap = c.samples_of_ns-gap.result in
    let packet = c.packet-item.result in
    let within : s.packet-index < length c.args.packets.now = omega arith in
    let all = message_round gap c.args.packets.now s.packet-index packet within c.packet-item.is s.outs.items c.add_packet.new.outs.items s.row.items c.in_ok-row.row.items s.invariant.told s.invariant.left
    (c.in_ok-add_packet.ensures ∙ ap (λ (l : List Packet). s.outs.items ++ packet_outs gap l packet) c.deref.ensures.value)
    (c.in_ok-row.ensures ∙ ap (λ (l : List Packet). with_packet gap l packet) c.deref-in-loop-packet.ensures.value) in
    record { told = all.0; left = all.1 }

pub returns : goal.returns
unfolding modbus_outs
returns c =
    let s = c.loop-packet in
    let whole = take_all s.packet-index c.args.packets.now (omega arith) in
    s.invariant.told ∙ (λ i. rows_outs (messages (c.samples_of_ns-gap.ensures i) (whole i)))
