use Rattle.std.proofs.Common.{◌∙◌, ◌<◌, ◌++◌, List, length, sym, ap, arith}
use Rattle.std.proofs.lemmas.List.{take_all}
use Rattle.la_base.specs.declared.wires.Packet.{Packet}
use Rattle.packet_walks.specs.Transactions.{closed_outs, from_first, open_outs, open_part, transaction_outs}
use Rattle.packet_walks.specs.laws.CutLaws.{ended_of}
use Rattle.reference_devices.proofs.Rounds.{cut_round_ends, cut_round_joins}
use Rattle.reference_devices.proofs.transactions.outputs_by.Goals.{then-ends+in_ok-add_closed+in_ok-rest, else-ends+in_ok-push}
use Rattle.reference_devices.proofs.transactions.outputs_by.Goals as goal

pub loop-packet-preserved : goal.loop-packet-preserved
loop-packet-preserved g c =
    let s = c.loop-packet in
    let device = g.D.Transacts.device c.args.device.now in
    let packets = c.args.packets.now in
    let packet = c.packet-item in
    let within : s.packet-index < length packets = omega arith in
    elim c.if-ends.branch [
      | then-ends+in_ok-add_closed+in_ok-rest w ↦
          let first = w.from_first.ensures ∙ ap (from_first device.begins) w.deref.ensures.value in
          let all = cut_round_ends device packets s.packet-index packet.result within packet.is (sym c.ends.ensures ∙ w.if-ends.true) s.outs.items w.add_closed.new.outs.items s.rest.items w.in_ok-rest.rest.items s.invariant.told s.invariant.left
          (w.in_ok-add_closed.ensures ∙ ap (λ (l : List Packet). s.outs.items ++ closed_outs device l) first) w.in_ok-rest.ensures in
          record { told = ap (λ v. v.items) w.outs-is ∙ all.0; left = ap (λ v. v.items) w.rest-is ∙ all.1 }
      | else-ends+in_ok-push w ↦
          let all = cut_round_joins device packets s.packet-index packet.result within packet.is (sym c.ends.ensures ∙ w.if-ends.false) s.outs.items s.rest.items w.push.new.self.items s.invariant.told s.invariant.left w.in_ok-push.ensures.items in
          record { told = ap (λ v. v.items) w.outs-is ∙ all.0; left = ap (λ v. v.items) w.rest-is ∙ all.1 }
    ]

pub returns : goal.returns
unfolding transaction_outs
returns g c =
    let s = c.loop-packet in
    let device = g.D.Transacts.device c.args.device.now in
    let whole = take_all s.packet-index c.args.packets.now (omega arith) in
    let first = c.from_first-2.ensures ∙ ap (from_first device.begins) (c.deref-2.ensures.value ∙ s.invariant.left) in
    c.in_ok-add_open.ensures ∙ (λ i. s.invariant.told i ++ open_outs device (first i))
    ∙ ap (λ (l : List Packet). ended_of device l ++ open_outs device (open_part device l)) whole
