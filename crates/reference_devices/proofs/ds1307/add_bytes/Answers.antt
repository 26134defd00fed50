use Rattle.std.proofs.Common.{◌∙◌, ◌<◌, ◌++◌, List, length, ap, arith}
use Rattle.la_base.specs.declared.wires.Packet.{Packet}
use Rattle.dev_ds1307.specs.Clock.{byte_outs}
use Rattle.reference_devices.proofs.Rounds.{along_round}
use Rattle.reference_devices.proofs.ds1307.add_bytes.Goals as goal

pub loop-place-preserved : goal.loop-place-preserved
loop-place-preserved c =
    let s = c.loop-place in
    let told = c.args.classes in
    let byte = c.index-bytes-place in
    let within : s.place < length c.args.bytes.now = omega arith in
    let gives = byte_outs told.note told.time told.piece c.args.from in
    along_round gives c.args.bytes.now s.place byte.result within byte.is c.args.outs.now.items s.outs.items c.add_byte.new.outs.items s.invariant
    (c.in_ok-add_byte.ensures ∙ ap (λ (l : List Packet). s.outs.items ++ gives l byte.result) c.split_at.ensures.front)
