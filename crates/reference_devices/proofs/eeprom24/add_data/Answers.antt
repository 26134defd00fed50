use Rattle.std.proofs.Common.{◌∙◌, ◌<◌, [], ◌∷◌, ◌++◌, List, length, ap, arith}
use Rattle.la_base.specs.declared.wires.Out.{Out}
use Rattle.i2c_phases.specs.Bytes.{byte_note}
use Rattle.dev_eeprom24.specs.Eeprom.{write_outs}
use Rattle.reference_devices.proofs.Rounds.{bytes_round}
use Rattle.reference_devices.proofs.eeprom24.add_data.Goals as goal

pub loop-place-preserved : goal.loop-place-preserved
loop-place-preserved c =
    let s = c.loop-place in
    let byte = c.index-data-place in
    let within : s.place < length c.args.data.now = omega arith in
    let note = c.byte_note.ensures ∙ (λ i. byte_note 1 byte.result (c.byte_of.ensures i) (c.in_page-address.ensures i)) in
    bytes_round (write_outs c.args.chip c.args.word) c.args.data.now s.place byte.result within byte.is c.args.outs.now.items s.outs.items c.push-in-loop-place.new.self.items c.byte_note.result c.byte_piece.result
    s.invariant (c.in_ok-push-2.ensures.items ∙ ap (λ (l : List Out). l ++ c.byte_piece.result ∷ []) c.in_ok-push.ensures.items) (λ i. note i ∷ c.byte_piece.ensures i ∷ [])
