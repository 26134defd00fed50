use Rattle.std.proofs.Common.{ℕ, ◌∙◌, ap, [], ◌∷◌, ◌++◌}
use Rattle.i2c_phases.specs.Bytes.{byte_note}
use Rattle.dev_eeprom24.specs.laws.KnowingLaws.{read_known}
use Rattle.dev_eeprom24.proofs.device.EepromI2cDevice.read.Goals as goal

pub returns-clause-takes : goal.returns-clause-takes
returns-clause-takes c =
    let held = c.args.self.now.held in
    let byte = c.args.byte in
    let note = c.byte_note.ensures ∙ ap (λ (n : ℕ). byte_note 2 byte n held.pointer) c.byte_of.ensures in
    let first = c.push.ensures ∙ (λ i. c.requires.empty i ++ note i ∷ []) in
    let gives = c.push-2.ensures ∙ (λ i. first i ++ c.byte_piece.ensures i ∷ []) in
    λ before bytes knows. read_known c.args.self.now.chip held _ before bytes byte c.push-2.new.self knows (λ i. record { pointer = c.modulo.ensures i; word = held.word }) gives
