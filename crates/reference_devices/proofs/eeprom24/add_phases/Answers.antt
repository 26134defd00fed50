use Rattle.std.proofs.Common.{◌∙◌, ◌<◌, ◌++◌, ℕ, List, length, map, ap, arith}
use Rattle.dev_eeprom24.specs.Eeprom.{phase_outs, pointer, step}
use Rattle.reference_devices.specs.declared.phases.Meaning.{Meaning}
use Rattle.reference_devices.specs.Meant.{meant}
use Rattle.reference_devices.proofs.Rounds.{phases_round}
use Rattle.reference_devices.proofs.eeprom24.add_phases.Goals as goal

pub loop-place-preserved : goal.loop-place-preserved
loop-place-preserved c =
    let s = c.loop-place in
    let phase = c.index-meanings-place in
    let within : s.place < length c.args.meanings.now = omega arith in
    let from = c.pointer.ensures ∙ ap (λ (l : List Meaning). pointer c.args.chip (map meant l)) c.split_at.ensures.front in
    phases_round (step c.args.chip) c.args.meanings.now s.place phase.result within phase.is c.args.outs.now.items s.outs.items c.add_phase.new.outs.items s.invariant
    (c.in_ok-add_phase.ensures ∙ ap (λ (n : ℕ). s.outs.items ++ phase_outs c.args.chip n (meant phase.result)) from)
