use Rattle.std.proofs.Common.{refl}
use Rattle.dec_midi.specs.Midi.{midi_near, midi_outs}
use Rattle.dec_midi.proofs.rows.rows_hold.Goals as goal

pub returns-clause-chord : goal.returns-clause-chord
unfolding midi_outs
returns-clause-chord c = refl

pub returns-clause-exclusive : goal.returns-clause-exclusive
unfolding midi_outs
returns-clause-exclusive c = refl

pub returns-clause-running : goal.returns-clause-running
unfolding midi_outs
returns-clause-running c = refl

pub returns-clause-cut : goal.returns-clause-cut
unfolding midi_outs
returns-clause-cut c = refl

pub returns-clause-strays : goal.returns-clause-strays
unfolding midi_outs
returns-clause-strays c = refl

pub returns-clause-others : goal.returns-clause-others
unfolding midi_outs
returns-clause-others c = refl

pub returns-clause-passed : goal.returns-clause-passed
unfolding midi_outs
returns-clause-passed c = refl

pub returns-clause-open : goal.returns-clause-open
unfolding midi_outs midi_near
returns-clause-open c = (refl, refl)

pub returns-clause-nine : goal.returns-clause-nine
unfolding midi_outs
returns-clause-nine c = refl
