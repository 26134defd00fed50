use Rattle.dec_midi.proofs.RealTimeLaws.{stands_alone}
use Rattle.dec_midi.proofs.laws.real_time_changes_no_other_note.Goals as goal

pub returns : goal.returns
returns c = stands_alone
