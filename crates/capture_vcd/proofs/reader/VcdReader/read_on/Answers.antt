use Rattle.std.proofs.Common.{ap, subst}
use Rattle.la_io.proofs.Calls.{reads_from, reads_none}
use Rattle.capture_vcd.specs.Reader.{StandsAs}
use Rattle.capture_vcd.specs.Stepping.{is_going}
use Rattle.capture_vcd.specs.declared.reader.Phase.{Phase}
use Rattle.capture_vcd.proofs.Stepping.{going_as}
use Rattle.capture_vcd.proofs.reader.VcdReader.read_on.Goals as goal

pub returns-in-Fresh-clause-next : goal.returns-in-Fresh-clause-next
returns-in-Fresh-clause-next g c =
    let s = c.args.self.now in
    reads_from _ _ _ _ _ (λ before early given st. going_as s.phase s before early given (ap is_going c.in-Fresh.is) st) c.run_on.ensures.next

pub returns-in-Running-clause-next : goal.returns-in-Running-clause-next
returns-in-Running-clause-next g c =
    let s = c.args.self.now in
    reads_from _ _ _ _ _ (λ before early given st. going_as s.phase s before early given (ap is_going c.in-Running.is) st) c.run_on-in-Running.ensures.next

pub returns-in-Ended-clause-next : goal.returns-in-Ended-clause-next
returns-in-Ended-clause-next g c =
    let s = c.args.self.now in
    reads_none _ _ _ (λ before early given st. let done = subst (λ (p : Phase). StandsAs p s before early given) c.in-Ended.is st in (done.told_end, done.ends))

pub returns-in-Refused-clause-next : goal.returns-in-Refused-clause-next
returns-in-Refused-clause-next g c =
    let s = c.args.self.now in
    reads_none _ _ _ (λ before early given st. (subst (λ (p : Phase). StandsAs p s before early given) c.in-Refused.is st).ends)
