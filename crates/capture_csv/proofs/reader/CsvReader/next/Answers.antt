use Rattle.std.proofs.Common.{sym, subst, ℕ, List}
use Rattle.la_io.specs.Capture.{Ends, Clean, Faulty}
use Rattle.la_io.proofs.Calls.{reads_from, reads_none}
use Rattle.capture_csv.specs.Reader.{StandsAs, csv_by, csv_pins}
use Rattle.capture_csv.specs.declared.phase.Phase.{Phase}
use Rattle.capture_csv.proofs.Answering.{is_going}
use Rattle.capture_csv.proofs.reader.CsvReader.next.Goals as goal

pub returns-in-Running-clause-next : goal.returns-in-Running-clause-next
returns-in-Running-clause-next g c =
    let s = c.args.self.now in
    reads_from _ _ _ _ _ (λ before early given st. is_going s before early given c.in-Running.is st) c.run_on.ensures.next

pub returns-in-Ended-clause-next : goal.returns-in-Ended-clause-next
returns-in-Ended-clause-next g c =
    let s = c.args.self.now in
    reads_none _ _ _ (λ before early given st. let done = subst (λ (p : Phase). StandsAs p s before early given) c.in-Ended.is st in (done.told_end, done.ends))

pub returns-in-Empty-clause-next : goal.returns-in-Empty-clause-next
returns-in-Empty-clause-next g c =
    let s = c.args.self.now in
    reads_none _ _ _ (λ before early given st.
    let none = subst (λ (p : Phase). StandsAs p s before early given) c.in-Empty.is st in
    (none.told_end, subst (λ (l : List ℕ). Ends (csv_by s before early) l Clean) (sym none.none) (none.ends (csv_pins s))))

pub returns-in-Refused-clause-next : goal.returns-in-Refused-clause-next
returns-in-Refused-clause-next g c =
    let s = c.args.self.now in
    reads_none _ _ _ (λ before early given st.
    let stopped = subst (λ (p : Phase). StandsAs p s before early given) c.in-Refused.is st in
    subst (λ (l : List ℕ). Ends (csv_by s before early) l (Faulty c.in-Refused.fault)) (sym stopped.none) (stopped.ends (csv_pins s)))
