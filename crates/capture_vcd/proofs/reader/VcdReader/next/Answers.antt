use Rattle.std.proofs.Common.{subst, ℕ, List}
use Rattle.std.proofs.lemmas.List.{append-nil}
use Rattle.la_io.proofs.Calls.{reads_from, reads_none}
use Rattle.capture_vcd.specs.Reader.{VcdStands}
use Rattle.capture_vcd.proofs.reader.VcdReader.next.Goals as goal

pub returns-in-Some-clause-next : goal.returns-in-Some-clause-next
returns-in-Some-clause-next g c = reads_none _ _ _ c.in-Some.ensures.given

pub returns-in-None-clause-next : goal.returns-in-None-clause-next
returns-in-None-clause-next g c =
    let mid = c.held_run.new.self in
    reads_from _ _ _ _ _ (λ before early given st. subst (λ (l : List ℕ). VcdStands mid before early l) (append-nil given) (c.in-None.ensures.given before early given st)) c.read_on.ensures.next
