use Rattle.std.proofs.Common.{◌≡◌, ◌-◌, List, ℕ, length}
use Rattle.la_io.specs.Intake.{Takes}
use Rattle.capture_raw.proofs.fill.read_on.Given as goal

abbrev pub invariant-loop-held : goal.invariant-loop-held
invariant-loop-held g l = record {
  took : (bytes : List ℕ) × Takes l.initial.held l.held (g.S.Source.left l.initial.source) (g.S.Source.left l.source) bytes;
  faults : g.S.Source.faults l.source ≡ g.S.Source.faults l.initial.source;
}

abbrev pub decreases-loop-held : goal.decreases-loop-held
decreases-loop-held g l = l.unit - length l.held.bytes
