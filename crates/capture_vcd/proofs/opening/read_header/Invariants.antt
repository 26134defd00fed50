use Rattle.std.proofs.Common.{◌≡◌, ℕ, List, ◌++◌, false}
use Rattle.std.specs.Io.KnownBytes.{Consumes}
use Rattle.byte_feed.specs.Reader.{is_spent, left_of}
use Rattle.capture_vcd.specs.Opening.{Started}
use Rattle.capture_vcd.proofs.opening.read_header.Given as goal

abbrev pub invariant-head : goal.invariant-head
invariant-head g l = record {
  fresh : is_spent l.tokens ≡ false;
  faults : g.S.Source.faults l.source ≡ g.S.Source.faults l.fn.source;
  took : (bytes : List ℕ) × Consumes (g.S.Source.left l.fn.source) (g.S.Source.left l.source) bytes × ((before : List ℕ) → Started l.fn.tokens l.fn.header (g.S.Source.left l.fn.source) before → Started l.tokens l.header (g.S.Source.left l.source) (before ++ bytes));
}

abbrev pub decreases-head : goal.decreases-head
decreases-head g l = left_of l.tokens
