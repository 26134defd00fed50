use Rattle.std.proofs.Common.{◌≡◌, ◌++◌, ℕ, List, false}
use Rattle.std.specs.Io.KnownBytes.{Consumes}
use Rattle.byte_feed.specs.LineReader.{is_spent, left_of}
use Rattle.capture_csv.specs.Opening.{Blank}
use Rattle.capture_csv.proofs.opening.first_line.Given as goal

abbrev pub invariant-head : goal.invariant-head
invariant-head g l = record {
  fresh : is_spent l.lines ≡ false;
  faults : g.S.Source.faults l.source ≡ g.S.Source.faults l.fn.source;
  took : (bytes : List ℕ) × Consumes (g.S.Source.left l.fn.source) (g.S.Source.left l.source) bytes × ((before : List ℕ) → Blank l.fn.lines (g.S.Source.left l.fn.source) before → Blank l.lines (g.S.Source.left l.source) (before ++ bytes));
}

abbrev pub decreases-head : goal.decreases-head
decreases-head g l = left_of l.lines
