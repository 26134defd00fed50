use Rattle.std.proofs.Common.{◌∙◌, subst, ℕ, List, ◌++◌, append_assoc, Ok, Err, true}
use Rattle.std.proofs.KnownBytes.{Consumes-trans}
use Rattle.capture_vcd.specs.Opening.{HeadSays, Started}
use Rattle.capture_vcd.proofs.opening.read_header.Goals as goal

pub returns-in-Ok-true-clause-reads : goal.returns-in-Ok-true-clause-reads
returns-in-Ok-true-clause-reads g c =
    let inv = c.head.invariant.took in
    let reads = rw c.in-Ok-true.field-0-test at c.in-Ok-true.ensures.reads in
    record {
      bytes = inv.0 ++ reads.bytes;
      consumed = Consumes-trans _ _ _ _ _ inv.1 reads.consumed;
      says = λ before st. subst (λ (b : List ℕ). HeadSays c.head_token.new.tokens c.head_token.new.header (g.S.Source.left c.head_token.new.source) b (Ok true)) (append_assoc before inv.0 reads.bytes) (reads.says (before ++ inv.0) (inv.2 before st));
    }

pub head-preserved : goal.head-preserved
head-preserved g c =
    let inv = c.head.invariant.took in
    let reads = rw c.in-Ok-false.field-0-test at c.in-Ok-false.ensures.reads in
    record {
      fresh = c.in-Ok-false.ensures.on.0;
      faults = c.in-Ok-false.ensures.cause ∙ c.head.invariant.faults;
      took = (
        inv.0 ++ reads.bytes,
        Consumes-trans _ _ _ _ _ inv.1 reads.consumed,
        λ before st. subst (λ (b : List ℕ). Started c.head_token.new.tokens c.head_token.new.header (g.S.Source.left c.head_token.new.source) b) (append_assoc before inv.0 reads.bytes) (reads.says (before ++ inv.0) (inv.2 before st)),
      );
    }

pub returns-in-Err-clause-reads : goal.returns-in-Err-clause-reads
returns-in-Err-clause-reads g c =
    let inv = c.head.invariant.took in
    let reads = c.in-Err.ensures.reads in
    record {
      bytes = inv.0 ++ reads.bytes;
      consumed = Consumes-trans _ _ _ _ _ inv.1 reads.consumed;
      says = λ before st. subst (λ (b : List ℕ). HeadSays c.head_token.new.tokens c.head_token.new.header (g.S.Source.left c.head_token.new.source) b (Err c.in-Err.error)) (append_assoc before inv.0 reads.bytes) (reads.says (before ++ inv.0) (inv.2 before st));
    }
