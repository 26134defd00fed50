use Rattle.std.proofs.Common.{◌≡◌, length}
use Rattle.std.specs.Prelude.{take}
use Rattle.capture_make.proofs.Blocks.{first_of}
use Rattle.capture_make.proofs.levels.put_block.Given as goal

abbrev pub invariant-loop-k : goal.invariant-loop-k
invariant-loop-k l = (take l.k l.into ≡ first_of l.fn.sent l.k) × (length l.into ≡ 120)
