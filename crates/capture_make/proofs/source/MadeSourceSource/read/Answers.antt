use Rattle.std.proofs.Common.{◌≤◌, ℕ, List, ◌++◌, length, subst, sym, ◌∙◌, ap, append_assoc}
use Rattle.std.specs.Prelude.{take}
use Rattle.capture_make.specs.Kept.{left_in}
use Rattle.capture_make.proofs.Giving.{pasted, pasted_length}
use Rattle.capture_make.proofs.source.MadeSourceSource.read.Goals as goal

pub loop-filled-preserved : goal.loop-filled-preserved
loop-filled-preserved c =
    let loop = c.loop-filled in
    let give = c.give-filled in
    let few : give.result ≤ length give.new.into = subst (λ (n : ℕ). give.result ≤ n) (sym give.auto.into) give.ensures.count in
    let front = take loop.filled loop.buf in (
      loop.invariant.0
          ∙ ap (λ (l : List ℕ). front ++ l) (sym c.is_ready.ensures.left ∙ give.ensures.given)
          ∙ sym (append_assoc front (take give.result give.new.into) (left_in give.new.self))
          ∙ ap (λ (l : List ℕ). l ++ left_in give.new.self) (sym (pasted loop.filled give.result loop.buf give.new.into _ loop.invariant.1 few)),
      pasted_length loop.filled give.result loop.buf give.new.into _ loop.invariant.1 few,
    )
