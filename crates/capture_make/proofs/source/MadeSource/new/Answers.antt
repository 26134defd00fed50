use Rattle.std.proofs.Common.{ℕ, Some, List, sym, ◌∙◌, ap}
use Rattle.std.specs.List.{flat_map}
use Rattle.capture_make.specs.declared.drawing.Sent.{Sent}
use Rattle.capture_make.specs.Made.{block, made}
use Rattle.capture_make.specs.Behind.{all_behind}
use Rattle.capture_make.proofs.Numbers.{number_zero, all_is}
use Rattle.capture_make.proofs.source.MadeSource.new.Goals as goal

pub returns-clause-left : goal.returns-clause-left
unfolding made
returns-clause-left c =
    let seed = c.args.seed in
    let count = c.args.count in
    ap (λ (l : List Sent). Some (flat_map block l)) (ap (λ (n : ℕ). all_behind n count) (sym (number_zero seed)) ∙ all_is seed 0 count)
