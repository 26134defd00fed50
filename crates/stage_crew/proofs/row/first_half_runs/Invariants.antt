use Rattle.std.proofs.Common.{◌≡◌, take, length, map}
use Rattle.std.specs.List.{All}
use Rattle.stage_run.specs.Inputs.{half_run_of, upper_of}
use Rattle.stage_crew.proofs.row.first_half_runs.Given as goal

abbrev pub invariant-loop-place : goal.invariant-loop-place
invariant-loop-place l =
    (length l.room ≡ 128) × (take l.place l.room ≡ map half_run_of (take l.place l.runs)) × All (λ run. upper_of run ≡ l.upper) (take l.place l.runs)
