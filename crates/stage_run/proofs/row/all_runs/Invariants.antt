use Rattle.std.proofs.Common.{◌≡◌, take, length, map}
use Rattle.la_base.specs.Runs.{samples_of}
use Rattle.decoder_core.specs.Inputs.{Sample}
use Rattle.stack_laws.specs.Feeds.{items_in}
use Rattle.stage_run.specs.Inputs.{feeds_in, told_behind}
use Rattle.stage_run.proofs.row.all_runs.Given as goal

abbrev pub invariant-loop-place : goal.invariant-loop-place
invariant-loop-place l =
    (length l.room ≡ 64) × (map Sample (samples_of (take l.place l.room)) ≡ items_in (feeds_in l.upper (take l.place l.half_runs)))
    × (l.upper ≡ told_behind l.upper (take l.place l.half_runs))
