use Rattle.std.proofs.Common.{◌≡◌, ◌+◌, length, take}
use Rattle.la_base.specs.Runs.{samples_of}
use Rattle.decode_job.proofs.up_to.fit.Given as goal

abbrev pub invariant-loop-place : goal.invariant-loop-place
invariant-loop-place l = length (samples_of (take l.place l.runs)) + l.left ≡ l.fn.most
