use Rattle.std.proofs.Common.{◌≡◌, ◌<◌, ◌^◌}
use Rattle.capture_make.specs.Made.{number_at}
use Rattle.capture_make.proofs.drawing.draw.Given as goal

abbrev pub invariant-loop : goal.invariant-loop
invariant-loop l = (l.number ≡ number_at l.fn.seed l.counter) × (l.number < 2 ^ 31)
