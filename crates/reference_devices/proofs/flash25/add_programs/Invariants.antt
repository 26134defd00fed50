use Rattle.std.proofs.Common.{◌≡◌, ◌++◌, take}
use Rattle.dev_flash25.specs.Flash.{programs}
use Rattle.reference_devices.proofs.flash25.add_programs.Given as goal

abbrev pub invariant-loop-place : goal.invariant-loop-place
invariant-loop-place l = l.outs.items ≡ l.initial.outs.items ++ programs l.at (take l.place l.words)
