use Rattle.std.proofs.Common.{◌≡◌, ◌++◌, take}
use Rattle.dev_flash25.specs.Flash.{reads}
use Rattle.reference_devices.proofs.flash25.add_reads.Given as goal

abbrev pub invariant-loop-place : goal.invariant-loop-place
invariant-loop-place l = l.outs.items ≡ l.initial.outs.items ++ reads l.at (take l.place l.words)
