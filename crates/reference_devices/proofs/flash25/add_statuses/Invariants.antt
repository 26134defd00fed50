use Rattle.std.proofs.Common.{◌≡◌, ◌++◌, take}
use Rattle.std.specs.List.{flat_map}
use Rattle.dev_flash25.specs.Flash.{status_outs}
use Rattle.reference_devices.proofs.flash25.add_statuses.Given as goal

abbrev pub invariant-loop-word : goal.invariant-loop-word
invariant-loop-word l = l.outs.items ≡ l.initial.outs.items ++ flat_map status_outs (take l.word-index l.words)
