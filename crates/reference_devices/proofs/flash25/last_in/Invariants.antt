use Rattle.std.proofs.Common.{◌≡◌, take}
use Rattle.dev_flash25.specs.Flash.{last_in}
use Rattle.reference_devices.proofs.flash25.last_in.Given as goal

abbrev pub invariant-loop-word : goal.invariant-loop-word
invariant-loop-word l = l.last ≡ last_in l.fn.command (take l.word-index l.words)
