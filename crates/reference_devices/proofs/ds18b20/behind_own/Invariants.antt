use Rattle.std.proofs.Common.{◌≡◌, drop}
use Rattle.dev_ds18b20.specs.Probe.{behind_own}
use Rattle.reference_devices.proofs.ds18b20.behind_own.Given as goal

abbrev pub invariant-loop-place : goal.invariant-loop-place
invariant-loop-place l = behind_own (drop l.place l.packets) ≡ behind_own l.packets
