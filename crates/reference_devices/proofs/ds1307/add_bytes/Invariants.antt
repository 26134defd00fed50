use Rattle.std.proofs.Common.{◌≡◌, ◌++◌, take}
use Rattle.list_cuts.specs.Along.{along}
use Rattle.dev_ds1307.specs.Clock.{byte_outs}
use Rattle.reference_devices.proofs.ds1307.add_bytes.Given as goal

abbrev pub invariant-loop-place : goal.invariant-loop-place
invariant-loop-place l = l.outs.items ≡ l.initial.outs.items ++ along (byte_outs l.classes.note l.classes.time l.classes.piece l.from) (take l.place l.bytes)
