use Rattle.std.proofs.Common.{◌≡◌, ◌++◌, map, take}
use Rattle.dev_ds18b20.specs.Probe.{byte_piece}
use Rattle.reference_devices.proofs.ds18b20.add_pieces.Given as goal

abbrev pub invariant-loop-byte : goal.invariant-loop-byte
invariant-loop-byte l = l.outs.items ≡ l.initial.outs.items ++ map byte_piece (take l.byte-index l.bytes)
