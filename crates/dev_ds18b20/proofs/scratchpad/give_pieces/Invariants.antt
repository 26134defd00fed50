use Rattle.std.proofs.Common.{◌≡◌, ◌++◌, map, take}
use Rattle.dev_ds18b20.specs.Probe.{byte_piece}
use Rattle.dev_ds18b20.proofs.scratchpad.give_pieces.Given as goal

abbrev pub invariant-loop-byte : goal.invariant-loop-byte
invariant-loop-byte l = l.into ≡ l.initial.into ++ map byte_piece (take l.byte-index l.bytes)
