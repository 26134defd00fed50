use Rattle.std.proofs.Common.{◌≡◌, ◌++◌, map, take}
use Rattle.reference_decoders.specs.I2cHappenings.{meant}
use Rattle.std.specs.List.{flat_map}
use Rattle.dec_i2c.specs.Bus.{ack_outs, place_of, level_of}
use Rattle.reference_decoders.proofs.i2c.add_acks.Given as goal

abbrev pub invariant-loop-ack : goal.invariant-loop-ack
invariant-loop-ack l = l.outs.items ≡ l.initial.outs.items ++ flat_map (λ clock. ack_outs (place_of clock) (level_of clock)) (map meant (take l.ack-index l.acks))
