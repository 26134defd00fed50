use Rattle.reference_decoders.proofs.I2cMaps.{bytes_short, bytes_full}
use Rattle.reference_decoders.proofs.i2c.bytes_of.Goals as goal

pub returns-then-rest-ne8 : goal.returns-then-rest-ne8
returns-then-rest-ne8 c = bytes_short c.in_ok-bytes.bytes.items c.args.clocks.now c.after_groups_of-rest.result.now c.in_ok-bytes.ensures c.after_groups_of-rest.ensures c.if-rest-ne8.true

pub returns : goal.returns
returns c =
    bytes_full c.in_ok-bytes.bytes.items c.args.clocks.now c.after_groups_of-rest.result.now c.in_ok-bytes.ensures c.after_groups_of-rest.ensures
    _ _ c.if-rest-ne8.false c.in_ok-from_slice.ensures.items c.in_ok-push.ensures.items
