use Rattle.std.proofs.Common.{◌∙◌}
use Rattle.dec_i2c.specs.Bus.{read_from}
use Rattle.reference_decoders.specs.I2cHappenings.{all_meant}
use Rattle.reference_decoders.proofs.I2cMaps.{group_told}
use Rattle.reference_decoders.proofs.i2c.add_group.Goals as goal

pub returns : goal.returns
returns c =
    group_told (read_from (all_meant c.args.earlier.now)) (all_meant c.args.before.now) c.args.byte.now c.bits_of-bits.result.now c.acks_of.result.now c.deref.result.now
    c.first_place-first.result c.last_place-last.result c.in_ok-value.value c.args.outs.now.items c.add_byte.new.outs.items c.add_acks.new.outs.items
    c.bits_of-bits.ensures c.acks_of.ensures (c.deref.ensures.value ∙ c.in_ok-values.ensures) c.first_place-first.ensures c.last_place-last.ensures c.in_ok-value.ensures
    c.in_ok-add_byte.ensures c.in_ok-add_acks.ensures
