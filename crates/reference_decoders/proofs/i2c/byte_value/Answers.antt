use Rattle.std.proofs.Common.{◌∙◌, ap, map, arith}
use Rattle.dec_i2c.specs.Bus.{level_of}
use Rattle.reference_decoders.specs.I2cHappenings.{meant}
use Rattle.reference_decoders.proofs.I2cMaps.{byte_small}
use Rattle.reference_decoders.proofs.i2c.byte_value.Goals as goal

pub overflow_cast-result : goal.overflow_cast-result
overflow_cast-result c =
    let small = byte_small c.deref.result.now c.args.byte.now (c.deref.ensures.value ∙ c.in_ok-levels.ensures ∙ ap (λ l. map level_of (map meant l)) c.bits_of.ensures) in
    omega (arith, small, c.high_first.ensures)
