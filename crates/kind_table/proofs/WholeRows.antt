-- The rows of the table.
use Rattle.std.proofs.Common.{refl, arith}
use Rattle.kind_table.specs.Kinds.{kind_row}
use Rattle.kind_table.specs.Whole.{IsWhole}
use Rattle.kind_table.specs.declared.kinds.Kind.{Kind}
use Rattle.kind_table.specs.declared.kinds.Kind.TheVariants.{I2c, Spi, Uart, OwLink, OwNet, Eeprom24, Ds1307, Lm75, Ds18b20, Flash25, Modbus, Midi}

pub kind_whole : (kind : Kind) → IsWhole (kind_row kind)
kind_whole I2c = record { few = omega arith; usual = refl; groups = refl }
kind_whole Spi = record { few = omega arith; usual = refl; groups = refl }
kind_whole Uart = record { few = omega arith; usual = refl; groups = refl }
kind_whole OwLink = record { few = omega arith; usual = refl; groups = refl }
kind_whole OwNet = record { few = omega arith; usual = refl; groups = refl }
kind_whole Eeprom24 = record { few = omega arith; usual = refl; groups = refl }
kind_whole Ds1307 = record { few = omega arith; usual = refl; groups = refl }
kind_whole Lm75 = record { few = omega arith; usual = refl; groups = refl }
kind_whole Ds18b20 = record { few = omega arith; usual = refl; groups = refl }
kind_whole Flash25 = record { few = omega arith; usual = refl; groups = refl }
kind_whole Modbus = record { few = omega arith; usual = refl; groups = refl }
kind_whole Midi = record { few = omega arith; usual = refl; groups = refl }
