-- That a machine is of a kind and has its options is one fact.
use Rattle.std.proofs.Props.{props}
use Rattle.decoder_set.specs.declared.setup.Setup.{Setup}
use Rattle.decoder_set.specs.declared.any_machine.AnyMachine.{AnyMachine}
use Rattle.decoder_set.specs.declared.any_machine.AnyMachine.TheVariants as machine
use Rattle.decoder_set.specs.Owning.{IsOwn}

pub own_prop : (setup : Setup) (held : AnyMachine) → IsProp (IsOwn setup held)
own_prop setup (machine.I2c x) = hlevel props
own_prop setup (machine.Spi x) = hlevel props
own_prop setup (machine.Uart x) = hlevel props
own_prop setup (machine.OwLink x) = hlevel props
own_prop setup (machine.OwNet x) = hlevel props
own_prop setup (machine.Eeprom24 x) = hlevel props
own_prop setup (machine.Ds1307 x) = hlevel props
own_prop setup (machine.Lm75 x) = hlevel props
own_prop setup (machine.Ds18b20 x) = hlevel props
own_prop setup (machine.Flash25 x) = hlevel props
own_prop setup (machine.Modbus x) = hlevel props
own_prop setup (machine.Midi x) = hlevel props
