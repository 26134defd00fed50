-- What a wire carries of an input, and what holds of two decoders of one setup.
use Rattle.std.specs.Prelude.{◌≡◌, Bool, List}
use Rattle.std.specs.List.{filter}
use Rattle.la_base.specs.Kinds.{same_wire, wire_of}
use Rattle.la_base.specs.declared.wires.Wire.{Wire}
use Rattle.la_base.specs.declared.wires.Wire.TheVariants.{Logic}
use Rattle.decoder_core.specs.Inputs.{Item, Sample, Pack}
use Rattle.decoder_core.specs.Driving.{SameState}
use Rattle.decoder_core.specs.declared.driver.Driver.{Driver}
use Rattle.decoder_core.specs.declared.follower.Follower.{Follower}
use Rattle.decoder_set.specs.declared.any_machine.AnyMachine.{AnyMachine}
use Rattle.decoder_set.specs.declared.any.AnyDecoder.{AnyDecoder}
use Rattle.decoder_set.specs.Opening.{setup_of}
use Rattle.decoder_set.specs.Views.{Inner, inner, kind_in, parts_of}
use Rattle.kind_table.specs.declared.kinds.Kind.{Kind}
use Rattle.kind_table.specs.declared.kinds.Kind.TheVariants as kind

-- a wire carries samples, or the packets of its own
abbrev pub carries : Wire → Item → Bool
carries wire (Sample value) = same_wire Logic wire
carries wire (Pack packet) = same_wire (wire_of packet.kind) wire

-- what a wire carries of an input
abbrev pub carried : Wire → List Item → List Item
carried wire input = filter (carries wire) input

-- two drivers, and two followers, hold the same
abbrev pub SameDriver : {L S : Type 0} → Driver L S → Driver L S → Type 0
SameDriver one other = SameState one.machine other.machine one.waiter other.waiter

abbrev pub SameFollower : {D S : Type 0} → Follower D S → Follower D S → Type 0
SameFollower one other = (one.machine ≡ other.machine) × (one.from ≡ other.from)

-- machines of a kind hold the same
abbrev pub SameInner : (kind : Kind) → Inner kind → Inner kind → Type 0
SameInner kind.I2c one other = SameDriver one other
SameInner kind.Spi one other = SameDriver one other
SameInner kind.Uart one other = SameDriver one other
SameInner kind.OwLink one other = SameDriver one other
SameInner kind.OwNet one other = SameFollower one other
SameInner kind.Eeprom24 one other = SameFollower one other
SameInner kind.Ds1307 one other = SameFollower one other
SameInner kind.Lm75 one other = SameFollower one other
SameInner kind.Ds18b20 one other = SameFollower one other
SameInner kind.Flash25 one other = SameFollower one other
SameInner kind.Modbus one other = SameFollower one other
SameInner kind.Midi one other = SameFollower one other

-- a machine is that of a kind, and holds the same
abbrev pub SameMachine : AnyMachine → AnyMachine → Type 0
SameMachine one other =
    (held : Inner (kind_in one)) × (parts_of other ≡ (kind_in one, held))
    × SameInner (kind_in one) (inner one) held

-- two decoders hold the same
pub record SameDecoder (one other : AnyDecoder) : Type 0 where
  pub setup : setup_of one ≡ setup_of other
  pub machine : SameMachine one.machine other.machine
