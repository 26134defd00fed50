-- Each packet that an event gives is of the wire of I2C.
use Rattle.std.proofs.Common.{ℕ, Bool, true, false, [], Option, Some, None, refl, if◌then◌else◌}
use Rattle.std.proofs.Common.{◌==◌}
use Rattle.std.specs.Prelude.{is_some}
use Rattle.la_base.specs.declared.wires.Wire.TheVariants.{I2c}
use Rattle.decoder_core.specs.Promises.{PacketsOn}
use Rattle.dec_i2c.specs.declared.held.Role.{Role}
use Rattle.dec_i2c.specs.declared.held.Role.TheVariants.{First, Lower, Command, Write, Read}
use Rattle.dec_i2c.specs.declared.held.Segment.{Segment}
use Rattle.dec_i2c.specs.Bytes.{read_by, first_outs, byte_outs}
use Rattle.dec_i2c.specs.Bus.{Event, Start, Stop, Clock, start_outs, ack_outs}
use Rattle.dec_i2c.specs.laws.Machine.{grown, clock_gives, gives}

start_on : (again : Bool) (k : ℕ) → PacketsOn I2c (start_outs again k)
start_on false k = (refl, tt)
start_on true k = (refl, tt)

ack_on : (k : ℕ) (level : Bool) → PacketsOn I2c (ack_outs k level)
ack_on k false = (refl, tt)
ack_on k true = (refl, tt)

first_on : (own : Option ℕ) (first last byte : ℕ) → PacketsOn I2c (first_outs own first last byte)
first_on None first last byte = (refl, tt)
first_on (Some address) first last byte = (refl, tt)

byte_on : (known : ℕ → Option ℕ) (role : Role) (first last byte : ℕ)
    → PacketsOn I2c (byte_outs known role first last byte)
byte_on known First first last byte = first_on (known byte) first last byte
byte_on known (Lower two) first last byte = (refl, tt)
byte_on known Command first last byte = (refl, tt)
byte_on known Write first last byte = (refl, tt)
byte_on known Read first last byte = (refl, tt)

clock_on : (s : Segment) (k : ℕ) (level : Bool) → PacketsOn I2c (clock_gives s k level)
clock_on s k level = by (s.bits == 7) (s.bits == 8)
  where
    by : (seven eight : Bool) → PacketsOn I2c
        (if seven then byte_outs (λ own. read_by own s.ten) s.role s.first k (grown s.byte level)
        else (if eight then ack_outs k level else []))
    by true eight = byte_on (λ own. read_by own s.ten) s.role s.first k (grown s.byte level)
    by false true = ack_on k level
    by false false = tt

pub gives_on : (h : Option Segment) (e : Event) → PacketsOn I2c (gives h e)
gives_on h (Start k) = start_on (is_some h) k
gives_on h (Stop k) = (refl, tt)
gives_on None (Clock k level) = tt
gives_on (Some s) (Clock k level) = clock_on s k level
