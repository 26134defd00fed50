-- What holds of what a DS1307 gives.
use Rattle.std.proofs.Common.{◌≡◌, ℕ, ◌+◌, ◌-◌, ◌%◌, ◌≤◌, ◌==◌, ◌&&◌, Bool, true, false}
use Rattle.std.proofs.Common.{if◌then◌else◌, List, [], ◌∷◌, ◌++◌, length, drop, zero, suc, refl, ap}
use Rattle.std.proofs.Common.{arith}
use Rattle.std.specs.Prelude.{nat_le}
use Rattle.la_base.specs.declared.wires.Out.{Out}
use Rattle.la_base.specs.declared.wires.Packet.{Packet}
use Rattle.la_base.specs.declared.wires.Wire.TheVariants.{Nothing as NoWire, I2c as I2cWire}
use Rattle.decoder_core.specs.Outputs.{span_note}
use Rattle.decoder_core.specs.Promises.{PacketsOn}
use Rattle.decoder_core.specs.laws.OutLaws.{PacketsOn-append}
use Rattle.list_cuts.specs.Along.{along_from}
use Rattle.list_cuts.proofs.AlongLaws.{along_push}
use Rattle.i2c_phases.specs.Phases.{Nothing, Writes, Reads, Reset, byte_of}
use Rattle.i2c_phases.specs.Bytes.{byte_note, byte_piece}
use Rattle.i2c_phases.specs.Devices.{Each, FewFrom, GivesByByte, GivesNoPackets, StartsFrom, phased}
use Rattle.i2c_phases.specs.laws.ByteLaws.{spans_later, starts_later}
use Rattle.i2c_phases.specs.laws.DeviceLaws.{phased_promises}
use Rattle.packet_walks.specs.Outputs.{PacketOuts}
use Rattle.dev_ds1307.specs.declared.chip.Chip.{Chip}
use Rattle.dev_ds1307.specs.Clock.{byte_outs, clock_outs, last_bytes, number_of, register, start_of}
use Rattle.dev_ds1307.specs.Clock.{step}

module _ (floor : ℕ) where
  each_drop : (k : ℕ) (bytes : List Packet) → Each (StartsFrom floor) bytes
      → Each (StartsFrom floor) (drop k bytes)
  each_drop zero bytes all = all
  each_drop (suc k) [] all = all
  each_drop (suc k) (x ∷ bytes) all = each_drop k bytes all.1

  start_low : (bytes : List Packet) (p : Packet) → Each (StartsFrom floor) bytes → floor ≤ p.start
      → floor ≤ start_of (bytes ++ p ∷ [])
  start_low [] p all here = here
  start_low (x ∷ bytes) p all here = all.0

  -- a note, at most one time, and a piece
  byte_few : (note time piece from : ℕ) (bytes : List Packet) (p : Packet)
      → Each (StartsFrom floor) bytes → floor ≤ p.start
      → FewFrom floor (byte_outs note time piece from bytes p)
  byte_few note time piece from bytes p all here =
      by (((from + length bytes) % 64 == 6) && nat_le 6 (length bytes))
    where
      by : (t : Bool) → FewFrom floor (byte_note note p (byte_of p) ((from + length bytes) % 64)
          ∷ (if t then span_note time (start_of (last_bytes 6 bytes ++ p ∷ [])) p.end
          (number_of (last_bytes 6 bytes ++ p ∷ [])) 0 ∷ [] else []) ++ byte_piece piece p ∷ [])
      by true = (
        omega arith,
        (
          starts_later floor p here,
          (
            spans_later floor (start_of (last_bytes 6 bytes ++ p ∷ [])) p
                (start_low (last_bytes 6 bytes) p (each_drop (length bytes - 6) bytes all) here)
                here,
            tt,
          ),
        ),
      )
      by false = (omega arith, (starts_later floor p here, tt))

pub clock_by_byte : GivesByByte step
clock_by_byte floor before = record {
  none = (omega arith, tt);
  nothing = refl;
  reset = refl;
  no_write = refl;
  no_read = refl;
  write = elim [
    | [] ↦ λ byte all here. (
      byte_note 0 byte (byte_of byte % 64) 0
          ∷ [],
      refl,
      (omega arith, (starts_later floor byte here, tt)),
    )
    | f ∷ bytes ↦
        λ byte all here. (
          byte_outs 1 3 0 (byte_of f) bytes byte,
          ap
              (λ (l : List Out). byte_note 0 f (byte_of f % 64) 0 ∷ l)
              (along_push (byte_outs 1 3 0 (byte_of f)) bytes byte),
          byte_few floor 1 3 0
              (byte_of f) bytes byte all.1 here,
        )
  ];
  read = λ bytes byte all here. (
    byte_outs 2 4 1 (register before) bytes byte,
    along_push
        (byte_outs 2 4 1 (register before)) bytes byte,
    byte_few floor 2 4 1
        (register before) bytes byte all here,
  );
}

module _ (note time piece from : ℕ) where
  byte_on : (before : List Packet) (p : Packet)
      → PacketsOn NoWire (byte_outs note time piece from before p)
  byte_on before p = by (((from + length before) % 64 == 6) && nat_le 6 (length before))
    where
      by : (t : Bool) → PacketsOn NoWire (byte_note note p (byte_of p) ((from + length before) % 64)
          ∷ (if t then span_note time (start_of (last_bytes 6 before ++ p ∷ [])) p.end
          (number_of (last_bytes 6 before ++ p ∷ [])) 0 ∷ [] else [])
          ++ byte_piece piece p ∷ [])
      by true = tt
      by false = tt

  bytes_on : (before bytes : List Packet)
      → PacketsOn NoWire (along_from (byte_outs note time piece from) before bytes)
  bytes_on before [] = tt
  bytes_on before (x ∷ bytes) =
      PacketsOn-append NoWire (byte_outs note time piece from before x)
      (along_from (byte_outs note time piece from) (before ++ x ∷ []) bytes) (byte_on before x)
      (bytes_on (before ++ x ∷ []) bytes)

pub clock_no_packets : GivesNoPackets step
clock_no_packets before Nothing = tt
clock_no_packets before (Writes []) = tt
clock_no_packets before (Writes (f ∷ bytes)) = bytes_on 1 3 0 (byte_of f) [] bytes
clock_no_packets before (Reads bytes) = bytes_on 2 4 1 (register before) [] bytes
clock_no_packets before Reset = tt

module _ (chip : Chip) where
  -- what all packets give keeps the laws of every device
  pub clock_promises : PacketOuts I2cWire NoWire (clock_outs chip)
  unfolding clock_outs
  clock_promises = phased_promises step clock_no_packets 104 chip.resets clock_by_byte

  pub outs_are : (packets : List Packet)
      → phased 104 chip.resets step packets ≡ clock_outs chip packets
  unfolding clock_outs
  outs_are packets = refl
