-- What holds of what an LM75 gives.
use Rattle.std.proofs.Common.{◌≡◌, ℕ, ◌+◌, ◌≤◌, ◌%◌, ◌==◌, Bool, true, false, if◌then◌else◌, List}
use Rattle.std.proofs.Common.{[], ◌∷◌, refl, ap, arith}
use Rattle.la_base.specs.declared.wires.Out.{Out}
use Rattle.la_base.specs.declared.wires.Packet.{Packet}
use Rattle.la_base.specs.declared.wires.Wire.TheVariants.{Nothing as NoWire, I2c as I2cWire}
use Rattle.decoder_core.specs.Promises.{PacketsOn}
use Rattle.i2c_phases.specs.Phases.{Nothing, Writes, Reads, Reset, byte_of}
use Rattle.i2c_phases.specs.Bytes.{byte_note}
use Rattle.i2c_phases.specs.Devices.{Each, FewFrom, GivesByByte, GivesNoPackets, StartsFrom, phased}
use Rattle.i2c_phases.specs.laws.ByteLaws.{spans_later, starts_later}
use Rattle.i2c_phases.specs.laws.DeviceLaws.{phased_promises}
use Rattle.packet_walks.specs.Outputs.{PacketOuts}
use Rattle.dev_lm75.specs.declared.chip.Chip.{Chip}
use Rattle.dev_lm75.specs.declared.held.Part.{Part}
use Rattle.dev_lm75.specs.declared.held.Part.TheVariants.{Fresh, Even, Half}
use Rattle.dev_lm75.specs.Thermometer.{lm75_outs, pairs, pointer, read_outs, singles, step}
use Rattle.dev_lm75.specs.Thermometer.{write_outs}
use Rattle.dev_lm75.specs.laws.Held.{byte_gives, get_gives, left_of, pair_gives, set_gives}
use Rattle.dev_lm75.specs.laws.ByteLaws.{none_read, none_written, read_more, write_more}

module _ (floor : ℕ) where
  -- the first byte of a pair starts there or later
  abbrev Low : Part → Type 0
  Low Fresh = Unit {0}
  Low Even = Unit {0}
  Low (Half high first) = floor ≤ first

  left_low : (none : Part) → Low none → (bytes : List Packet) → Each (StartsFrom floor) bytes
      → Low (left_of none bytes)
  left_low none low [] all = low
  left_low none low (x ∷ []) all = all.0
  left_low none low (x ∷ y ∷ bytes) all = left_low none low bytes all.1.1

  pair_few : (class : ℕ) (part : Part) (p : Packet) → Low part → floor ≤ p.start
      → FewFrom floor (pair_gives class part p)
  pair_few class Fresh p low here = (omega arith, tt)
  pair_few class Even p low here = (omega arith, tt)
  pair_few class (Half high first) p low here =
      (omega arith, (spans_later floor first p low here, tt))

  byte_few : (class : ℕ) (p : Packet) → floor ≤ p.start → FewFrom floor (byte_gives class p)
  byte_few class p here = (omega arith, (starts_later floor p here, tt))

  set_few : (at : ℕ) (part : Part) (p : Packet) → Low part → floor ≤ p.start
      → FewFrom floor (set_gives at part p)
  set_few at part p low here = by (at == 1) (at == 2) (at == 3)
    where
      by : (t u v : Bool) → FewFrom floor
          (if t then byte_gives 1 p
          else (if u then pair_gives 4 part p else (if v then pair_gives 6 part p else [])))
      by true u v = byte_few 1 p here
      by false true v = pair_few 4 part p low here
      by false false true = pair_few 6 part p low here
      by false false false = (omega arith, tt)

  get_few : (at : ℕ) (part : Part) (p : Packet) → Low part → floor ≤ p.start
      → FewFrom floor (get_gives at part p)
  get_few at part p low here = by (at == 1) (at == 2) (at == 3)
    where
      by : (t u v : Bool) → FewFrom floor
          (if t then byte_gives 2 p
          else (if u then pair_gives 5 part p
          else (if v then pair_gives 7 part p else pair_gives 3 part p)))
      by true u v = byte_few 2 p here
      by false true v = pair_few 5 part p low here
      by false false true = pair_few 7 part p low here
      by false false false = pair_few 3 part p low here

pub lm75_by_byte : GivesByByte step
lm75_by_byte floor before = record {
  none = (omega arith, tt);
  nothing = refl;
  reset = refl;
  no_write = refl;
  no_read = none_read (pointer before);
  write = elim [
    | [] ↦ λ byte all here. (
      byte_note 0 byte (byte_of byte % 4) 0
          ∷ [],
      ap (λ (l : List Out). byte_note 0 byte (byte_of byte % 4) 0 ∷ l)
          (none_written (byte_of byte % 4)),
      (omega arith, (starts_later floor byte here, tt)),
    )
    | f ∷ bytes ↦
        λ byte all here. (
          set_gives (byte_of f % 4) (left_of Even bytes) byte,
          ap
              (λ (l : List Out). byte_note 0 f (byte_of f % 4) 0 ∷ l)
              (write_more (byte_of f % 4) bytes byte),
          set_few floor (byte_of f % 4)
              (left_of Even bytes) byte (left_low floor Even tt bytes all.1) here,
        )
  ];
  read = λ bytes byte all here. (
    get_gives (pointer before) (left_of Fresh bytes) byte,
    read_more
        (pointer before) bytes byte,
    get_few floor (pointer before) (left_of Fresh bytes) byte
        (left_low floor Fresh tt bytes all) here,
  );
}

singles_on : (class : ℕ) (bytes : List Packet) → PacketsOn NoWire (singles class bytes)
singles_on class [] = tt
singles_on class (x ∷ bytes) = singles_on class bytes

pairs_on : (class : ℕ) (bytes : List Packet) → PacketsOn NoWire (pairs class bytes)
pairs_on class [] = tt
pairs_on class (x ∷ []) = tt
pairs_on class (x ∷ y ∷ bytes) = pairs_on class bytes

read_on : (at : ℕ) (bytes : List Packet) → PacketsOn NoWire (read_outs at bytes)
read_on at bytes = by (at == 1) (at == 2) (at == 3)
  where
    by : (t u v : Bool) → PacketsOn NoWire
        (if t then singles 2 bytes
        else (if u then pairs 5 bytes else (if v then pairs 7 bytes else pairs 3 bytes)))
    by true u v = singles_on 2 bytes
    by false true v = pairs_on 5 bytes
    by false false true = pairs_on 7 bytes
    by false false false = pairs_on 3 bytes

write_on : (at : ℕ) (bytes : List Packet) → PacketsOn NoWire (write_outs at bytes)
write_on at bytes = by (at == 1) (at == 2) (at == 3)
  where
    by : (t u v : Bool) → PacketsOn NoWire
        (if t then singles 1 bytes
        else (if u then pairs 4 bytes else (if v then pairs 6 bytes else [])))
    by true u v = singles_on 1 bytes
    by false true v = pairs_on 4 bytes
    by false false true = pairs_on 6 bytes
    by false false false = tt

pub lm75_no_packets : GivesNoPackets step
lm75_no_packets before Nothing = tt
lm75_no_packets before (Writes []) = tt
lm75_no_packets before (Writes (f ∷ bytes)) = write_on (byte_of f % 4) bytes
lm75_no_packets before (Reads bytes) = read_on (pointer before) bytes
lm75_no_packets before Reset = tt

module _ (chip : Chip) where
  -- what all packets give keeps the laws of every device
  pub lm75_promises : PacketOuts I2cWire NoWire (lm75_outs chip)
  unfolding lm75_outs
  lm75_promises = phased_promises step lm75_no_packets (72 + chip.addr) chip.resets lm75_by_byte

  pub outs_are : (packets : List Packet)
      → phased (72 + chip.addr) chip.resets step packets ≡ lm75_outs chip packets
  unfolding lm75_outs
  outs_are packets = refl
