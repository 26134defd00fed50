-- The walk over packets of a serial line is sound.
use Rattle.std.proofs.Common.{◌≡◌, ℕ, ◌^◌, ◌≤◌, Bool, true, false, if◌then◌else◌, List, [], ◌∷◌}
use Rattle.std.proofs.Common.{length, refl, arith}
use Rattle.std.specs.Prelude.{min, nat_lt}
use Rattle.std.proofs.Math.Nat.{le_refl}
use Rattle.la_base.specs.declared.wires.Out.{Out}
use Rattle.la_base.specs.declared.wires.Packet.{Packet}
use Rattle.la_base.specs.declared.wires.Wire.TheVariants.{Nothing as NoWire}
use Rattle.decoder_core.specs.Outputs.{span_note}
use Rattle.decoder_core.specs.Promises.{NotesFrom, PacketsOn, packet_starts}
use Rattle.list_cuts.specs.Bits.{bit_of}
use Rattle.sample_walks.specs.Walks.{Between}
use Rattle.packet_walks.specs.Walks.{SoundPackets}
use Rattle.dec_modbus.specs.declared.held.Held.{Held}
use Rattle.dec_modbus.specs.declared.held.Held.TheVariants.{Outside, Inside}
use Rattle.dec_modbus.specs.declared.held.Message.{Message}
use Rattle.dec_modbus.specs.Modbus.{is_frame, follows, byte_in, byte_outs, message_note}
use Rattle.dec_modbus.specs.laws.Machine.{wrong_in, begun, begin_next}
use Rattle.dec_modbus.specs.laws.Machine.{inside_gives, inside_next, gives, next, near_by}
use Rattle.dec_modbus.specs.laws.Machine.{modbus_walk}

-- a message starts no later than the last packet, and doesn't end before its start
abbrev pub modbus_fits : Held → ℕ → Type 0
modbus_fits Outside last = Unit {0}
modbus_fits (Inside message) last = (message.start ≤ last) × (message.start ≤ message.end)

fits_later : (h : Held) (last from : ℕ) → modbus_fits h last → last ≤ from → modbus_fits h from
fits_later Outside last from fit later = tt
fits_later (Inside message) last from fit later =
    let below = fit.0 in (omega (arith, below, later), fit.1)

-- notes alone, which start there or later
abbrev NotesAlone : ℕ → ℕ → List Out → Type 0
NotesAlone most low outs =
    (length outs ≤ most) × PacketsOn NoWire outs × NotesFrom low outs
    × ((high : ℕ) → low ≤ high → Between low high (packet_starts outs))

-- what a frame gives
alone_byte : (place low : ℕ) (p : Packet) → low ≤ p.start → NotesAlone 1 low (byte_outs place p)
alone_byte place low p below = by (is_frame p.kind)
  where
    first : low ≤ min p.start p.end
    first = omega (arith, below, p.in_order)

    by : (t : Bool) → NotesAlone 1 low
        (if t then span_note (min place 2) p.start p.end (byte_in p) 0 ∷ [] else [])
    by true = (omega arith, tt, (first, tt), λ high rise. rise)
    by false = (omega arith, tt, tt, λ high rise. rise)

-- and behind the note on a message
alone_note : (first last count low : ℕ) (errors wrong : Bool) (outs : List Out)
    → low ≤ min first last → NotesAlone 1 low outs
    → NotesAlone 2 low (message_note first last count errors wrong ∷ outs)
alone_note first last count low true wrong outs below alone =
    (omega (arith, alone.0), alone.1, (below, alone.2), alone.3)
alone_note first last count low false wrong outs below alone = short (nat_lt count 4)
  where
    long : (t : Bool) → NotesAlone 2 low
        ((if t then span_note 5 first last (min count (2 ^ 60)) 0
        else span_note 3 first last (min count (2 ^ 60)) (bit_of wrong)) ∷ outs)
    long true = (omega (arith, alone.0), alone.1, (below, alone.2), alone.3)
    long false = (omega (arith, alone.0), alone.1, (below, alone.2), alone.3)

    short : (t : Bool) → NotesAlone 2 low
        ((if t then span_note 4 first last (min count (2 ^ 60)) 0
        else if nat_lt 256 count then span_note 5 first last (min count (2 ^ 60)) 0
        else span_note 3 first last (min count (2 ^ 60)) (bit_of wrong)) ∷ outs)
    short true = (omega (arith, alone.0), alone.1, (below, alone.2), alone.3)
    short false = long (nat_lt 256 count)

alone_inside : (on : Bool) (message : Message) (low : ℕ) (p : Packet)
    → low ≤ min message.start message.end → low ≤ p.start
    → NotesAlone 2 low (inside_gives on message p)
alone_inside true message low p below after =
    let one = alone_byte message.count low p after in (omega (arith, one.0), one.1, one.2, one.3)
alone_inside false message low p below after =
    alone_note message.start message.end message.count low message.errors (wrong_in message)
    (byte_outs 0 p) below (alone_byte 0 low p after)

alone : (gap : ℕ) (h : Held) (last : ℕ) (p : Packet) → modbus_fits h last → last ≤ p.start
    → NotesAlone 2 (near_by h last) (gives gap h p)
alone gap Outside last p fit after =
    let one = alone_byte 0 last p after in (omega (arith, one.0), one.1, one.2, one.3)
alone gap (Inside message) last p fit after =
    alone_inside (follows gap message.end p) message message.start p (omega (arith, fit.1))
    (omega (arith, fit.0, after))

-- what a packet gives is little and has no packets, from any state
few_from : (gap : ℕ) (h : Held) (p : Packet)
    → (length (gives gap h p) ≤ 16) × PacketsOn NoWire (gives gap h p)
few_from gap Outside p =
    let one = alone_byte 0 0 p (omega arith) in (omega (arith, one.0), one.1)
few_from gap (Inside message) p =
    let all = alone_inside (follows gap message.end p) message 0 p (omega arith) (omega arith) in
    (omega (arith, all.0), all.1)

fits_begin : (p : Packet) → modbus_fits (begin_next p) p.start
fits_begin p = by (is_frame p.kind)
  where
    by : (t : Bool) → modbus_fits (if t then Inside (begun p) else Outside) p.start
    by true = (le_refl p.start, p.in_order)
    by false = tt

near_begin : (p : Packet) → near_by (begin_next p) p.start ≡ p.start
near_begin p = by (is_frame p.kind)
  where
    by : (t : Bool) → near_by (if t then Inside (begun p) else Outside) p.start ≡ p.start
    by true = refl
    by false = refl

fits_next : (gap : ℕ) (h : Held) (last : ℕ) (p : Packet) → modbus_fits h last → last ≤ p.start
    → modbus_fits (next gap h p) p.start
fits_next gap Outside last p fit after = fits_begin p
fits_next gap (Inside message) last p fit after = by (follows gap message.end p)
  where
    by : (t : Bool) → modbus_fits (inside_next t message p) p.start
    by true = (omega (arith, fit.0, after), omega (arith, fit.0, after, p.in_order))
    by false = fits_begin p

near_on : (gap : ℕ) (h : Held) (last : ℕ) (p : Packet) → modbus_fits h last → last ≤ p.start
    → near_by h last ≤ near_by (next gap h p) p.start
near_on gap Outside last p fit after = omega (arith, after, near_begin p)
near_on gap (Inside message) last p fit after = by (follows gap message.end p)
  where
    by : (t : Bool) → message.start ≤ near_by (inside_next t message p) p.start
    by true = le_refl message.start
    by false = omega (arith, fit.0, after, near_begin p)

pub modbus_sound : (gap : ℕ) → SoundPackets (modbus_walk gap) NoWire modbus_fits
modbus_sound gap = record {
  begin_fits = tt;
  next_fits = λ h last p fit after. fits_next gap h last p fit after;
  later_fits = fits_later;
  few = λ h p. (few_from gap h p).0;
  on_wire = λ h p. (few_from gap h p).1;
  notes = λ h last p fit after. (alone gap h last p fit after).2;
  packets = λ h last p fit after.
      (alone gap h last p fit after).3 (near_by (next gap h p) p.start)
      (near_on gap h last p fit after);
}
