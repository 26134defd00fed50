-- The walk over packets of a serial line is sound.
use Rattle.std.proofs.Common.{◌%◌, ◌≡◌, ℕ, ◌≤◌, Bool, true, false, if◌then◌else◌, ◌==◌, ◌||◌}
use Rattle.std.proofs.Common.{List, [], ◌∷◌, length, Some, None, refl, sym, subst, arith}
use Rattle.std.proofs.Math.Nat.{le_refl}
use Rattle.la_base.specs.declared.wires.Out.{Out}
use Rattle.la_base.specs.declared.wires.Packet.{Packet}
use Rattle.la_base.specs.declared.wires.Wire.TheVariants.{Nothing as NoWire}
use Rattle.decoder_core.specs.Outputs.{span_note}
use Rattle.decoder_core.specs.Promises.{NotesFrom, PacketsOn, packet_starts}
use Rattle.sample_walks.specs.Walks.{Between}
use Rattle.packet_walks.specs.Walks.{SoundPackets}
use Rattle.dec_midi.specs.declared.held.Held.{Held}
use Rattle.dec_midi.specs.declared.held.Held.TheVariants.{Stray, Running, Begun, Exclusive}
use Rattle.dec_midi.specs.declared.held.Sort.{Sort}
use Rattle.dec_midi.specs.declared.held.Sort.TheVariants.{Data, Status, RealTime}
use Rattle.dec_midi.specs.declared.held.Takes.{Takes}
use Rattle.dec_midi.specs.declared.held.Takes.TheVariants.{Nothing, One, Two, Ones, Twos, Any}
use Rattle.dec_midi.specs.Midi.{is_byte, as_byte, sort_of, takes, message, byte_note, own_outs}
use Rattle.dec_midi.specs.laws.Steps.{by_two, runs, behind, first_gives, first_next}
use Rattle.dec_midi.specs.laws.Steps.{data_gives, data_next, status_gives, opened}
use Rattle.dec_midi.specs.laws.Steps.{sort_gives, sort_next, gives, next, near_by, midi_walk}

-- what has begun starts no later than the last packet, and system exclusive no later than it ends
abbrev pub midi_fits : Held → ℕ → Type 0
midi_fits Stray last = Unit {0}
midi_fits (Running status) last = Unit {0}
midi_fits (Begun status start first) last = start ≤ last
midi_fits (Exclusive start end count) last = (start ≤ last) × (start ≤ end)

fits_later : (h : Held) (last from : ℕ) → last ≤ from → midi_fits h last → midi_fits h from
fits_later Stray last from later fit = tt
fits_later (Running status) last from later fit = tt
fits_later (Begun status start first) last from later fit = omega (arith, fit, later)
fits_later (Exclusive start end count) last from later fit =
    (omega (arith, fit.0, later), fit.1)

-- outputs without a packet, whose notes start there or later
record Plain (low : ℕ) (outs : List Out) : Type 0 where
  pub notes : NotesFrom low outs
  pub none : packet_starts outs ≡ []

no_outs : (low : ℕ) → Plain low []
no_outs low = record { notes = tt; none = refl }

one_note : (low class first last a : ℕ) → low ≤ first → low ≤ last
    → Plain low (span_note class first last a 0 ∷ [])
one_note low class first last a after ends = record {
  notes = (omega (arith, after, ends), tt);
  none = refl;
}

-- a byte by itself, and what a status gives by itself
module _ (low : ℕ) (p : Packet) (after : low ≤ p.start) where
  plain_byte : (class : ℕ) → Plain low (byte_note class p)
  plain_byte class = one_note low class p.start p.end p.a after (omega (arith, after, p.in_order))

  plain_own : Plain low (own_outs p)
  plain_own = by (p.a == 246) (p.a == 244 || (p.a == 245 || p.a == 247))
    where
      by : (tune other : Bool)
          → Plain low (if tune then byte_note 10 p else if other then byte_note 15 p else [])
      by true other = plain_byte 10
      by false true = plain_byte 15
      by false false = no_outs low

  plain_message : (status first one two : ℕ) → low ≤ first
      → Plain low (message status first p.end one two)
  plain_message status first one two from =
      one_note low _ first p.end _ from (omega (arith, after, p.in_order))

  plain_first : (two : Bool) (status start : ℕ) → low ≤ start
      → Plain low (first_gives two status start p)
  plain_first true status start from = no_outs low
  plain_first false status start from = plain_message status start p.a 0 from

  plain_cut : (first last count : ℕ) → low ≤ first → low ≤ last
      → Plain low (span_note 13 first last count 0 ∷ own_outs p)
  plain_cut first last count from ends = record {
    notes = (omega (arith, from, ends), plain_own.notes);
    none = plain_own.none;
  }

module _ (last : ℕ) (p : Packet) (after : last ≤ p.start) where
  -- what has begun starts no later than the last packet, and goes on
  near_most : (h : Held) → midi_fits h last → near_by h last ≤ p.start
  near_most Stray fit = after
  near_most (Running status) fit = after
  near_most (Begun status start first) fit = omega (arith, fit, after)
  near_most (Exclusive start end count) fit = omega (arith, fit.0, after)

  near_on : (h : Held) → near_by h last ≤ near_by h p.start
  near_on Stray = after
  near_on (Running status) = after
  near_on (Begun status start first) = le_refl start
  near_on (Exclusive start end count) = le_refl start

  fits_on : (h : Held) → midi_fits h last → midi_fits h p.start
  fits_on Stray fit = tt
  fits_on (Running status) fit = tt
  fits_on (Begun status start first) fit = omega (arith, fit, after)
  fits_on (Exclusive start end count) fit = (omega (arith, fit.0, after), fit.1)

  -- what a data byte gives
  plain_data : (h : Held) → midi_fits h last → Plain (near_by h last) (data_gives h p)
  plain_data Stray fit = plain_byte last p after 14
  plain_data (Running status) fit =
      plain_first last p after (by_two (takes status)) status p.start after
  plain_data (Begun status start None) fit =
      plain_first start p (omega (arith, fit, after)) (by_two (takes status)) status start
      (le_refl start)
  plain_data (Begun status start (Some one)) fit =
      plain_message start p (omega (arith, fit, after)) status start one p.a (le_refl start)
  plain_data (Exclusive start end count) fit = no_outs start

  -- what a status gives
  plain_status : (h : Held) → midi_fits h last → Plain (near_by h last) (status_gives h p)
  plain_status Stray fit = plain_own last p after
  plain_status (Running status) fit = plain_own last p after
  plain_status (Begun status start first) fit = plain_own start p (omega (arith, fit, after))
  plain_status (Exclusive start end count) fit = by (p.a == 247)
    where
      from : start ≤ p.start
      from = omega (arith, fit.0, after)

      by : (t : Bool)
          → Plain start
          (if t then span_note 12 start p.end count 0 ∷ []
          else span_note 13 start end count 0 ∷ own_outs p)
      by true =
          one_note start 12 start p.end count (le_refl start) (omega (arith, from, p.in_order))
      by false = plain_cut start p from start end count (le_refl start) fit.1

  -- a state that fits behind the packet, and begins no earlier than before
  abbrev Later : ℕ → Held → Type 0
  Later low h = midi_fits h p.start × (low ≤ near_by h p.start)

  later_behind : (low status : ℕ) → low ≤ p.start → Later low (behind status)
  later_behind low status from = by (runs (takes status))
    where
      by : (t : Bool) → Later low (if t then Running status else Stray)
      by true = (tt, from)
      by false = (tt, from)

  later_first : (low : ℕ) (two : Bool) (status start : ℕ) → low ≤ start → start ≤ p.start
      → Later low (first_next two status start p)
  later_first low true status start from most = (most, from)
  later_first low false status start from most = later_behind low status (omega (arith, from, most))

  later_data : (h : Held) → midi_fits h last → Later (near_by h last) (data_next h p)
  later_data Stray fit = (tt, after)
  later_data (Running status) fit =
      later_first last (by_two (takes status)) status p.start after (le_refl p.start)
  later_data (Begun status start None) fit =
      later_first start (by_two (takes status)) status start (le_refl start)
      (omega (arith, fit, after))
  later_data (Begun status start (Some one)) fit =
      later_behind start status (omega (arith, fit, after))
  later_data (Exclusive start end count) fit =
      ((omega (arith, fit.0, after), omega (arith, fit.0, after, p.in_order)), le_refl start)

  later_opened : (low : ℕ) (t : Takes) → low ≤ p.start → Later low (opened t p)
  later_opened low Nothing from = (tt, from)
  later_opened low One from = (le_refl p.start, from)
  later_opened low Two from = (le_refl p.start, from)
  later_opened low Ones from = (le_refl p.start, from)
  later_opened low Twos from = (le_refl p.start, from)
  later_opened low Any from = ((le_refl p.start, p.in_order), from)

  -- what a packet gives and changes
  plain_sort : (s : Sort) (h : Held) → midi_fits h last → Plain (near_by h last) (sort_gives s h p)
  plain_sort Data h fit = plain_data h fit
  plain_sort Status h fit = plain_status h fit
  plain_sort RealTime h fit = plain_byte (near_by h last) p (near_most h fit) 11

  later_sort : (s : Sort) (h : Held) → midi_fits h last → Later (near_by h last) (sort_next s h p)
  later_sort Data h fit = later_data h fit
  later_sort Status h fit = later_opened (near_by h last) (takes p.a) (near_most h fit)
  later_sort RealTime h fit = (fits_on h fit, near_on h)

module _ (last : ℕ) (p : Packet) (after : last ≤ p.start) where
  abbrev q : Packet
  q = as_byte p

  plain_gives : (h : Held) → midi_fits h last → Plain (near_by h last) (gives h p)
  plain_gives h fit = by (is_byte p)
    where
      by : (t : Bool) → Plain (near_by h last) (if t then sort_gives (sort_of q.a) h q else [])
      by true = plain_sort last q after (sort_of q.a) h fit
      by false = no_outs (near_by h last)

  later_next : (h : Held) → midi_fits h last → Later last p after (near_by h last) (next h p)
  later_next h fit = by (is_byte p)
    where
      by : (t : Bool)
          → Later last p after (near_by h last) (if t then sort_next (sort_of q.a) h q else h)
      by true = later_sort last q after (sort_of q.a) h fit
      by false = (fits_on last p after h fit, near_on last p after h)

-- few outputs, and none a packet, also where a state doesn't fit
abbrev Few : List Out → Type 0
Few outs = (length outs ≤ 2) × PacketsOn NoWire outs

abbrev Alone : List Out → Type 0
Alone outs = (length outs ≤ 1) × PacketsOn NoWire outs

few_own : (p : Packet) → Alone (own_outs p)
few_own p = by (p.a == 246) (p.a == 244 || (p.a == 245 || p.a == 247))
  where
    by : (tune other : Bool)
        → Alone (if tune then byte_note 10 p else if other then byte_note 15 p else [])
    by true other = (omega arith, tt)
    by false true = (omega arith, tt)
    by false false = (omega arith, tt)

few_first : (two : Bool) (status start : ℕ) (p : Packet) → Few (first_gives two status start p)
few_first true status start p = (omega arith, tt)
few_first false status start p = (omega arith, tt)

few_data : (h : Held) (p : Packet) → Few (data_gives h p)
few_data Stray p = (omega arith, tt)
few_data (Running status) p = few_first (by_two (takes status)) status p.start p
few_data (Begun status start None) p = few_first (by_two (takes status)) status start p
few_data (Begun status start (Some one)) p = (omega arith, tt)
few_data (Exclusive start end count) p = (omega arith, tt)

few_alone : (p : Packet) → Few (own_outs p)
few_alone p = (omega (arith, (few_own p).0), (few_own p).1)

few_status : (h : Held) (p : Packet) → Few (status_gives h p)
few_status Stray p = few_alone p
few_status (Running status) p = few_alone p
few_status (Begun status start first) p = few_alone p
few_status (Exclusive start end count) p = by (p.a == 247)
  where
    by : (t : Bool)
        → Few (if t then span_note 12 start p.end count 0 ∷ []
        else span_note 13 start end count 0 ∷ own_outs p)
    by true = (omega arith, tt)
    by false = (omega (arith, (few_own p).0), (few_own p).1)

few_sort : (s : Sort) (h : Held) (p : Packet) → Few (sort_gives s h p)
few_sort Data h p = few_data h p
few_sort Status h p = few_status h p
few_sort RealTime h p = (omega arith, tt)

few_gives : (h : Held) (p : Packet) → Few (gives h p)
few_gives h p = by (is_byte p)
  where
    by : (t : Bool) → Few (if t then sort_gives (sort_of (p.a % 256)) h (as_byte p) else [])
    by true = few_sort (sort_of (p.a % 256)) h (as_byte p)
    by false = (omega arith, tt)

pub midi_sound : SoundPackets midi_walk NoWire midi_fits
midi_sound = record {
  begin_fits = tt;
  next_fits = λ h last p fit after. (later_next last p after h fit).0;
  later_fits = λ h last from fit later. fits_later h last from later fit;
  few = λ h p. omega (arith, (few_gives h p).0);
  on_wire = λ h p. (few_gives h p).1;
  notes = λ h last p fit after. (plain_gives last p after h fit).notes;
  packets = λ h last p fit after.
      subst (λ (l : List ℕ). Between (near_by h last) (near_by (next h p) p.start) l)
      (sym (plain_gives last p after h fit).none) (later_next last p after h fit).1;
}
