-- The walk over packets of a link is sound.
use Rattle.std.proofs.Common.{◌≡◌, ℕ, ◌+◌, ◌≤◌, Bool, true, false, if◌then◌else◌, ◌==◌, List, []}
use Rattle.std.proofs.Common.{◌∷◌, length, refl, sym, subst, arith}
use Rattle.std.specs.Prelude.{min, nat_lt}
use Rattle.std.proofs.Math.Nat.{le_refl}
use Rattle.la_base.specs.declared.wires.Out.{Out}
use Rattle.la_base.specs.declared.wires.Packet.{Packet}
use Rattle.la_base.specs.declared.wires.Wire.TheVariants.{OwNet as NetWire}
use Rattle.decoder_core.specs.Promises.{NotesFrom, PacketsOn, packet_starts}
use Rattle.std.proofs.lemmas.Bool.Decides.{nat_tests}
use Rattle.decoder_core.specs.Outputs.{span_note, span_packet}
use Rattle.la_base.specs.declared.wires.PacketKind.TheVariants.{NetReset}
use Rattle.sample_walks.specs.Walks.{Between}
use Rattle.dec_onewire.specs.declared.net.held.Begun.{Begun}
use Rattle.dec_onewire.specs.declared.net.held.Held.{Held}
use Rattle.dec_onewire.specs.declared.net.held.Held.TheVariants.{Outside, Reset, Inside}
use Rattle.dec_onewire.specs.declared.net.held.Role.{Role}
use Rattle.dec_onewire.specs.declared.net.held.Role.TheVariants.{Command, Rom, Search, Byte}
use Rattle.dec_onewire.specs.Net.{is_reset, is_presence, is_bit, bit_in, size_of}
use Rattle.dec_onewire.specs.laws.NetMachine.{none_begun, role_next, start_of, with_bit, given_by}
use Rattle.dec_onewire.specs.laws.NetMachine.{bit_gives, bit_next, answered_gives, answered_next}
use Rattle.dec_onewire.specs.laws.NetMachine.{inside_gives, inside_next, gives, next, near_by}
use Rattle.dec_onewire.specs.laws.NetMachine.{net_walk}
use Rattle.packet_walks.specs.Walks.{SoundPackets}

some_no : (n : ℕ) → (n + 1 == 0) ≡ false
some_no n = grind (arith, nat_tests)

-- what an answer to a reset gives
abbrev answer_outs : ℕ → Packet → List Out
answer_outs start p = span_note 0 start p.end 0 0 ∷ span_packet NetReset start p.end 0 0 ∷ []

-- a reset and what has begun start no later than the last packet
abbrev pub net_fits : Held → ℕ → Type 0
net_fits Outside last = Unit {0}
net_fits (Reset start) last = start ≤ last
net_fits (Inside role begun) last = begun.start ≤ last

fits_later : (h : Held) (last from : ℕ) → last ≤ from → net_fits h last → net_fits h from
fits_later Outside last from later fit = tt
fits_later (Reset start) last from later fit = omega (arith, fit, later)
fits_later (Inside role begun) last from later fit = omega (arith, fit, later)

-- at most 16 outputs, whose packets are of the network's wire
abbrev Few : List Out → Type 0
Few outs = (length outs ≤ 16) × PacketsOn NetWire outs

-- outputs that start no earlier than what has begun before, and no later than what has begun behind
-- them
abbrev Within : ℕ → ℕ → List Out → Type 0
Within low high outs = NotesFrom low outs × Between low high (packet_starts outs)

-- what whole bits give
few_given : (role : Role) (first last number : ℕ) → Few (given_by role first last number)
few_given Command first last number = (omega arith, (refl, tt))
few_given Rom first last number = (omega arith, (refl, tt))
few_given Search first last number = (omega arith, (refl, tt))
few_given Byte first last number = (omega arith, (refl, tt))

within_given : (role : Role) (first last number low high : ℕ) → low ≤ min first last
    → min first last ≤ high → Within low high (given_by role first last number)
within_given Command first last number low high after before = ((after, tt), (after, before))
within_given Rom first last number low high after before = ((after, tt), (after, before))
within_given Search first last number low high after before = ((after, tt), (after, before))
within_given Byte first last number low high after before = ((after, tt), (after, before))

-- what a packet gives is little
few_bit : (role : Role) (begun : Begun) (p : Packet) → Few (bit_gives role begun p)
few_bit role begun p = by (nat_lt (begun.count + 1) (size_of role))
  where
    by : (t : Bool) → Few
        (if t then [] else given_by role (start_of begun p) p.end (with_bit role begun (bit_in p)))
    by true = (omega arith, tt)
    by false = few_given role (start_of begun p) p.end (with_bit role begun (bit_in p))

few_answered : (start : ℕ) (p : Packet) → Few (answered_gives start p)
few_answered start p = by (is_presence p.kind)
  where
    by : (t : Bool) → Few (if t then answer_outs start p else [])
    by true = (omega arith, (refl, tt))
    by false = (omega arith, tt)

few_inside : (h : Held) (p : Packet) → Few (inside_gives h p)
few_inside Outside p = (omega arith, tt)
few_inside (Reset start) p = few_answered start p
few_inside (Inside role begun) p = by (is_bit p.kind)
  where
    by : (t : Bool) → Few (if t then bit_gives role begun p else [])
    by true = few_bit role begun p
    by false = (omega arith, tt)

few_gives : (h : Held) (p : Packet) → Few (gives h p)
few_gives h p = by (is_reset p.kind)
  where
    by : (t : Bool) → Few (if t then [] else inside_gives h p)
    by true = (omega arith, tt)
    by false = few_inside h p

module _ (last : ℕ) (p : Packet) (after : last ≤ p.start) where
  -- where bits start that have begun
  start_most : (begun : Begun) → begun.start ≤ last → start_of begun p ≤ p.start
  start_most begun below = by (begun.count == 0)
    where
      by : (t : Bool) → (if t then p.start else begun.start) ≤ p.start
      by true = le_refl p.start
      by false = omega (arith, below, after)

  near_start : (role : Role) (begun : Begun) → begun.start ≤ last
      → near_by (Inside role begun) last ≤ start_of begun p
  near_start role begun below = by (begun.count == 0)
    where
      by : (t : Bool) → (if t then last else begun.start) ≤ (if t then p.start else begun.start)
      by true = after
      by false = le_refl begun.start

  near_most : (h : Held) → net_fits h last → near_by h last ≤ p.start
  near_most Outside fit = after
  near_most (Reset start) fit = omega (arith, fit, after)
  near_most (Inside role begun) fit = omega (arith, near_start role begun fit, start_most begun fit)

  near_on : (role : Role) (begun : Begun) → begun.start ≤ last
      → near_by (Inside role begun) last ≤ near_by (Inside role begun) p.start
  near_on role begun below = by (begun.count == 0)
    where
      by : (t : Bool) → (if t then last else begun.start) ≤ (if t then p.start else begun.start)
      by true = after
      by false = le_refl begun.start

  -- a state fits behind one more packet
  fits_bit : (role : Role) (begun : Begun) → begun.start ≤ last
      → net_fits (bit_next role begun p) p.start
  fits_bit role begun below = by (nat_lt (begun.count + 1) (size_of role))
    where
      by : (t : Bool)
          → net_fits
          (if t then Inside role
          (record {
            count = begun.count + 1;
            start = start_of begun p;
            number = with_bit role begun (bit_in p);
          })
          else Inside (role_next role (with_bit role begun (bit_in p))) none_begun) p.start
      by true = start_most begun below
      by false = omega arith

  fits_answered : net_fits (answered_next p) p.start
  fits_answered = by (is_presence p.kind)
    where
      by : (t : Bool) → net_fits (if t then Inside Command none_begun else Outside) p.start
      by true = omega arith
      by false = tt

  fits_inside : (h : Held) → net_fits h last → net_fits (inside_next h p) p.start
  fits_inside Outside fit = tt
  fits_inside (Reset start) fit = fits_answered
  fits_inside (Inside role begun) fit = by (is_bit p.kind)
    where
      by : (t : Bool) → net_fits (if t then bit_next role begun p else Inside role begun) p.start
      by true = fits_bit role begun fit
      by false = omega (arith, fit, after)

  fits_next : (h : Held) → net_fits h last → net_fits (next h p) p.start
  fits_next h fit = by (is_reset p.kind)
    where
      by : (t : Bool) → net_fits (if t then Reset p.start else inside_next h p) p.start
      by true = le_refl p.start
      by false = fits_inside h fit

  -- from where on a packet gives notes and packets
  within_bit : (role : Role) (begun : Begun) → begun.start ≤ last
      → Within (near_by (Inside role begun) last) (near_by (bit_next role begun p) p.start)
      (bit_gives role begun p)
  within_bit role begun below = by (nat_lt (begun.count + 1) (size_of role))
    where
      low : near_by (Inside role begun) last ≤ start_of begun p
      low = near_start role begun below

      high : start_of begun p ≤ p.start
      high = start_most begun below

      later : near_by (Inside role begun) last
          ≤ (if begun.count + 1 == 0 then p.start else start_of begun p)
      later = subst
          (λ (t : Bool). near_by (Inside role begun)
          last ≤ (if t then p.start else start_of begun p)) (sym (some_no begun.count)) low

      by : (t : Bool)
          → Within (near_by (Inside role begun) last)
          (near_by (if t then Inside role
          (record {
            count = begun.count + 1;
            start = start_of begun p;
            number = with_bit role begun (bit_in p);
          })
          else Inside (role_next role (with_bit role begun (bit_in p))) none_begun) p.start)
          (if t then []
          else given_by role (start_of begun p) p.end (with_bit role begun (bit_in p)))
      by true = (tt, later)
      by false =
          within_given role (start_of begun p) p.end (with_bit role begun (bit_in p))
          (near_by (Inside role begun) last) p.start (omega (arith, low, high, p.in_order))
          (omega (arith, high))

  within_answered : (start : ℕ) → start ≤ last
      → Within start (near_by (answered_next p) p.start) (answered_gives start p)
  within_answered start below = by (is_presence p.kind)
    where
      first : start ≤ min start p.end
      first = omega (arith, below, after, p.in_order)

      by : (t : Bool) → Within start
          (near_by (if t then Inside Command none_begun else Outside) p.start)
          (if t then answer_outs start p else [])
      by true = ((first, tt), (first, omega (arith, below, after)))
      by false = (tt, omega (arith, below, after))

  within_inside : (h : Held) → net_fits h last
      → Within (near_by h last) (near_by (inside_next h p) p.start) (inside_gives h p)
  within_inside Outside fit = (tt, after)
  within_inside (Reset start) fit = within_answered start fit
  within_inside (Inside role begun) fit = by (is_bit p.kind)
    where
      by : (t : Bool) → Within (near_by (Inside role begun) last)
          (near_by (if t then bit_next role begun p else Inside role begun) p.start)
          (if t then bit_gives role begun p else [])
      by true = within_bit role begun fit
      by false = (tt, near_on role begun fit)

  within_gives : (h : Held) → net_fits h last
      → Within (near_by h last) (near_by (next h p) p.start) (gives h p)
  within_gives h fit = by (is_reset p.kind)
    where
      by : (t : Bool) → Within (near_by h last)
          (near_by (if t then Reset p.start else inside_next h p) p.start)
          (if t then [] else inside_gives h p)
      by true = (tt, near_most h fit)
      by false = within_inside h fit

pub net_sound : SoundPackets net_walk NetWire net_fits
net_sound = record {
  begin_fits = tt;
  next_fits = λ h last p fit after. fits_next last p after h fit;
  later_fits = λ h last from fit later. fits_later h last from later fit;
  few = λ h p. (few_gives h p).0;
  on_wire = λ h p. (few_gives h p).1;
  notes = λ h last p fit after. (within_gives last p after h fit).0;
  packets = λ h last p fit after. (within_gives last p after h fit).1;
}
