-- The walk over packets of a network is sound.
use Rattle.std.proofs.Common.{◌≡◌, ℕ, zero, suc, ◌<◌, ◌≤◌, Bool, true, false, if◌then◌else◌, List}
use Rattle.std.proofs.Common.{[], ◌∷◌, ◌++◌, length, map, take, refl, subst, arith, length-append}
use Rattle.std.specs.Prelude.{max, min, nat_lt}
use Rattle.std.proofs.Math.Nat.{le_refl}
use Rattle.std.proofs.lemmas.List.{length-map, length-take}
use Rattle.la_base.specs.declared.wires.Out.{Out}
use Rattle.la_base.specs.declared.wires.Packet.{Packet}
use Rattle.decoder_core.specs.Promises.{NotesFrom}
use Rattle.packet_walks.specs.laws.Steps.{NoPackets, Sound}
use Rattle.dev_ds18b20.specs.declared.spot.Spot.{Spot}
use Rattle.dev_ds18b20.specs.declared.held.Stage.{Stage}
use Rattle.dev_ds18b20.specs.declared.held.Stage.TheVariants.{Foreign, Own, Reads, Writes, Told}
use Rattle.dev_ds18b20.specs.declared.held.Transaction.{Transaction}
use Rattle.dev_ds18b20.specs.Probe.{is_byte, spot_of, byte_piece, nth, scratchpad_outs}
use Rattle.dev_ds18b20.specs.Probe.{written_outs, probe}
use Rattle.dev_ds18b20.specs.laws.Held.{opened, gathers_give, byte_gives, transaction_gives}
use Rattle.dev_ds18b20.specs.laws.Held.{gathers_next, stage_next, transaction_next, near_at}
use Rattle.dev_ds18b20.specs.laws.Held.{probe_steps}
use Rattle.dev_ds18b20.specs.laws.ByteLaws.{less_not, near_low}

-- each byte starts there or later
abbrev Each : ℕ → List Spot → Type 0
Each low [] = Unit {0}
Each low (byte ∷ bytes) = (low ≤ byte.start) × (low ≤ byte.end) × Each low bytes

each_more : (low : ℕ) (bytes : List Spot) (p : Spot) → Each low bytes → low ≤ p.start → low ≤ p.end
    → Each low (bytes ++ p ∷ [])
each_more low [] p all here there = (here, there, tt)
each_more low (byte ∷ bytes) p all here there =
    (all.0, all.1, each_more low bytes p all.2 here there)

each_front : (low n : ℕ) (bytes : List Spot) → Each low bytes → Each low (take n bytes)
each_front low zero bytes all = tt
each_front low (suc n) [] all = tt
each_front low (suc n) (byte ∷ bytes) all = (all.0, all.1, each_front low n bytes all.2)

each_nth : (low : ℕ) (bytes : List Spot) (place : ℕ) → Each low bytes → place < length bytes
    → (low ≤ (nth bytes place).start) × (low ≤ (nth bytes place).end)
each_nth low [] place all within = absurd (omega (arith, within))
each_nth low (byte ∷ bytes) zero all within = (all.0, all.1)
each_nth low (byte ∷ bytes) (suc place) all within =
    each_nth low bytes place all.2 (omega (arith, within))

-- the bytes that are kept start no earlier than the reset, and the reset no later than the last
-- packet
abbrev pub probe_fits : Transaction → ℕ → Type 0
probe_fits kept last = (kept.start ≤ last) × Each kept.start kept.bytes

-- pieces are neither packets nor notes
no_pieces : (bytes : List Spot) (last : Spot)
    → NoPackets (map byte_piece bytes ++ byte_piece last ∷ [])
no_pieces [] last = tt
no_pieces (byte ∷ bytes) last = no_pieces bytes last

notes_pieces : (low : ℕ) (bytes : List Spot) (last : Spot)
    → NotesFrom low (map byte_piece bytes ++ byte_piece last ∷ [])
notes_pieces low [] last = tt
notes_pieces low (byte ∷ bytes) last = notes_pieces low bytes last

-- at most 16 outputs, none of them a packet
abbrev Few : List Out → Type 0
Few outs = (length outs ≤ 16) × NoPackets outs

few_scratchpad : (bytes : List Spot) (last : Spot) → Few (scratchpad_outs (take 8 bytes) last)
few_scratchpad bytes last =
    let front = take 8 bytes in
    let pieces : length (map byte_piece front ++ byte_piece last ∷ []) ≤ 9 =
    omega (
      arith,
      length-append (map byte_piece front)
          (byte_piece last ∷ []),
      length-map front byte_piece,
      length-take 8 bytes,
    ) in
    (omega (arith, pieces), no_pieces front last)

few_gathers : (most : ℕ) (give : List Spot → Spot → List Out) (bytes : List Spot) (p : Spot)
    → Few (give (take most bytes) p) → Few (gathers_give most give bytes p)
few_gathers most give bytes p few = by (nat_lt (length bytes) most)
  where
    by : (t : Bool) → Few (if t then [] else give (take most bytes) p)
    by true = (omega arith, tt)
    by false = few

few_byte : (stage : Stage) (bytes : List Spot) (p : Spot) → Few (byte_gives stage bytes p)
few_byte Foreign bytes p = (omega arith, tt)
few_byte Own bytes p = (omega arith, tt)
few_byte Reads bytes p = few_gathers 8 scratchpad_outs bytes p (few_scratchpad bytes p)
few_byte Writes bytes p = few_gathers 2 written_outs bytes p (omega arith, tt)
few_byte Told bytes p = (omega arith, tt)

few_gives : (kept : Transaction) (p : Packet) → Few (transaction_gives kept p)
few_gives kept p = by (is_byte p.kind)
  where
    by : (t : Bool) → Few (if t then byte_gives kept.stage kept.bytes (spot_of p) else [])
    by true = few_byte kept.stage kept.bytes (spot_of p)
    by false = (omega arith, tt)

-- a packet of a transaction whose reset starts there
module _ (low : ℕ) (p : Packet) (after : low ≤ p.start) where
  abbrev byte : Spot
  byte = spot_of p

  there : low ≤ p.end
  there = omega (arith, after, p.in_order)

  here : low ≤ min p.start p.end
  here = omega (arith, after, p.in_order)

  over : (bytes : List Spot) (first last : ℕ) → Each low bytes → first < length bytes
      → last < length bytes → low ≤ min (nth bytes first).start (nth bytes last).end
  over bytes first last all one other =
      let from = each_nth low bytes first all one in
      let to = each_nth low bytes last all other in
      (let f = from.0 in let t = to.1 in omega (arith, f, t))

  notes_scratchpad : (bytes : List Spot) → Each low bytes → length bytes ≡ 8
      → NotesFrom low (scratchpad_outs bytes byte)
  notes_scratchpad bytes all eight = (
    over bytes 0 1 all (omega (arith, eight)) (omega (arith, eight)),
    (
      over bytes 2 3 all (omega (arith, eight)) (omega (arith, eight)),
      (
        over bytes 4 4 all (omega (arith, eight)) (omega (arith, eight)),
        (here, notes_pieces low bytes byte),
      ),
    ),
  )

  notes_written : (bytes : List Spot) → Each low bytes → length bytes ≡ 2
      → NotesFrom low (written_outs bytes byte)
  notes_written bytes all two =
      (over bytes 0 1 all (omega (arith, two)) (omega (arith, two)), (here, tt))

  notes_gathers : (most : ℕ) (give : List Spot → Spot → List Out)
      → ((bytes : List Spot) → Each low bytes → length bytes ≡ most
      → NotesFrom low (give bytes byte))
      → (bytes : List Spot) → Each low bytes → NotesFrom low (gathers_give most give bytes byte)
  notes_gathers most give notes bytes all = by (nat_lt (length bytes) most) refl
    where
      by : (t : Bool) → nat_lt (length bytes) most ≡ t
          → NotesFrom low (if t then [] else give (take most bytes) byte)
      by true is = tt
      by false is =
          let enough = less_not (length bytes) most is in
          notes (take most bytes) (each_front low most bytes all)
          (omega (arith, length-take most bytes, enough))

  notes_byte : (stage : Stage) (bytes : List Spot) → Each low bytes
      → NotesFrom low (byte_gives stage bytes byte)
  notes_byte Foreign bytes all = tt
  notes_byte Own bytes all = (here, tt)
  notes_byte Reads bytes all = notes_gathers 8 scratchpad_outs notes_scratchpad bytes all
  notes_byte Writes bytes all = notes_gathers 2 written_outs notes_written bytes all
  notes_byte Told bytes all = tt

  -- what is kept fits behind one more packet
  module _ (start last : ℕ) (is : start ≡ low) (before : start ≤ p.start) where
    fits_gathers : (most : ℕ) (stage : Stage) (bytes : List Spot) → Each start bytes
        → probe_fits (gathers_next start most stage bytes byte) p.start
    fits_gathers most stage bytes all = by (nat_lt (length bytes) most)
      where
        by : (t : Bool) → probe_fits
            (if t then opened start stage (bytes ++ spot_of p ∷ []) else opened start Told [])
            p.start
        by true =
            (before, each_more start bytes byte all before (omega (arith, before, p.in_order)))
        by false = (before, tt)

    fits_stage : (stage : Stage) (bytes : List Spot) → Each start bytes
        → probe_fits (stage_next start stage bytes p) p.start
    fits_stage Foreign bytes all = (before, all)
    fits_stage Own bytes all = (before, all)
    fits_stage Reads bytes all = by (is_byte p.kind)
      where
        by : (t : Bool) → probe_fits
            (if t then gathers_next start 8 Reads bytes (spot_of p) else opened start Reads bytes)
            p.start
        by true = fits_gathers 8 Reads bytes all
        by false = (before, all)
    fits_stage Writes bytes all = by (is_byte p.kind)
      where
        by : (t : Bool) → probe_fits
            (if t then gathers_next start 2 Writes bytes (spot_of p) else opened start Writes bytes)
            p.start
        by true = fits_gathers 2 Writes bytes all
        by false = (before, all)
    fits_stage Told bytes all = (before, all)

module _ (kept : Transaction) (last : ℕ) (p : Packet) (fit : probe_fits kept last)
    (after : last ≤ p.start) where
  later : kept.start ≤ p.start
  later = let below = fit.0 in omega (arith, below, after)

  fits_next : probe_fits (transaction_next kept p) p.start
  fits_next = fits_stage kept.start p later kept.start last refl later kept.stage kept.bytes fit.1

  notes_gives : NotesFrom (near_at kept.stage kept.start last) (transaction_gives kept p)
  notes_gives = at kept.stage
    where
      any : (stage : Stage) → NotesFrom kept.start
          (if is_byte p.kind then byte_gives stage kept.bytes (spot_of p) else [])
      any stage = by (is_byte p.kind)
        where
          by : (t : Bool)
              → NotesFrom kept.start (if t then byte_gives stage kept.bytes (spot_of p) else [])
          by true = notes_byte kept.start p later stage kept.bytes fit.1
          by false = tt

      at : (stage : Stage) → NotesFrom (near_at stage kept.start last)
          (if is_byte p.kind then byte_gives stage kept.bytes (spot_of p) else [])
      at Foreign = any Foreign
      at Own = any Own
      at Reads = any Reads
      at Writes = any Writes
      at Told = by (is_byte p.kind)
        where
          by : (t : Bool) → NotesFrom (max kept.start last) (if t then [] else [])
          by true = tt
          by false = tt

start_stays : (start : ℕ) (stage : Stage) (bytes : List Spot) (p : Packet)
    → (stage_next start stage bytes p).start ≡ start
start_stays start Foreign bytes p = refl
start_stays start Own bytes p = refl
start_stays start Reads bytes p = by (is_byte p.kind) (nat_lt (length bytes) 8)
  where
    by : (t u : Bool)
        → (if t then (if u then opened start Reads (bytes ++ spot_of p ∷ [])
        else opened start Told []) else opened start Reads bytes).start ≡ start
    by true true = refl
    by true false = refl
    by false u = refl
start_stays start Writes bytes p = by (is_byte p.kind) (nat_lt (length bytes) 2)
  where
    by : (t u : Bool)
        → (if t then (if u then opened start Writes (bytes ++ spot_of p ∷ [])
        else opened start Told []) else opened start Writes bytes).start ≡ start
    by true true = refl
    by true false = refl
    by false u = refl
start_stays start Told bytes p = refl

module _ (kept : Transaction) (last : ℕ) (p : Packet) (after : last ≤ p.start) where
  -- the near place never goes back
  near_goes_on : near_at kept.stage kept.start last ≤ probe_steps.near
      (transaction_next kept p) p.start
  near_goes_on = at kept.stage
    where
      below : (stage : Stage)
          → kept.start ≤ probe_steps.near (stage_next kept.start stage kept.bytes p) p.start
      below stage =
          let next = stage_next kept.start stage kept.bytes p in
          subst (λ (n : ℕ). n ≤ near_at next.stage next.start p.start)
          (start_stays kept.start stage kept.bytes p) (near_low next.stage next.start p.start)

      at : (stage : Stage) → near_at stage kept.start last ≤ probe_steps.near
          (stage_next kept.start stage kept.bytes p) p.start
      at Foreign = below Foreign
      at Own = below Own
      at Reads = below Reads
      at Writes = below Writes
      at Told = omega (arith, after)

near_above : (stage : Stage) (start last : ℕ) → start ≤ last → near_at stage start last ≤ last
near_above Foreign start last below = below
near_above Own start last below = below
near_above Reads start last below = below
near_above Writes start last below = below
near_above Told start last below = omega (arith, below)

pub probe_sound : Sound probe probe_steps probe_fits
probe_sound = record {
  opens_fits = λ p. (le_refl p.start, tt);
  next_fits = fits_next;
  later_fits = λ kept last from fit later. let below = fit.0 in
      (omega (arith, below, later), fit.1);
  opens_near = λ p. le_refl p.start;
  next_near = λ kept last p fit after. near_goes_on kept last p after;
  near_below = λ kept last fit. near_above kept.stage kept.start last fit.0;
  few = λ kept p. (few_gives kept p).0;
  few_closing = λ kept. omega arith;
  no_packet = λ kept p. (few_gives kept p).1;
  no_packet_closing = λ kept. tt;
  notes = notes_gives;
  notes_closing = λ kept last fit. tt;
}
