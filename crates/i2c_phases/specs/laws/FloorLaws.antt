-- Where the phase that is open starts, and what comes behind it.
use Rattle.std.proofs.Common.{ℕ, ◌≡◌, ◌≤◌, Bool, true, false, if◌then◌else◌, cond, List, [], ◌∷◌}
use Rattle.std.proofs.Common.{◌++◌}
use Rattle.std.proofs.Common.{sym, ◌∙◌, subst, arith}
use Rattle.std.proofs.lemmas.List.{append_cancel_left}
use Rattle.la_base.specs.declared.wires.Out.{Out}
use Rattle.la_base.specs.declared.wires.Packet.{Packet}
use Rattle.la_base.specs.declared.wires.Wire.{Wire}
use Rattle.decoder_core.specs.Promises.{NotesFrom}
use Rattle.decoder_core.specs.laws.OutLaws.{NotesFrom-append}
use Rattle.decoder_core.specs.Packets.{AllCount, CountFrom, last_start}
use Rattle.list_cuts.specs.Along.{along}
use Rattle.list_cuts.specs.Parts.{before_mark, parts}
use Rattle.i2c_phases.specs.Devices.{ByByte, Each}
use Rattle.i2c_phases.specs.Phases.{Meaning, is_mark, is_start, last_part, meanings, phase_near}
use Rattle.i2c_phases.specs.Phases.{starts_at}
use Rattle.i2c_phases.specs.laws.PhaseLaws.{LastEach, PartEach, packets_more}

count_each : (wire : Wire) (low last : ℕ) (xs : List Packet) → low ≤ last → CountFrom wire last xs
    → Each (λ p. low ≤ p.start) xs
count_each wire low last [] less all = tt
count_each wire low last (x ∷ xs) less all = let next = all.1 in
    (omega (arith, less, next), count_each wire low x.start xs (omega (arith, less, next)) all.2)

last_low : (wire : Wire) (last : ℕ) (xs : List Packet) → CountFrom wire last xs
    → last ≤ last_start last xs
last_low wire last [] all = omega arith
last_low wire last (x ∷ xs) all = let next = all.1 in let rest = last_low wire x.start xs all.2 in
    omega (arith, next, rest)

before_each : (Q : Packet → Type 0) (xs : List Packet) → Each Q xs → Each Q (before_mark is_mark xs)
before_each Q [] all = tt
before_each Q (x ∷ xs) all = by (is_mark x) (before_each Q xs all.1)
  where
    by : (t : Bool) → Each Q (before_mark is_mark xs)
        → Each Q (cond t [] (x ∷ before_mark is_mark xs))
    by true rest = tt
    by false rest = (all.0, rest)

-- a part's first packet starts no later than its others, and than the last packet of all
abbrev Opens : ℕ → List Packet → Type 0
Opens last [] = Unit {0}
Opens last (packet ∷ packets) = Each (λ p. packet.start ≤ p.start) packets × (packet.start ≤ last)

opens : (wire : Wire) (last : ℕ) (xs : List Packet) → CountFrom wire last xs
    → Opens (last_start last xs) (last_part (parts is_mark xs))
opens wire last [] all = tt
opens wire last (x ∷ xs) all = by (is_mark x) (parts is_mark xs) (opens wire x.start xs all.2)
  where
    by : (t : Bool) (ps : List (List Packet)) → Opens (last_start x.start xs) (last_part ps)
        → Opens (last_start x.start xs) (last_part (cond t ((x ∷ before_mark is_mark xs) ∷ ps) ps))
    by true [] rest = (
      before_each (λ p. x.start ≤ p.start) xs
          (count_each wire x.start x.start xs (omega arith) all.2),
      last_low wire x.start xs all.2,
    )
    by true (q ∷ ps) rest = rest
    by false ps rest = rest

last_of : (Q : Packet → Type 0) (ps : List (List Packet)) → PartEach Q (last_part ps)
    → LastEach Q ps
last_of Q [] all = tt
last_of Q (p ∷ []) all = all
last_of Q (p ∷ q ∷ ps) all = last_of Q (q ∷ ps) all

near_each : (last from : ℕ) (part : List Packet) → Opens last part
    → PartEach (λ p. starts_at from part ≤ p.start) part
near_each last from [] all = tt
near_each last from (x ∷ xs) all =
    λ e. subst (λ (b : Bool). Each (λ p. (if b then x.start else from) ≤ p.start) xs) (sym e) all.0

near_low : (last from : ℕ) (part : List Packet) → last ≤ from → Opens last part
    → starts_at from part ≤ from
near_low last from [] later all = omega arith
near_low last from (x ∷ xs) later all = by (is_start x.kind)
  where
    by : (t : Bool) → (if t then x.start else from) ≤ from
    by true = let below = all.1 in omega (arith, below, later)
    by false = omega arith

-- where each phase gives notes of its own bytes, what packets add starts where the open phase
-- starts, or later
module _ (device : ℕ) (resets : Bool) (step : List Meaning → Meaning → List Out)
    (laws : (floor : ℕ) (before : List Meaning)
    → ByByte (NotesFrom floor) (λ p. floor ≤ p.start) (step before)) (wire : Wire) where
  pub floor_is : (seen : List Packet) (from : ℕ) → last_start 0 seen ≤ from
      → AllCount wire seen → (more : List Packet) (new : List Out) → CountFrom wire from more
      → along step (meanings device resets (seen ++ more))
      ≡ along step (meanings device resets seen) ++ new → NotesFrom (phase_near seen from) new
  floor_is seen from later all more new behind is =
      let f = phase_near seen from in
      let opened = opens wire 0 seen all in
      let low = near_low (last_start 0 seen) from (last_part (parts is_mark seen)) later opened in
      let last =
      last_of (λ p. f ≤ p.start) (parts is_mark seen)
      (near_each (last_start 0 seen) from (last_part (parts is_mark seen)) opened) in
      let each = count_each wire f from more low behind in
      let added =
      packets_more device resets (NotesFrom f) (λ p. f ≤ p.start) step (laws f)
      (NotesFrom-append f) seen more last each in
      subst (NotesFrom f)
      (append_cancel_left (along step (meanings device resets seen)) added.0 new
      (sym added.1 ∙ is)) added.2
