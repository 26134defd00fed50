-- What a DS1307 knows, behind one more byte.
use Rattle.std.proofs.Common.{◌≡◌, ℕ, ◌+◌, ◌%◌, ◌<◌, Bool, true, false, if◌then◌else◌, List, []}
use Rattle.std.proofs.Common.{◌∷◌, ◌++◌, length, refl, sym, ◌∙◌, ap, arith, length-append}
use Rattle.std.proofs.Math.Nat.{mod-add-mod}
use Rattle.la_base.specs.declared.wires.Out.{Out}
use Rattle.la_base.specs.declared.wires.Packet.{Packet}
use Rattle.list_cuts.specs.Along.{along}
use Rattle.list_cuts.proofs.AlongLaws.{along_push}
use Rattle.i2c_phases.specs.Phases.{Meaning, Nothing, Writes, Reads, Reset, byte_of}
use Rattle.i2c_phases.specs.Bytes.{byte_note}
use Rattle.i2c_phases.specs.Pointers.{of_last, pointer_behind, points}
use Rattle.i2c_phases.specs.laws.PointerLaws.{behind_keeps, behind_sets, of_last_is}
use Rattle.dev_ds1307.specs.declared.chip.Chip.{Chip}
use Rattle.dev_ds1307.specs.declared.held.Part.{Part}
use Rattle.dev_ds1307.specs.declared.held.Part.TheVariants.{Fresh, Apart, Row}
use Rattle.dev_ds1307.specs.declared.held.Held.{Held}
use Rattle.dev_ds1307.specs.declared.held.Clock.{Clock}
use Rattle.dev_ds1307.specs.Clock.{byte_outs, last_bytes, moves, register, set_to, start_of, step}
use Rattle.dev_ds1307.specs.laws.Held.{Knows, byte_gives, collected, held_of, in_row, moved}
use Rattle.dev_ds1307.specs.laws.Held.{next_row}
use Rattle.dev_ds1307.specs.laws.Held.{next_part, part_in, put_by, put_gives, row_of}
use Rattle.dev_ds1307.specs.laws.RowLaws.{byte_is, row_empty, row_more}

-- what a DS1307 is made of
abbrev pub chip_of : Clock → Chip
chip_of device = device.chip

pub one_clock : (one other : Clock) (phases : List Meaning) → chip_of one ≡ chip_of other
    → Knows one phases → Knows other phases → one ≡ other
one_clock one other phases same knows also = let held : one.held ≡ other.held = knows ∙ sym also in
    λ i. record { chip = same i; held = held i }

-- the register behind one more phase
pub register_sets : (before : List Meaning) (m : Meaning) → points m ≡ true
    → register (before ++ m ∷ []) ≡ set_to m % 64
register_sets before m is = ap (λ (n : ℕ). n % 64) (behind_sets points set_to moves before m is)

pub register_keeps : (before : List Meaning) (m : Meaning) → points m ≡ false
    → register (before ++ m ∷ []) ≡ (register before + moves m) % 64
register_keeps before m is =
    ap (λ (n : ℕ). n % 64) (behind_keeps points set_to moves before m is)
    ∙ sym (mod-add-mod (pointer_behind points set_to moves before) 64 (moves m))

register_same : (phases : List Meaning) → (register phases + 0) % 64 ≡ register phases
register_same phases = let n = pointer_behind points set_to moves phases in omega arith

register_below : (n : ℕ) → n % 64 < 64
register_below n = omega arith

-- one byte more is one register further
one_further : (from : ℕ) (bytes : List Packet) (p : Packet)
    → (from + length (bytes ++ p ∷ [])) % 64 ≡ ((from + length bytes) % 64 + 1) % 64
one_further from bytes p = let n = length-append bytes (p ∷ []) in omega (arith, n)

held_is : (before : List Meaning) (m : Meaning)
    → held_of (before ++ m ∷ [])
    ≡ record {
      register = register (before ++ m ∷ []);
      part = part_in (register (before ++ m ∷ [])) m;
    }
unfolding held_of
held_is before m =
    ap (λ (part : Part). record { register = register (before ++ m ∷ []); part = part })
    (of_last_is (part_in (register (before ++ m ∷ []))) Fresh before m)

held_at : (before : List Meaning) (m : Meaning) (at : ℕ) → register (before ++ m ∷ []) ≡ at
    → held_of (before ++ m ∷ []) ≡ record { register = at; part = part_in at m }
held_at before m at is =
    held_is before m ∙ ap (λ (n : ℕ). record { register = n; part = part_in n m }) is

held_all : (phases : List Meaning) → held_of phases
    ≡ record { register = register phases; part = of_last (part_in (register phases)) Fresh phases }
unfolding held_of
held_all phases = refl

-- what is kept behind one more byte, where the first of the phase is at register `from`
goes_on : (none : Part) → ((q : Packet) → next_row none none q ≡ none)
    → (from : ℕ) (bytes : List Packet) (p : Packet)
    → moved none ((from + length bytes) % 64) (row_of none ((from + length bytes) % 64) bytes) p
    ≡ record {
      register = (from + length (bytes ++ p ∷ [])) % 64;
      part = row_of none ((from + length (bytes ++ p ∷ [])) % 64) (bytes ++ p ∷ []);
    }
goes_on none stays from bytes p =
    let at = (from + length bytes) % 64 in
    let next : (from + length (bytes ++ p ∷ [])) % 64 ≡ (at + 1) % 64 = one_further from bytes p in
    let row : row_of none ((from + length (bytes ++ p ∷ [])) % 64) (bytes ++ p ∷ [])
    ≡ next_part none at (row_of none at bytes) p =
    ap (λ (n : ℕ). row_of none n (bytes ++ p ∷ [])) next
    ∙ row_more none stays at bytes p (register_below (from + length bytes)) in
    λ i. record { register = sym next i; part = sym row i }

-- one more byte that is written
pub write_known : (held new : Held) (before : List Meaning) (bytes : List Packet) (p : Packet)
    (into : List Out) → held ≡ held_of (before ++ Writes bytes ∷ [])
    → new ≡ put_by held.register held.part p → into ≡ put_gives held.register held.part p
    → (new ≡ held_of (before ++ Writes (bytes ++ p ∷ []) ∷ []))
    × (step before (Writes (bytes ++ p ∷ [])) ≡ step before (Writes bytes) ++ into)
write_known held new before bytes p into is put gives = by bytes is
  where
    -- behind the pointer byte it doesn't matter whether there is a row
    behind : (t : Bool) (at start number : ℕ)
        → (put_gives at (if t then Row start number else Apart) p
        ≡ byte_gives 1 3 0 at (if t then Row start number else Apart) p)
        × (put_by at (if t then Row start number else Apart) p
        ≡ moved Apart at (if t then Row start number else Apart) p)
    behind true at start number = (refl, refl)
    behind false at start number = (refl, refl)

    by : (bytes : List Packet) → held ≡ held_of (before ++ Writes bytes ∷ [])
        → (new ≡ held_of (before ++ Writes (bytes ++ p ∷ []) ∷ []))
        × (step before (Writes (bytes ++ p ∷ [])) ≡ step before (Writes bytes) ++ into)
    by [] known =
        let now = known ∙ held_is before (Writes []) in
        let same : (byte_of p + 0) % 64 ≡ byte_of p % 64 = omega arith in (
          put ∙ (λ i. put_by (now i).register (now i).part p)
              ∙ (λ i. record {
                register = byte_of p % 64;
                part = sym (row_empty Apart (byte_of p % 64)) i;
              })
              ∙ sym (held_at before (Writes (p ∷ [])) (byte_of p % 64)
              (register_sets before (Writes (p ∷ [])) refl ∙ same)),
          sym (gives ∙ (λ i. put_gives (now i).register (now i).part p)),
        )
    by (f ∷ bytes) known =
        let at = (byte_of f + length bytes) % 64 in
        let outs = byte_outs 1 3 0 (byte_of f) in
        let now : held ≡ record { register = at; part = row_of Apart at bytes } =
        known ∙ held_at before (Writes (f ∷ bytes)) at
        (register_sets before (Writes (f ∷ bytes)) refl) in
        let does =
        behind (in_row at (length bytes)) at (start_of (last_bytes at bytes))
        (collected 0 (last_bytes at bytes)) in (
          put ∙ (λ i. put_by (now i).register (now i).part p) ∙ does.1
              ∙ goes_on Apart (λ q. refl) (byte_of f) bytes p
              ∙ sym (held_at before (Writes (f ∷ bytes ++ p ∷ []))
              ((byte_of f + length (bytes ++ p ∷ [])) % 64)
              (register_sets before (Writes (f ∷ bytes ++ p ∷ [])) refl)),
          ap (λ (l : List Out). byte_note 0 f (byte_of f % 64) 0 ∷ l) (along_push outs bytes p
              ∙ ap (λ (l : List Out). along outs bytes ++ l)
              (sym (gives ∙ (λ i. put_gives (now i).register (now i).part p) ∙ does.0
              ∙ byte_is Apart (λ class q. refl) 3 bytes p 1 0 (byte_of f)))),
        )

-- one more byte that is read
pub read_known : (held new : Held) (before : List Meaning) (bytes : List Packet) (p : Packet)
    (into : List Out) → held ≡ held_of (before ++ Reads bytes ∷ [])
    → new ≡ moved Fresh held.register held.part p
    → into ≡ byte_gives 2 4 1 held.register held.part p
    → (new ≡ held_of (before ++ Reads (bytes ++ p ∷ []) ∷ []))
    × (step before (Reads (bytes ++ p ∷ [])) ≡ step before (Reads bytes) ++ into)
read_known held new before bytes p into is put gives =
    let from = register before in
    let at = (from + length bytes) % 64 in
    let outs = byte_outs 2 4 1 from in
    let now : held ≡ record { register = at; part = row_of Fresh at bytes } =
    is ∙ held_at before (Reads bytes) at (register_keeps before (Reads bytes) refl) in (
      put ∙ (λ i. moved Fresh (now i).register (now i).part p)
          ∙ goes_on Fresh (λ q. refl) from bytes p
          ∙ sym (held_at before (Reads (bytes ++ p ∷ [])) ((from + length (bytes ++ p ∷ [])) % 64)
          (register_keeps before (Reads (bytes ++ p ∷ [])) refl)),
      along_push outs bytes p ∙ ap (λ (l : List Out). along outs bytes ++ l)
          (sym (gives ∙ (λ i. byte_gives 2 4 1 (now i).register (now i).part p)
          ∙ byte_is Fresh (λ class q. refl) 4 bytes p 2 1 from)),
    )

-- phases without bytes
opened_both : (held : Held) (before : List Meaning) → held ≡ held_of (before ++ Nothing ∷ [])
    → (held ≡ held_of (before ++ Writes [] ∷ [])) × (held ≡ held_of (before ++ Reads [] ∷ []))
opened_both held before is =
    let at = (register before + 0) % 64 in
    let none : held ≡ record { register = at; part = Fresh } =
    is ∙ held_at before Nothing at (register_keeps before Nothing refl) in (
      none ∙ sym (held_at before (Writes []) at (register_keeps before (Writes []) refl)),
      none ∙ (λ i. record { register = at; part = sym (row_empty Fresh at) i })
          ∙ sym (held_at before (Reads []) at (register_keeps before (Reads []) refl)),
    )

pub begin_known : (held new : Held) (phases : List Meaning) → held ≡ held_of phases
    → new ≡ record { register = held.register; part = Fresh }
    → new ≡ held_of (phases ++ Nothing ∷ [])
begin_known held new phases is put =
    put ∙ (λ i. record {
      register =
          (ap (λ (h : Held). h.register) (is ∙ held_all phases) ∙ sym (register_same phases)) i;
      part = Fresh;
    })
    ∙ sym (held_at phases Nothing ((register phases + 0) % 64) (register_keeps phases Nothing refl))

pub reset_known : (new : Held) (before : List Meaning) → new ≡ record { register = 0; part = Fresh }
    → new ≡ held_of (before ++ Reset ∷ [])
reset_known new before is = is ∙ sym (held_at before Reset 0 (register_sets before Reset refl))

pub new_known : (held : Held) → held ≡ record { register = 0; part = Fresh } → held ≡ held_of []
unfolding held_of
new_known held is = is

pub knows_opened : (device : Clock) (before : List Meaning) → Knows device (before ++ Nothing ∷ [])
    → Knows device (before ++ Writes [] ∷ []) × Knows device (before ++ Reads [] ∷ [])
knows_opened device before is = opened_both device.held before is
