-- What an LM75 knows, behind one more byte.
use Rattle.std.proofs.Common.{◌≡◌, ℕ, ◌%◌, true, false, List, [], ◌∷◌, ◌++◌, refl, sym, ◌∙◌, ap}
use Rattle.la_base.specs.declared.wires.Out.{Out}
use Rattle.la_base.specs.declared.wires.Packet.{Packet}
use Rattle.i2c_phases.specs.Phases.{Meaning, Nothing, Writes, Reads, Reset, byte_of}
use Rattle.i2c_phases.specs.Bytes.{byte_note}
use Rattle.i2c_phases.specs.Pointers.{of_last, points}
use Rattle.i2c_phases.specs.laws.PointerLaws.{of_last_is, set_fails, set_passes}
use Rattle.dev_lm75.specs.declared.chip.Chip.{Chip}
use Rattle.dev_lm75.specs.declared.held.Part.{Part}
use Rattle.dev_lm75.specs.declared.held.Part.TheVariants.{Fresh, Even}
use Rattle.dev_lm75.specs.declared.held.Held.{Held}
use Rattle.dev_lm75.specs.declared.held.Lm75.{Lm75}
use Rattle.dev_lm75.specs.Thermometer.{pointer, read_outs, set_to, step, write_outs}
use Rattle.dev_lm75.specs.laws.Held.{Knows, get_gives, held_of, left_of, next_part, part_in, put_by}
use Rattle.dev_lm75.specs.laws.Held.{put_gives, set_gives}
use Rattle.dev_lm75.specs.laws.ByteLaws.{left_more, none_written, read_more, write_more}

-- the numbers of an LM75
abbrev pub chip_of : Lm75 → Chip
chip_of device = device.chip

pub one_lm75 : (one other : Lm75) (phases : List Meaning) → chip_of one ≡ chip_of other
    → Knows one phases → Knows other phases → one ≡ other
one_lm75 one other phases same knows also = let held : one.held ≡ other.held = knows ∙ sym also in
    λ i. record { chip = same i; held = held i }

pointer_sets : (before : List Meaning) (m : Meaning) → points m ≡ true
    → pointer (before ++ m ∷ []) ≡ set_to m
pointer_sets before m is = set_passes points set_to before m is

pointer_keeps : (before : List Meaning) (m : Meaning) → points m ≡ false
    → pointer (before ++ m ∷ []) ≡ pointer before
pointer_keeps before m is = set_fails points set_to before m is

held_is : (before : List Meaning) (m : Meaning)
    → held_of (before ++ m ∷ []) ≡ record { pointer = pointer (before ++ m ∷ []); part = part_in m }
unfolding held_of
held_is before m =
    ap (λ (part : Part). record { pointer = pointer (before ++ m ∷ []); part = part })
    (of_last_is part_in Fresh before m)

held_all : (phases : List Meaning)
    → held_of phases ≡ record { pointer = pointer phases; part = of_last part_in Fresh phases }
unfolding held_of
held_all phases = refl

-- one more byte that is written
pub write_known : (held new : Held) (before : List Meaning) (bytes : List Packet) (p : Packet)
    (into : List Out) → held ≡ held_of (before ++ Writes bytes ∷ [])
    → new ≡ put_by held.pointer held.part p → into ≡ put_gives held.pointer held.part p
    → (new ≡ held_of (before ++ Writes (bytes ++ p ∷ []) ∷ []))
    × (step before (Writes (bytes ++ p ∷ [])) ≡ step before (Writes bytes) ++ into)
write_known held new before bytes p into is put gives =
    by bytes (is ∙ held_is before (Writes bytes))
  where
    behind : (bytes : List Packet) (at : ℕ)
        → (put_gives at (left_of Even bytes) p ≡ set_gives at (left_of Even bytes) p)
        × (put_by at (left_of Even bytes) p
        ≡ record { pointer = at; part = next_part Even (left_of Even bytes) p })
    behind [] at = (refl, refl)
    behind (x ∷ []) at = (refl, refl)
    behind (x ∷ y ∷ bytes) at = behind bytes at

    by : (bytes : List Packet) → held
        ≡ record { pointer = pointer (before ++ Writes bytes ∷ []); part = part_in (Writes bytes) }
        → (new ≡ held_of (before ++ Writes (bytes ++ p ∷ []) ∷ []))
        × (step before (Writes (bytes ++ p ∷ [])) ≡ step before (Writes bytes) ++ into)
    by [] known = (
      put ∙ (λ i. put_by (known i).pointer (known i).part p)
          ∙ (λ i. record {
            pointer = sym (pointer_sets before (Writes (p ∷ [])) refl) i;
            part = Even;
          }) ∙ sym (held_is before (Writes (p ∷ []))),
      ap (λ (l : List Out). byte_note 0 p (byte_of p % 4) 0 ∷ l) (none_written (byte_of p % 4))
          ∙ sym (gives ∙ (λ i. put_gives (known i).pointer (known i).part p)),
    )
    by (f ∷ bytes) known =
        let at = byte_of f % 4 in
        let now : held ≡ record { pointer = at; part = left_of Even bytes } =
        known ∙ (λ i. record {
          pointer = pointer_sets before (Writes (f ∷ bytes)) refl i;
          part = left_of Even bytes;
        }) in (
          put ∙ (λ i. put_by (now i).pointer (now i).part p) ∙ (behind bytes at).1
              ∙ (λ i. record {
                pointer = sym
                    (pointer_sets before (Writes (f ∷ bytes ++ p ∷ [])) refl) i;
                part =
                    sym (left_more Even (λ q. refl) bytes p) i;
              })
              ∙ sym (held_is before (Writes (f ∷ bytes ++ p ∷ []))),
          ap (λ (l : List Out). byte_note 0 f at 0 ∷ l)
              (write_more at bytes p ∙ sym
              (ap (λ (l : List Out). write_outs at bytes ++ l)
              (gives ∙ (λ i. put_gives (now i).pointer (now i).part p) ∙ (behind bytes at).0))),
        )

-- one more byte that is read
pub read_known : (held new : Held) (before : List Meaning) (bytes : List Packet) (p : Packet)
    (into : List Out) → held ≡ held_of (before ++ Reads bytes ∷ [])
    → new ≡ record { pointer = held.pointer; part = next_part Fresh held.part p }
    → into ≡ get_gives held.pointer held.part p
    → (new ≡ held_of (before ++ Reads (bytes ++ p ∷ []) ∷ []))
    × (step before (Reads (bytes ++ p ∷ [])) ≡ step before (Reads bytes) ++ into)
read_known held new before bytes p into is put gives =
    let at = pointer before in
    let now : held ≡ record { pointer = at; part = left_of Fresh bytes } =
    is ∙ held_is before (Reads bytes)
    ∙ (λ i. record {
      pointer = pointer_keeps before (Reads bytes) refl i;
      part = left_of Fresh bytes;
    }) in (
      put ∙ (λ i. record { pointer = (now i).pointer; part = next_part Fresh (now i).part p })
          ∙ (λ i. record {
            pointer = sym (pointer_keeps before (Reads (bytes ++ p ∷ [])) refl) i;
            part = sym (left_more Fresh (λ q. refl) bytes p) i;
          })
          ∙ sym (held_is before (Reads (bytes ++ p ∷ []))),
      read_more at bytes p ∙ sym
          (ap (λ (l : List Out). read_outs at bytes ++ l)
          (gives ∙ (λ i. get_gives (now i).pointer (now i).part p))),
    )

-- phases without bytes
opened_both : (held : Held) (before : List Meaning) → held ≡ held_of (before ++ Nothing ∷ [])
    → (held ≡ held_of (before ++ Writes [] ∷ [])) × (held ≡ held_of (before ++ Reads [] ∷ []))
opened_both held before is =
    let none : held ≡ record { pointer = pointer before; part = Fresh } =
    is ∙ held_is before Nothing
    ∙ (λ i. record { pointer = pointer_keeps before Nothing refl i; part = Fresh }) in (
      none ∙ (λ i. record { pointer = sym (pointer_keeps before (Writes []) refl) i; part = Fresh })
          ∙ sym (held_is before (Writes [])),
      none ∙ (λ i. record { pointer = sym (pointer_keeps before (Reads []) refl) i; part = Fresh })
          ∙ sym (held_is before (Reads [])),
    )

pub begin_known : (held new : Held) (phases : List Meaning) → held ≡ held_of phases
    → new ≡ record { pointer = held.pointer; part = Fresh } → new ≡ held_of (phases ++ Nothing ∷ [])
begin_known held new phases is put =
    put ∙ (λ i. record {
      pointer =
          (ap (λ (h : Held). h.pointer) (is ∙ held_all phases)
          ∙ sym (pointer_keeps phases Nothing refl))
          i;
      part = Fresh;
    }) ∙ sym (held_is phases Nothing)

pub reset_known : (new : Held) (before : List Meaning) → new ≡ record { pointer = 0; part = Fresh }
    → new ≡ held_of (before ++ Reset ∷ [])
reset_known new before is =
    is ∙ (λ i. record { pointer = sym (pointer_sets before Reset refl) i; part = Fresh })
    ∙ sym (held_is before Reset)

pub new_known : (held : Held) → held ≡ record { pointer = 0; part = Fresh } → held ≡ held_of []
unfolding held_of
new_known held is = is

pub knows_opened : (device : Lm75) (before : List Meaning) → Knows device (before ++ Nothing ∷ [])
    → Knows device (before ++ Writes [] ∷ []) × Knows device (before ++ Reads [] ∷ [])
knows_opened device before is = opened_both device.held before is
