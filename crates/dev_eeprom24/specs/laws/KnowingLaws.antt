-- What an EEPROM knows.
use Rattle.std.proofs.Common.{◌≡◌, ◌+◌, ◌-◌, ◌%◌, Bool, true, false, List, [], ◌∷◌, ◌++◌, length}
use Rattle.std.proofs.Common.{refl, sym, ◌∙◌, ap, if◌then◌else◌}
use Rattle.std.specs.Prelude.{nat_le}
use Rattle.std.proofs.Math.Nat.{zero-mod}
use Rattle.la_base.specs.declared.wires.Packet.{Packet}
use Rattle.la_base.specs.declared.wires.Out.{Out}
use Rattle.i2c_phases.specs.Phases.{Meaning, Nothing, Writes, Reads, Reset}
use Rattle.i2c_phases.specs.Pointers.{of_last}
use Rattle.dev_eeprom24.specs.declared.chip.Chip.{Chip}
use Rattle.dev_eeprom24.specs.declared.held.Word.{Word}
use Rattle.dev_eeprom24.specs.declared.held.Word.TheVariants.{Empty, Whole}
use Rattle.dev_eeprom24.specs.declared.held.Held.{Held}
use Rattle.dev_eeprom24.specs.declared.held.Eeprom.{Eeprom}
use Rattle.dev_eeprom24.specs.Eeprom.{data_of, word_of, has_word, pointer, step}
use Rattle.dev_eeprom24.specs.laws.Held.{Knows, held_of, word_known, word_in, put_by, put_gives}
use Rattle.dev_eeprom24.specs.laws.Held.{get_gives}
use Rattle.dev_eeprom24.specs.laws.HeldLaws.{kept, last_word_is, pointer_keeps, pointer_same}
use Rattle.dev_eeprom24.specs.laws.HeldLaws.{pointer_sets, read_keeps, read_gives, wrote}

-- the numbers of an EEPROM
abbrev pub chip_of : Eeprom → Chip
chip_of device = device.chip

pub one_eeprom : (one other : Eeprom) (phases : List Meaning) → chip_of one ≡ chip_of other
    → Knows one phases → Knows other phases → one ≡ other
one_eeprom one other phases same knows also =
    let held : one.held ≡ other.held = knows ∙ (λ i. held_of (same i) phases) ∙ sym also in
    λ i. record { chip = same i; held = held i }

module _ (o : Chip) where
  pub held_is : (before : List Meaning) (m : Meaning)
      → held_of o (before ++ m ∷ [])
      ≡ record { pointer = pointer o (before ++ m ∷ []); word = word_in o m }
  unfolding held_of
  held_is before m =
      ap (λ (w : Word). record { pointer = pointer o (before ++ m ∷ []); word = w })
      (last_word_is o before m)

  held_open : (phases : List Meaning) → held_of o phases
      ≡ record { pointer = pointer o phases; word = of_last (word_in o) Empty phases }
  unfolding held_of
  held_open phases = refl

  pub held_none : held_of o [] ≡ record { pointer = 0 % o.size; word = Empty }
  unfolding held_of
  held_none = refl

  no_word : has_word o [] ≡ false
  no_word = by (nat_le o.size 256)
    where
      by : (t : Bool) → nat_le (if t then 1 else 2) 0 ≡ false
      by true = refl
      by false = refl

  pub new_known : (held : Held) → held ≡ record { pointer = 0; word = Empty } → held ≡ held_of o []
  new_known held is =
      is ∙ (λ i. record { pointer = sym (zero-mod o.size) i; word = Empty }) ∙ sym held_none

  -- phases without bytes
  opened_write : (before : List Meaning)
      → held_of o (before ++ Writes [] ∷ []) ≡ held_of o (before ++ Nothing ∷ [])
  opened_write before =
      held_is before (Writes [])
      ∙ (λ i. record {
        pointer =
            (pointer_keeps o before (Writes []) no_word ∙ sym (pointer_keeps o before Nothing refl))
            i;
        word = word_empty i;
      }) ∙ sym (held_is before Nothing)
    where
      word_empty : word_known o [] ≡ Empty
      word_empty =
          ap (λ (t : Bool). if t then Whole (word_of o [] - word_of o [] % o.page)
          ((word_of o [] + length (data_of o [])) % o.page) else Empty) no_word

  opened_read : (before : List Meaning)
      → held_of o (before ++ Reads [] ∷ []) ≡ held_of o (before ++ Nothing ∷ [])
  opened_read before =
      held_is before (Reads [])
      ∙ (λ i. record {
        pointer =
            (pointer_keeps o before (Reads []) refl ∙ sym (pointer_keeps o before Nothing refl))
            i;
        word = Empty;
      }) ∙ sym (held_is before Nothing)

  pub opened_both : (held : Held) (before : List Meaning)
      → held ≡ held_of o (before ++ Nothing ∷ [])
      → (held ≡ held_of o (before ++ Writes [] ∷ [])) × (held ≡ held_of o (before ++ Reads [] ∷ []))
  opened_both held before is = (is ∙ sym (opened_write before), is ∙ sym (opened_read before))

  -- one more byte that is written
  pub write_known : (held new : Held) (before : List Meaning) (bytes : List Packet) (p : Packet)
      (into : List Out) → held ≡ held_of o (before ++ Writes bytes ∷ [])
      → new ≡ put_by o held.pointer held.word p → into ≡ put_gives o held.word p
      → (new ≡ held_of o (before ++ Writes (bytes ++ p ∷ []) ∷ []))
      × (step o before (Writes (bytes ++ p ∷ [])) ≡ step o before (Writes bytes) ++ into)
  write_known held new before bytes p into is put gives =
      let known : held ≡ kept o before bytes = is ∙ held_is before (Writes bytes) in
      let w = wrote o before bytes p in (
        put ∙ (λ i. put_by o (known i).pointer (known i).word p) ∙ w.0
            ∙ sym (held_is before (Writes (bytes ++ p ∷ []))),
        w.1 ∙ sym
            (ap (λ (l : List Out). step o before (Writes bytes) ++ l)
            (gives ∙ (λ i. put_gives o (known i).word p))),
      )

  -- one more byte that is read
  pub read_known : (held new : Held) (before : List Meaning) (bytes : List Packet) (p : Packet)
      (into : List Out) → held ≡ held_of o (before ++ Reads bytes ∷ [])
      → new ≡ record { pointer = (held.pointer + 1) % o.size; word = held.word }
      → into ≡ get_gives o held.pointer p
      → (new ≡ held_of o (before ++ Reads (bytes ++ p ∷ []) ∷ []))
      × (step o before (Reads (bytes ++ p ∷ [])) ≡ step o before (Reads bytes) ++ into)
  read_known held new before bytes p into is put gives =
      let known = is ∙ held_is before (Reads bytes) in (
        put ∙ (λ i. record { pointer = ((known i).pointer + 1) % o.size; word = (known i).word })
            ∙ (λ i. record { pointer = sym (read_keeps o before bytes p) i; word = Empty })
            ∙ sym (held_is before (Reads (bytes ++ p ∷ []))),
        read_gives o before bytes p ∙ sym
            (ap (λ (l : List Out). step o before (Reads bytes) ++ l)
            (gives ∙ (λ i. get_gives o (known i).pointer p))),
      )

  pub reset_known : (new : Held) (before : List Meaning)
      → new ≡ record { pointer = 0; word = Empty } → new ≡ held_of o (before ++ Reset ∷ [])
  reset_known new before is =
      is ∙ (λ i. record {
        pointer = (sym (zero-mod o.size) ∙ sym (pointer_sets o before Reset refl))
            i;
        word = Empty;
      }) ∙ sym (held_is before Reset)

  pub begin_known : (held new : Held) (phases : List Meaning) → held ≡ held_of o phases
      → new ≡ record { pointer = held.pointer; word = Empty }
      → new ≡ held_of o (phases ++ Nothing ∷ [])
  begin_known held new phases is put =
      put ∙ (λ i. record {
        pointer =
            (ap (λ (h : Held). h.pointer) (is ∙ held_open phases) ∙ sym (pointer_same o phases)
            ∙ sym (pointer_keeps o phases Nothing refl)) i;
        word = Empty;
      }) ∙ sym (held_is phases Nothing)

pub knows_opened : (device : Eeprom) (before : List Meaning) → Knows device (before ++ Nothing ∷ [])
    → Knows device (before ++ Writes [] ∷ []) × Knows device (before ++ Reads [] ∷ [])
knows_opened device before is = opened_both device.chip device.held before is
