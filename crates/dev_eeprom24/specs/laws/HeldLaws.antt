-- What an EEPROM keeps and gives, behind one more byte.
use Rattle.std.proofs.Common.{◌≡◌, ℕ, ◌+◌, ◌-◌, ◌*◌, ◌%◌, ◌≤◌, Bool, true, false, if◌then◌else◌}
use Rattle.std.proofs.Common.{List, [], ◌∷◌, ◌++◌, length, take, drop, refl, sym, ◌∙◌, ap, subst}
use Rattle.std.proofs.Common.{arith, length-append}
use Rattle.std.specs.Prelude.{nat_le}
use Rattle.std.specs.List.{flat_map, enumerate_from}
use Rattle.std.proofs.Math.Nat.{mod-add-mod}
use Rattle.std.proofs.lemmas.Bool.Decides.{nat_tests}
use Rattle.std.proofs.lemmas.List.{append-nil, take-append-le, drop-append-le}
use Rattle.la_base.specs.declared.wires.Out.{Out}
use Rattle.la_base.specs.declared.wires.Packet.{Packet}
use Rattle.dev_eeprom24.specs.declared.chip.Chip.{Chip}
use Rattle.dev_eeprom24.specs.declared.held.Word.{Word}
use Rattle.dev_eeprom24.specs.declared.held.Word.TheVariants.{Empty, Half, Whole}
use Rattle.dev_eeprom24.specs.declared.held.Held.{Held}
use Rattle.i2c_phases.specs.Phases.{Meaning, Writes, Reads, byte_of}
use Rattle.i2c_phases.specs.Pointers.{of_last, pointer_behind}
use Rattle.i2c_phases.specs.laws.PointerLaws.{behind_sets, behind_keeps, of_last_is}
use Rattle.dev_eeprom24.specs.Eeprom.{address_len, number_of, has_word, word_of, data_of, word_note}
use Rattle.dev_eeprom24.specs.Eeprom.{write_outs, phase_outs, pointer, sets, set_to, reads_of}
use Rattle.dev_eeprom24.specs.Eeprom.{in_page, step}
use Rattle.dev_eeprom24.specs.laws.Held.{half_of, word_known, word_in, started, put_by, put_gives}
use Rattle.dev_eeprom24.specs.laws.Held.{get_gives}
use Rattle.dev_eeprom24.specs.laws.EepromLaws.{data_grows, read_grows}

module _ (o : Chip) where
  -- the pointer behind one more phase
  pub pointer_sets : (before : List Meaning) (m : Meaning) → sets o m ≡ true
      → pointer o (before ++ m ∷ []) ≡ set_to o m % o.size
  pointer_sets before m is =
      ap (λ (n : ℕ). n % o.size) (behind_sets (sets o) (set_to o) (reads_of o) before m is)

  pub pointer_keeps : (before : List Meaning) (m : Meaning) → sets o m ≡ false
      → pointer o (before ++ m ∷ []) ≡ (pointer o before + reads_of o m) % o.size
  pointer_keeps before m is =
      ap (λ (n : ℕ). n % o.size) (behind_keeps (sets o) (set_to o) (reads_of o) before m is)
      ∙ sym (mod-add-mod (pointer_behind (sets o) (set_to o) (reads_of o) before) o.size
      (reads_of o m))

  pub pointer_same : (phases : List Meaning) → (pointer o phases + 0) % o.size ≡ pointer o phases
  pointer_same phases =
      let x = pointer_behind (sets o) (set_to o) (reads_of o) phases in
      let e : x + 0 ≡ x = omega arith in
      mod-add-mod x o.size 0 ∙ ap (λ (n : ℕ). n % o.size) e

  pub last_word_is : (before : List Meaning) (m : Meaning)
      → of_last (word_in o) Empty (before ++ m ∷ []) ≡ word_in o m
  last_word_is before m = of_last_is (word_in o) Empty before m

  -- one more byte that is read
  pub pointer_read : (before : List Meaning) (bytes : List Packet)
      → pointer o (before ++ Reads bytes ∷ []) ≡ (pointer o before + length bytes) % o.size
  pointer_read before bytes = pointer_keeps before (Reads bytes) refl

  pub read_keeps : (before : List Meaning) (bytes : List Packet) (byte : Packet)
      → pointer o (before ++ Reads (bytes ++ byte ∷ []) ∷ [])
      ≡ (pointer o (before ++ Reads bytes ∷ []) + 1) % o.size
  read_keeps before bytes byte =
      let n = length-append bytes (byte ∷ []) in
      let e : pointer o before + length (bytes ++ byte ∷ [])
      ≡ (pointer o before + length bytes) + 1 = omega (arith, n) in
      pointer_read before (bytes ++ byte ∷ []) ∙ ap (λ (k : ℕ). k % o.size) e
      ∙ sym (mod-add-mod (pointer o before + length bytes) o.size 1)
      ∙ ap (λ (k : ℕ). (k + 1) % o.size) (sym (pointer_read before bytes))

  pub read_gives : (before : List Meaning) (bytes : List Packet) (byte : Packet)
      → step o before (Reads (bytes ++ byte ∷ []))
      ≡ step o before (Reads bytes) ++ get_gives o (pointer o (before ++ Reads bytes ∷ [])) byte
  read_gives before bytes byte =
      read_grows o (pointer o before) bytes byte
      ∙ ap (λ (n : ℕ). phase_outs o (pointer o before) (Reads bytes) ++ get_gives o n byte)
      (sym (pointer_read before bytes))

  -- one more byte that is written
  abbrev pub kept : List Meaning → List Packet → Held
  kept before bytes =
      record { pointer = pointer o (before ++ Writes bytes ∷ []); word = word_known o bytes }

  abbrev Wrote : List Meaning → List Packet → Packet → Word → Type 0
  Wrote before bytes p word =
      (put_by o (pointer o (before ++ Writes bytes ∷ [])) word p ≡ kept before (bytes ++ p ∷ []))
      × (step o before (Writes (bytes ++ p ∷ []))
      ≡ step o before (Writes bytes) ++ put_gives o word p)

  -- by the length of a word address
  abbrev word_k : ℕ → List Packet → ℕ
  word_k k bytes = number_of (take k bytes) % o.size

  abbrev known_k : ℕ → List Packet → Word
  known_k k bytes =
      if nat_le k (length bytes) then Whole (word_k k bytes - word_k k bytes % o.page)
      ((word_k k bytes + length (drop k bytes)) % o.page) else half_of bytes

  abbrev outs_k : ℕ → List Packet → List Out
  outs_k k bytes =
      if nat_le k (length bytes) then word_note (take k bytes) (word_k k bytes)
      ++ flat_map (write_outs o (word_k k bytes)) (enumerate_from 0 (drop k bytes)) else []

  pointer_whole : (before : List Meaning) (bytes : List Packet) (w n : ℕ) → has_word o bytes ≡ true
      → word_of o bytes ≡ w → length (data_of o bytes) ≡ n
      → pointer o (before ++ Writes bytes ∷ []) ≡ (w - w % o.page + (w + n) % o.page) % o.size
  pointer_whole before bytes w n has w_is n_is =
      pointer_sets before (Writes bytes) has ∙ (λ i. in_page o (w_is i) (n_is i) % o.size)

  kept_whole : (before : List Meaning) (bytes : List Packet) (w n : ℕ) → has_word o bytes ≡ true
      → word_of o bytes ≡ w → length (data_of o bytes) ≡ n
      → kept before bytes
      ≡ record {
        pointer = (w - w % o.page + (w + n) % o.page) % o.size;
        word = Whole (w - w % o.page) ((w + n) % o.page);
      }
  kept_whole before bytes w n has w_is n_is =
      let p = pointer_whole before bytes w n has w_is n_is in
      let k : word_known o bytes ≡ Whole (w - w % o.page) ((w + n) % o.page) =
      ap (λ (t : Bool). if t then Whole (word_of o bytes - word_of o bytes % o.page)
      ((word_of o bytes + length (data_of o bytes)) % o.page) else half_of bytes) has
      ∙ (λ i. Whole (w_is i - w_is i % o.page) ((w_is i + n_is i) % o.page)) in
      λ i. record { pointer = p i; word = k i }

  -- a word address that has just become whole
  kept_started : (before : List Meaning) (bytes : List Packet) (w : ℕ) → has_word o bytes ≡ true
      → word_of o bytes ≡ w → length (data_of o bytes) ≡ 0 → started o w ≡ kept before bytes
  kept_started before bytes w has w_is n_is =
      let e : w ≡ w + 0 = omega arith in
      (λ i. record {
        pointer = (w - w % o.page + e i % o.page) % o.size;
        word = Whole (w - w % o.page) (e i % o.page);
      })
      ∙ sym (kept_whole before bytes w 0 has w_is n_is)

  more_whole : (before : List Meaning) (bytes : List Packet) (p : Packet)
      → address_len o.size ≤ length bytes → Wrote before bytes p (word_known o bytes)
  more_whole before bytes p low =
      let k = address_len o.size in
      let all = bytes ++ p ∷ [] in
      let w = word_of o bytes in
      let n = length (data_of o bytes) in
      let front = w - w % o.page in
      let had : has_word o bytes ≡ true = grind (arith, nat_tests) in
      let longer : k ≤ length all = omega (arith, low, length-append bytes (p ∷ [])) in
      let has : has_word o all ≡ true = grind (arith, nat_tests) in
      let w_is : word_of o all ≡ w =
      ap (λ (l : List Packet). number_of l % o.size) (take-append-le k bytes (p ∷ []) low) in
      let n_is : length (data_of o all) ≡ n + 1 =
      ap length (drop-append-le k bytes (p ∷ []) low) ∙ length-append (drop k bytes) (p ∷ []) in
      let next : ((w + n) % o.page + 1) % o.page ≡ (w + (n + 1)) % o.page =
      mod-add-mod (w + n) o.page 1
      ∙ (let e : (w + n) + 1 ≡ w + (n + 1) = omega arith in ap (λ (m : ℕ). m % o.page) e) in
      let word : word_known o bytes ≡ Whole front ((w + n) % o.page) =
      ap (λ (t : Bool). if t then Whole front ((w + n) % o.page) else half_of bytes) had in
      subst (Wrote before bytes p) (sym word) (
        (λ i. record { pointer = (front + next i) % o.size; word = Whole front (next i) })
            ∙ sym (kept_whole before all w (n + 1) has w_is n_is),
        data_grows o (pointer o before) bytes p low,
      )

  no_more : (n : ℕ) → 0 * 256 + n ≡ n
  no_more n = omega arith

  unset : (before : List Meaning) (bytes : List Packet) → has_word o bytes ≡ false
      → pointer o (before ++ Writes bytes ∷ []) ≡ (pointer o before + 0) % o.size
  unset before bytes none = pointer_keeps before (Writes bytes) none

  module _ (before : List Meaning) (p : Packet) where
    -- the one byte of a word address
    only_byte : nat_le o.size 256 ≡ true → Wrote before [] p (word_known o [])
    only_byte is =
        let k_is : address_len o.size ≡ 1 = ap (λ (t : Bool). if t then 1 else 2) is in
        let word : word_known o [] ≡ Empty = ap (λ (k : ℕ). known_k k []) k_is in
        let w = byte_of p % o.size in
        let has : has_word o (p ∷ []) ≡ true = ap (λ (k : ℕ). nat_le k 1) k_is in
        let number : word_of o (p ∷ []) ≡ w =
        ap (λ (k : ℕ). word_k k (p ∷ [])) k_is
        ∙ ap (λ (n : ℕ). n % o.size) (no_more (byte_of p)) in
        let rest_is : length (data_of o (p ∷ [])) ≡ 0 =
        ap (λ (k : ℕ). length (drop k (p ∷ []))) k_is in
        let at = pointer o (before ++ Writes [] ∷ []) in
        let old : step o before (Writes []) ≡ [] = ap (λ (k : ℕ). outs_k k []) k_is in
        let new : step o before (Writes (p ∷ [])) ≡ word_note (p ∷ []) w =
        ap (λ (k : ℕ). outs_k k (p ∷ [])) k_is ∙ append-nil
        (word_note (p ∷ []) (word_k 1 (p ∷ [])))
        ∙ ap (λ (n : ℕ). word_note (p ∷ []) (n % o.size)) (no_more (byte_of p)) in
        subst (Wrote before [] p) (sym word) (
          ap (λ (t : Bool). if t then started o w
              else (record { pointer = at; word = Half (byte_of p) p.start })) is
              ∙ kept_started before (p ∷ []) w has number rest_is,
          new ∙ sym (λ i. old i ++ (if is i then word_note (p ∷ []) w else [])),
        )

    -- the first of two
    first_byte : nat_le o.size 256 ≡ false → Wrote before [] p (word_known o [])
    first_byte is =
        let k_is : address_len o.size ≡ 2 = ap (λ (t : Bool). if t then 1 else 2) is in
        let word : word_known o [] ≡ Empty = ap (λ (k : ℕ). known_k k []) k_is in
        let half : word_known o (p ∷ []) ≡ Half (byte_of p) p.start =
        ap (λ (k : ℕ). known_k k (p ∷ [])) k_is in
        let had : has_word o [] ≡ false = ap (λ (k : ℕ). nat_le k 0) k_is in
        let has : has_word o (p ∷ []) ≡ false = ap (λ (k : ℕ). nat_le k 1) k_is in
        let at = pointer o (before ++ Writes [] ∷ []) in
        let same : at ≡ pointer o (before ++ Writes (p ∷ []) ∷ []) =
        unset before [] had ∙ sym (unset before (p ∷ []) has) in
        let old : step o before (Writes []) ≡ [] = ap (λ (k : ℕ). outs_k k []) k_is in
        let new : step o before (Writes (p ∷ [])) ≡ [] = ap (λ (k : ℕ). outs_k k (p ∷ [])) k_is in
        subst (Wrote before [] p) (sym word) (
          ap (λ (t : Bool). if t then started o (byte_of p % o.size)
              else (record { pointer = at; word = Half (byte_of p) p.start })) is
              ∙ (λ i. record { pointer = same i; word = sym half i }),
          new ∙ sym (λ i. old i ++ (if is i then word_note (p ∷ []) (byte_of p % o.size) else [])),
        )

    -- the second
    second_byte : (x : Packet) → nat_le o.size 256 ≡ false
        → Wrote before (x ∷ []) p (word_known o (x ∷ []))
    second_byte x is =
        let k_is : address_len o.size ≡ 2 = ap (λ (t : Bool). if t then 1 else 2) is in
        let both = x ∷ p ∷ [] in
        let word : word_known o (x ∷ []) ≡ Half (byte_of x) x.start =
        ap (λ (k : ℕ). known_k k (x ∷ [])) k_is in
        let w = (byte_of x * 256 + byte_of p) % o.size in
        let sum_is = ap (λ (n : ℕ). (n * 256 + byte_of p) % o.size) (no_more (byte_of x)) in
        let has : has_word o both ≡ true = ap (λ (k : ℕ). nat_le k 2) k_is in
        let number : word_of o both ≡ w = ap (λ (k : ℕ). word_k k both) k_is ∙ sum_is in
        let rest_is : length (data_of o both) ≡ 0 = ap (λ (k : ℕ). length (drop k both)) k_is in
        let old : step o before (Writes (x ∷ [])) ≡ [] = ap (λ (k : ℕ). outs_k k (x ∷ [])) k_is in
        let new : step o before (Writes both) ≡ word_note both w =
        ap (λ (k : ℕ). outs_k k both) k_is ∙ append-nil (word_note both (word_k 2 both))
        ∙ ap (word_note both) sum_is in
        subst (Wrote before (x ∷ []) p) (sym word) (
          kept_started before both w has number rest_is,
          new
              ∙ sym (ap (λ (l : List Out). l ++ word_note both w) old),
        )

  pub wrote : (before : List Meaning) (bytes : List Packet) (p : Packet)
      → Wrote before bytes p (word_known o bytes)
  wrote before [] p = by (nat_le o.size 256) refl
    where
      by : (t : Bool) → nat_le o.size 256 ≡ t → Wrote before [] p (word_known o [])
      by true is = only_byte before p is
      by false is = first_byte before p is
  wrote before (x ∷ []) p = by (nat_le o.size 256) refl
    where
      by : (t : Bool) → nat_le o.size 256 ≡ t → Wrote before (x ∷ []) p (word_known o (x ∷ []))
      by true is = let k_is : address_len o.size ≡ 1 = ap (λ (t : Bool). if t then 1 else 2) is in
          more_whole before (x ∷ []) p (omega (arith, k_is))
      by false is = second_byte before p x is
  wrote before (x ∷ y ∷ bytes) p = more_whole before (x ∷ y ∷ bytes) p (low (nat_le o.size 256))
    where
      low : (t : Bool) → (if t then 1 else 2) ≤ length (x ∷ y ∷ bytes)
      low true = omega arith
      low false = omega arith
