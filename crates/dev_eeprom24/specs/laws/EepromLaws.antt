-- What holds of what an EEPROM gives.
use Rattle.std.proofs.Common.{◌≡◌, ℕ, zero, suc, ◌+◌, ◌%◌, ◌≤◌, Bool, true, false, if◌then◌else◌}
use Rattle.std.proofs.Common.{inl, inr, List, [], ◌∷◌, ◌++◌, length, take, drop, refl, sym, ◌∙◌, ap}
use Rattle.std.proofs.Common.{subst, append_assoc, arith, length-append}
use Rattle.std.specs.Prelude.{nat_le}
use Rattle.std.specs.List.{flat_map, enumerate_from}
use Rattle.std.proofs.lemmas.Bool.{cases_lt}
use Rattle.std.proofs.lemmas.Bool.Decides.{nat_tests}
use Rattle.std.proofs.lemmas.List.{append-nil, take-append-le, drop-append-le}
use Rattle.std.proofs.lemmas.Grind.{flat_map-append}
use Rattle.la_base.specs.declared.wires.Out.{Out}
use Rattle.la_base.specs.declared.wires.Packet.{Packet}
use Rattle.decoder_core.specs.Promises.{NotesFrom, PacketsOn}
use Rattle.la_base.specs.declared.wires.Wire.TheVariants.{Nothing as NoWire, I2c as I2cWire}
use Rattle.decoder_core.specs.laws.OutLaws.{PacketsOn-append}
use Rattle.i2c_phases.specs.laws.DeviceLaws.{phased_promises}
use Rattle.packet_walks.specs.Outputs.{PacketOuts}
use Rattle.i2c_phases.specs.Phases.{Meaning, Nothing, Writes, Reads, Reset}
use Rattle.i2c_phases.specs.Devices.{Adds, ByByte, Each, FewFrom, GivesByByte, GivesNoPackets}
use Rattle.i2c_phases.specs.Devices.{phased}
use Rattle.i2c_phases.specs.laws.PhaseLaws.{by_weaker, each_push}
use Rattle.i2c_phases.specs.laws.ByteLaws.{starts_later}
use Rattle.dev_eeprom24.specs.declared.chip.Chip.{Chip}
use Rattle.dev_eeprom24.specs.Eeprom.{address_len, number_of, has_word, word_of, data_of, word_note}
use Rattle.dev_eeprom24.specs.Eeprom.{write_outs, read_outs, phase_outs, pointer, step, eeprom_outs}

numbered : (n : ℕ) (xs : List Packet) (x : Packet)
    → enumerate_from n (xs ++ x ∷ []) ≡ enumerate_from n xs ++ (n + length xs, x) ∷ []
numbered n [] x = let e : n ≡ n + 0 = omega arith in ap (λ (k : ℕ). (k, x) ∷ []) e
numbered n (y ∷ xs) x =
    let e : (n + 1) + length xs ≡ n + length (y ∷ xs) = omega arith in
    ap (λ (l : List (ℕ × Packet)). (n, y) ∷ l)
    (numbered (n + 1) xs x ∙ ap (λ (k : ℕ). enumerate_from (n + 1) xs ++ (k, x) ∷ []) e)

-- one item more has the next number
pub numbered_all : (xs : List Packet) (x : Packet)
    → enumerate_from 0 (xs ++ x ∷ []) ≡ enumerate_from 0 xs ++ (length xs, x) ∷ []
numbered_all xs x = let e : 0 + length xs ≡ length xs = omega arith in
    numbered 0 xs x ∙ ap (λ (k : ℕ). enumerate_from 0 xs ++ (k, x) ∷ []) e

-- a few outputs, whose notes start there or later
abbrev Later : ℕ → List Out → Type 0
Later floor new = (length new ≤ 2) × NotesFrom floor new

abbrev Behind : ℕ → Packet → Type 0
Behind floor packet = floor ≤ packet.start

each_take : (Q : Packet → Type 0) (k : ℕ) (xs : List Packet) → Each Q xs → Each Q (take k xs)
each_take Q zero xs all = tt
each_take Q (suc k) [] all = tt
each_take Q (suc k) (x ∷ xs) all = (all.0, each_take Q k xs all.1)

module _ (o : Chip) where
  pub read_grows : (from : ℕ) (bytes : List Packet) (byte : Packet)
      → flat_map (read_outs o from) (enumerate_from 0 (bytes ++ byte ∷ []))
      ≡ flat_map (read_outs o from) (enumerate_from 0 bytes)
      ++ read_outs o from (length bytes, byte)
  read_grows from bytes byte =
      ap (flat_map (read_outs o from)) (numbered_all bytes byte)
      ∙ flat_map-append (read_outs o from) (enumerate_from 0 bytes) ((length bytes, byte) ∷ [])

  -- where the word address is whole, one more byte is data
  pub data_grows : (from : ℕ) (bytes : List Packet) (byte : Packet)
      → address_len o.size ≤ length bytes → phase_outs o from (Writes (bytes ++ byte ∷ []))
      ≡ phase_outs o from (Writes bytes)
      ++ write_outs o (word_of o bytes) (length (data_of o bytes), byte)
  data_grows from bytes byte low =
      let k = address_len o.size in
      let w = word_of o bytes in
      let longer : k ≤ length (bytes ++ byte ∷ []) =
      omega (arith, low, length-append bytes (byte ∷ [])) in
      let had : has_word o bytes ≡ true = grind (arith, nat_tests) in
      let has : has_word o (bytes ++ byte ∷ []) ≡ true = grind (arith, nat_tests) in
      let front : take k (bytes ++ byte ∷ []) ≡ take k bytes =
      take-append-le k bytes (byte ∷ []) low in
      let rest : drop k (bytes ++ byte ∷ []) ≡ drop k bytes ++ byte ∷ [] =
      drop-append-le k bytes (byte ∷ []) low in
      let last : ℕ × Packet = (length (drop k bytes), byte) in
      let same_word : word_of o (bytes ++ byte ∷ []) ≡ w =
      ap (λ (l : List Packet). number_of l % o.size) front in
      let more : flat_map (write_outs o w) (enumerate_from 0 (drop k bytes ++ byte ∷ []))
      ≡ flat_map (write_outs o w) (enumerate_from 0 (drop k bytes)) ++ write_outs o w last =
      ap (flat_map (write_outs o w)) (numbered_all (drop k bytes) byte)
      ∙ flat_map-append (write_outs o w) (enumerate_from 0 (drop k bytes)) (last ∷ []) in
      let now : phase_outs o from (Writes (bytes ++ byte ∷ []))
      ≡ word_note (take k bytes) w
      ++ flat_map (write_outs o w) (enumerate_from 0 (drop k bytes ++ byte ∷ [])) =
      ap (λ (t : Bool). if t then word_note (take k (bytes ++ byte ∷ []))
      (word_of o (bytes ++ byte ∷ [])) ++ flat_map
      (write_outs o (word_of o (bytes ++ byte ∷ [])))
      (enumerate_from 0 (drop k (bytes ++ byte ∷ []))) else []) has
      ∙ (λ i. word_note (front i) (same_word i)
      ++ flat_map (write_outs o (same_word i)) (enumerate_from 0 (rest i))) in
      let before : phase_outs o from (Writes bytes)
      ≡ word_note (take k bytes) w
      ++ flat_map (write_outs o w) (enumerate_from 0 (drop k bytes)) =
      ap (λ (t : Bool). if t then word_note (take k bytes) w
      ++ flat_map (write_outs o w) (enumerate_from 0 (drop k bytes)) else []) had in
      now ∙ ap (λ (l : List Out). word_note (take k bytes) w ++ l) more
      ∙ sym (append_assoc (word_note (take k bytes) w)
      (flat_map (write_outs o w) (enumerate_from 0 (drop k bytes))) (write_outs o w last))
      ∙ ap (λ (l : List Out). l ++ write_outs o w last) (sym before)

module _ (o : Chip) (floor : ℕ) where
  one_word : (bytes : List Packet) (w : ℕ) → length (word_note bytes w) ≤ 1
  one_word [] w = omega arith
  one_word (a ∷ []) w = omega arith
  one_word (a ∷ b ∷ bytes) w = omega arith

  word_later : (bytes : List Packet) (w : ℕ) → Each (Behind floor) bytes
      → NotesFrom floor (word_note bytes w)
  word_later [] w all = tt
  word_later (a ∷ []) w all = (starts_later floor a all.0, tt)
  word_later (a ∷ b ∷ bytes) w all =
      let first = all.0 in
      let next = all.1.0 in
      let order = b.in_order in
      (omega (arith, first, next, order), tt)

  some_len : (t : Bool) → 1 ≤ (if t then 1 else 2)
  some_len true = omega arith
  some_len false = omega arith

  some : 1 ≤ address_len o.size
  some = some_len (nat_le o.size 256)

  one_read : (from : ℕ) (bytes : List Packet) (byte : Packet) → floor ≤ byte.start
      → Adds (Later floor) (flat_map (read_outs o from) (enumerate_from 0 bytes))
      (flat_map (read_outs o from) (enumerate_from 0 (bytes ++ byte ∷ [])))
  one_read from bytes byte here = (
    read_outs o from (length bytes, byte),
    read_grows o from bytes byte,
    (omega arith, (starts_later floor byte here, tt)),
  )

  more_data : (from : ℕ) (bytes : List Packet) (byte : Packet) → address_len o.size ≤ length bytes
      → floor ≤ byte.start → Adds (Later floor) (phase_outs o from (Writes bytes))
      (phase_outs o from (Writes (bytes ++ byte ∷ [])))
  more_data from bytes byte low here = (
    write_outs o (word_of o bytes) (length (data_of o bytes), byte),
    data_grows o from bytes byte
        low,
    (omega arith, (starts_later floor byte here, tt)),
  )

  nothing_left : (k : ℕ) (xs : List Packet) → length xs ≤ k → drop k xs ≡ []
  nothing_left zero [] low = refl
  nothing_left zero (x ∷ xs) low = absurd (omega (arith, low))
  nothing_left (suc k) [] low = refl
  nothing_left (suc k) (x ∷ xs) low = nothing_left k xs (omega (arith, low))

  -- where it isn't, one more byte may make it whole
  more_word : (from : ℕ) (bytes : List Packet) (byte : Packet)
      → length bytes + 1 ≤ address_len o.size → Each (Behind floor) bytes → floor ≤ byte.start
      → Adds (Later floor) (phase_outs o from (Writes bytes))
      (phase_outs o from (Writes (bytes ++ byte ∷ [])))
  more_word from bytes byte short all_behind here =
      let k = address_len o.size in
      let all = bytes ++ byte ∷ [] in
      let w = word_of o all in
      let had : has_word o bytes ≡ false = grind (arith, nat_tests) in
      let before : phase_outs o from (Writes bytes) ≡ [] =
      ap (λ (t : Bool). if t then word_note (take k bytes) (word_of o bytes)
      ++ flat_map (write_outs o (word_of o bytes)) (enumerate_from 0 (drop k bytes)) else [])
      had in
      let none : drop k all ≡ [] =
      nothing_left k all (omega (arith, short, length-append bytes (byte ∷ []))) in
      subst (λ (l : List Out). Adds (Later floor) l (phase_outs o from (Writes all))) (sym before)
      (by (has_word o all) none)
    where
      by : (t : Bool) → drop (address_len o.size) (bytes ++ byte ∷ []) ≡ []
          → Adds (Later floor) []
          (if t then word_note (take (address_len o.size) (bytes ++ byte ∷ []))
          (word_of o (bytes ++ byte ∷ [])) ++ flat_map
          (write_outs o (word_of o (bytes ++ byte ∷ [])))
          (enumerate_from 0 (drop (address_len o.size) (bytes ++ byte ∷ []))) else [])
      by true none =
          let note =
          word_note (take (address_len o.size) (bytes ++ byte ∷ []))
          (word_of o (bytes ++ byte ∷ [])) in
          let one =
          one_word (take (address_len o.size) (bytes ++ byte ∷ []))
          (word_of o (bytes ++ byte ∷ [])) in (
            note,
            ap
                (λ (l : List Packet). note
                ++ flat_map (write_outs o (word_of o (bytes ++ byte ∷ [])))
                (enumerate_from 0 l)) none ∙ append-nil note,
            (
              omega (arith, one),
              word_later (take (address_len o.size) (bytes ++ byte ∷ []))
                  (word_of o (bytes ++ byte ∷ []))
                  (each_take (Behind floor) (address_len o.size) (bytes ++ byte ∷ [])
                  (each_push (Behind floor) bytes byte all_behind here)),
            ),
          )
      by false none = ([], refl, (omega arith, tt))

  no_word : phase_outs o 0 (Writes []) ≡ []
  no_word = let low = some in let no : has_word o [] ≡ false = grind (arith, nat_tests) in
      ap (λ (t : Bool). if t then word_note (take (address_len o.size) []) (word_of o [])
      ++ flat_map (write_outs o (word_of o [])) (enumerate_from 0 (data_of o [])) else []) no

  by_byte : (before : List Meaning) → ByByte (Later floor) (Behind floor) (step o before)
  by_byte before = record {
    none = (omega arith, tt);
    nothing = refl;
    reset = refl;
    no_write = no_word;
    no_read = refl;
    write = λ bytes byte all here. elim (cases_lt (length bytes) (address_len o.size)) [
      | inl less ↦ more_word (pointer o before) bytes byte (omega (arith, less)) all here
      | inr low ↦ more_data (pointer o before) bytes byte low here
    ];
    read = λ bytes byte all here. one_read (pointer o before) bytes byte here;
  }

module _ (o : Chip) where
  reads_on : (from : ℕ) (parts : List (ℕ × Packet))
      → PacketsOn NoWire (flat_map (read_outs o from) parts)
  reads_on from [] = tt
  reads_on from (part ∷ parts) = reads_on from parts

  writes_on : (w : ℕ) (parts : List (ℕ × Packet))
      → PacketsOn NoWire (flat_map (write_outs o w) parts)
  writes_on w [] = tt
  writes_on w (part ∷ parts) = writes_on w parts

  word_on : (bytes : List Packet) (w : ℕ) → PacketsOn NoWire (word_note bytes w)
  word_on [] w = tt
  word_on (a ∷ []) w = tt
  word_on (a ∷ b ∷ bytes) w = tt

  phase_on : (from : ℕ) (m : Meaning) → PacketsOn NoWire (phase_outs o from m)
  phase_on from Nothing = tt
  phase_on from Reset = tt
  phase_on from (Reads bytes) = reads_on from (enumerate_from 0 bytes)
  phase_on from (Writes bytes) = by (has_word o bytes)
    where
      by : (t : Bool) → PacketsOn NoWire
          (if t then word_note (take (address_len o.size) bytes) (word_of o bytes)
          ++ flat_map (write_outs o (word_of o bytes)) (enumerate_from 0 (data_of o bytes)) else [])
      by true =
          PacketsOn-append NoWire (word_note (take (address_len o.size) bytes) (word_of o bytes))
          (flat_map (write_outs o (word_of o bytes)) (enumerate_from 0 (data_of o bytes)))
          (word_on (take (address_len o.size) bytes) (word_of o bytes))
          (writes_on (word_of o bytes) (enumerate_from 0 (data_of o bytes)))
      by false = tt

  pub eeprom_no_packets : GivesNoPackets (step o)
  eeprom_no_packets before m = phase_on (pointer o before) m

  few_later : (floor : ℕ) (l : List Out) → Later floor l → FewFrom floor l
  few_later floor l later = let few = later.0 in (omega (arith, few), later.1)

  pub eeprom_by_byte : GivesByByte (step o)
  eeprom_by_byte floor before =
      by_weaker (Later floor) (FewFrom floor) (Behind floor) (step o before) (few_later floor)
      (by_byte o floor before)

  -- what all packets give keeps the laws of every device
  pub eeprom_promises : PacketOuts I2cWire NoWire (eeprom_outs o)
  unfolding eeprom_outs
  eeprom_promises = phased_promises (step o) eeprom_no_packets (80 + o.addr) o.resets eeprom_by_byte

  pub outs_are : (packets : List Packet)
      → phased (80 + o.addr) o.resets (step o) packets ≡ eeprom_outs o packets
  unfolding eeprom_outs
  outs_are packets = refl
