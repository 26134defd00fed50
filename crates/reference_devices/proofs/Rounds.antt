-- One round of each program's loop.
use Rattle.std.proofs.Common.{◌≡◌, ℕ, ◌+◌, ◌%◌, ◌<◌, Bool, true, false, if◌then◌else◌, List, [], ◌∷◌, ◌++◌, map, take, length, get_or, refl, sym, ◌∙◌, ap, append_assoc, length-take-le, arith}
use Rattle.std.specs.List.{flat_map, enumerate_from}
use Rattle.std.proofs.lemmas.List.{append-nil, map-append, take_more}
use Rattle.std.proofs.lemmas.Grind.{flat_map-append}
use Rattle.la_base.specs.declared.wires.Out.{Out}
use Rattle.la_base.specs.declared.wires.Packet.{Packet}
use Rattle.list_cuts.specs.Along.{along}
use Rattle.list_cuts.proofs.AlongLaws.{along_push}
use Rattle.i2c_phases.specs.Phases as phases
use Rattle.i2c_phases.specs.Phases.{phase_in}
use Rattle.i2c_phases.specs.Pointers.{points}
use Rattle.i2c_phases.specs.laws.PointerLaws.{set_fails, set_passes}
use Rattle.dev_ds1307.specs.Clock as clock
use Rattle.dev_ds1307.specs.laws.KnowingLaws.{register_keeps, register_sets}
use Rattle.dev_lm75.specs.Thermometer as thermometer
use Rattle.dev_eeprom24.specs.declared.chip.Chip.{Chip}
use Rattle.dev_eeprom24.specs.Eeprom.{pointer, reads_of, set_to, sets}
use Rattle.dev_eeprom24.specs.laws.EepromLaws.{numbered_all}
use Rattle.dev_eeprom24.specs.laws.HeldLaws.{pointer_keeps, pointer_sets}
use Rattle.packet_walks.specs.Transactions.{Device, from_first, closed_outs}
use Rattle.packet_walks.specs.laws.CutLaws.{ended_of, last_of, ended_stay, last_grows, ended_grow, last_begins}
use Rattle.dev_flash25.specs.Flash.{last_in}
use Rattle.dev_flash25.specs.laws.WordLaws.{last_more}
use Rattle.reference_devices.specs.declared.phases.Meaning.{Meaning}
use Rattle.reference_devices.specs.Meant.{clock_moved, lm75_moved, meant, moved}

module _ {X : Type 0} (xs : List X) (i : ℕ) (x : X) (within : i < length xs) (is : x ≡ get_or xs i x) where
  pub next_taken : take (i + 1) xs ≡ take i xs ++ x ∷ []
  next_taken = take_more xs i x within ∙ ap (λ (y : X). take i xs ++ y ∷ []) (sym is)

  taken_length : length (take i xs) ≡ i
  taken_length = length-take-le i xs (omega arith)

-- one phase more
pub pointer_more : (chip : Chip) (before : List phases.Meaning) (phase : phases.Meaning) → pointer chip (before ++ phase ∷ []) ≡ moved chip (pointer chip before) phase
pointer_more chip before phase = by (sets chip phase) refl
  where
    by : (t : Bool) → sets chip phase ≡ t → pointer chip (before ++ phase ∷ []) ≡ (if t then set_to chip phase % chip.size else (pointer chip before + reads_of chip phase) % chip.size)
    by true is = pointer_sets chip before phase is
    by false is = pointer_keeps chip before phase is

-- a pointer that each phase moves
module _ (pointer_of : List phases.Meaning → ℕ) (moves_to : ℕ → phases.Meaning → ℕ) (more : (before : List phases.Meaning) (phase : phases.Meaning) → pointer_of (before ++ phase ∷ []) ≡ moves_to (pointer_of before) phase) where
  moved_round : (before : List Meaning) (i : ℕ) (phase : Meaning) → i < length before → phase ≡ get_or before i phase → (at now : ℕ) → at ≡ pointer_of (map meant (take i before)) → now ≡ moves_to at (meant phase)
      → now ≡ pointer_of (map meant (take (i + 1) before))
  moved_round before i phase within is at now so_far move =
      move ∙ ap (λ (n : ℕ). moves_to n (meant phase)) so_far ∙ sym (more (map meant (take i before)) (meant phase))
      ∙ sym (ap (λ (l : List Meaning). pointer_of (map meant l)) (next_taken before i phase within is) ∙ ap pointer_of (map-append meant (take i before) (phase ∷ [])))

pub pointer_round : (chip : Chip) (before : List Meaning) (i : ℕ) (phase : Meaning) → i < length before → phase ≡ get_or before i phase → (at now : ℕ) → at ≡ pointer chip (map meant (take i before)) → now ≡ moved chip at (meant phase)
    → now ≡ pointer chip (map meant (take (i + 1) before))
pointer_round chip before i phase within is at now so_far move = moved_round (pointer chip) (moved chip) (pointer_more chip) before i phase within is at now so_far move

clock_more : (before : List phases.Meaning) (phase : phases.Meaning) → clock.register (before ++ phase ∷ []) ≡ clock_moved (clock.register before) phase
clock_more before phase = by (points phase) refl
  where
    by : (t : Bool) → points phase ≡ t → clock.register (before ++ phase ∷ []) ≡ (if t then clock.set_to phase % 64 else (clock.register before + clock.moves phase) % 64)
    by true is = register_sets before phase is
    by false is = register_keeps before phase is

pub clock_round : (before : List Meaning) (i : ℕ) (phase : Meaning) → i < length before → phase ≡ get_or before i phase → (at now : ℕ) → at ≡ clock.register (map meant (take i before)) → now ≡ clock_moved at (meant phase)
    → now ≡ clock.register (map meant (take (i + 1) before))
clock_round before i phase within is at now so_far move = moved_round clock.register clock_moved clock_more before i phase within is at now so_far move

lm75_more : (before : List phases.Meaning) (phase : phases.Meaning) → thermometer.pointer (before ++ phase ∷ []) ≡ lm75_moved (thermometer.pointer before) phase
lm75_more before phase = by (points phase) refl
  where
    by : (t : Bool) → points phase ≡ t → thermometer.pointer (before ++ phase ∷ []) ≡ (if t then thermometer.set_to phase else thermometer.pointer before)
    by true is = set_passes points thermometer.set_to before phase is
    by false is = set_fails points thermometer.set_to before phase is

pub lm75_round : (before : List Meaning) (i : ℕ) (phase : Meaning) → i < length before → phase ≡ get_or before i phase → (at now : ℕ) → at ≡ thermometer.pointer (map meant (take i before)) → now ≡ lm75_moved at (meant phase)
    → now ≡ thermometer.pointer (map meant (take (i + 1) before))
lm75_round before i phase within is at now so_far move = moved_round thermometer.pointer lm75_moved lm75_more before i phase within is at now so_far move

-- one byte more, which gives two outputs
pub bytes_round : (f : ℕ × Packet → List Out) (bytes : List Packet) (i : ℕ) (byte : Packet) → i < length bytes → byte ≡ get_or bytes i byte → (old now next : List Out) (one other : Out)
    → now ≡ old ++ flat_map f (enumerate_from 0 (take i bytes)) → next ≡ (now ++ one ∷ []) ++ other ∷ [] → one ∷ other ∷ [] ≡ f (i, byte)
    → next ≡ old ++ flat_map f (enumerate_from 0 (take (i + 1) bytes))
bytes_round f bytes i byte within is old now next one other so_far gave gives =
    let front = take i bytes in
    let more : flat_map f (enumerate_from 0 (take (i + 1) bytes)) ≡ flat_map f (enumerate_from 0 front) ++ f (i, byte) =
    ap (λ (l : List Packet). flat_map f (enumerate_from 0 l)) (next_taken bytes i byte within is) ∙ ap (flat_map f) (numbered_all front byte) ∙ flat_map-append f (enumerate_from 0 front) ((length front, byte) ∷ [])
    ∙ ap (λ (l : List Out). flat_map f (enumerate_from 0 front) ++ l) (append-nil (f (length front, byte))) ∙ ap (λ (n : ℕ). flat_map f (enumerate_from 0 front) ++ f (n, byte)) (taken_length bytes i byte within is) in
    gave ∙ append_assoc now (one ∷ []) (other ∷ []) ∙ (λ j. so_far j ++ gives j) ∙ append_assoc old (flat_map f (enumerate_from 0 front)) (f (i, byte)) ∙ ap (λ (l : List Out). old ++ l) (sym more)

-- one phase more, told by those before it
pub phases_round : (step : List phases.Meaning → phases.Meaning → List Out) (all : List Meaning) (i : ℕ) (phase : Meaning) → i < length all → phase ≡ get_or all i phase → (old now next : List Out)
    → now ≡ old ++ along step (map meant (take i all)) → next ≡ now ++ step (map meant (take i all)) (meant phase) → next ≡ old ++ along step (map meant (take (i + 1) all))
phases_round step all i phase within is old now next so_far gave =
    let front = map meant (take i all) in
    gave ∙ ap (λ (l : List Out). l ++ step front (meant phase)) so_far ∙ append_assoc old (along step front) (step front (meant phase))
    ∙ ap (λ (l : List Out). old ++ l) (sym (ap (λ (l : List Meaning). along step (map meant l)) (next_taken all i phase within is) ∙ ap (along step) (map-append meant (take i all) (phase ∷ [])) ∙ along_push step front (meant phase)))

-- one byte more, told by those before it
pub along_round : (f : List Packet → Packet → List Out) (all : List Packet) (i : ℕ) (byte : Packet) → i < length all → byte ≡ get_or all i byte → (old now next : List Out)
    → now ≡ old ++ along f (take i all) → next ≡ now ++ f (take i all) byte → next ≡ old ++ along f (take (i + 1) all)
along_round f all i byte within is old now next so_far gave =
    let front = take i all in
    gave ∙ ap (λ (l : List Out). l ++ f front byte) so_far ∙ append_assoc old (along f front) (f front byte)
    ∙ ap (λ (l : List Out). old ++ l) (sym (ap (along f) (next_taken all i byte within is) ∙ along_push f front byte))

-- the last of the words so far
pub last_round : (command : Packet) (words : List Packet) (i : ℕ) (word : Packet) → i < length words → word ≡ get_or words i word → word ≡ last_in command (take (i + 1) words)
last_round command words i word within is = sym (ap (last_in command) (next_taken words i word within is) ∙ last_more command (take i words) word)

-- one item more, which gives something by how many stand before it
pub counted_round : (f : List Packet → Packet → List Out) (words : List Packet) (i : ℕ) (word : Packet) → i < length words → word ≡ get_or words i word → (old now next : List Out) (gave : ℕ → List Out)
    → ((before : List Packet) → f before word ≡ gave (length before))
    → now ≡ old ++ along f (take i words) → next ≡ now ++ gave i → next ≡ old ++ along f (take (i + 1) words)
counted_round f words i word within is old now next gave by_length so_far adds =
    let front = take i words in
    let here : f front word ≡ gave i = by_length front ∙ ap gave (taken_length words i word within is) in
    adds ∙ (λ j. so_far j ++ sym here j) ∙ append_assoc old (along f front) (f front word)
    ∙ ap (λ (l : List Out). old ++ l) (sym (ap (along f) (next_taken words i word within is) ∙ along_push f front word))

-- one packet more of transactions: it ends one, or joins what nothing has ended
module _ (device : Device) (packets : List Packet) (i : ℕ) (packet : Packet) (within : i < length packets) (is : packet ≡ get_or packets i packet) where
  abbrev front : List Packet
  front = take i packets

  abbrev longer : List Packet
  longer = take (i + 1) packets

  grown : front ++ packet ∷ [] ≡ longer
  grown = sym (next_taken packets i packet within is)

  pub cut_round_ends : device.ends packet ≡ true → (now next : List Out) (rest last : List Packet) → now ≡ ended_of device front → rest ≡ last_of device front
      → next ≡ now ++ closed_outs device (from_first device.begins rest) → last ≡ packet ∷ []
      → (next ≡ ended_of device longer) × (last ≡ last_of device longer)
  cut_round_ends ends now next rest last so_far left adds alone = (
    adds ∙ (λ j. so_far j ++ closed_outs device (from_first device.begins (left j))) ∙ sym (ended_grow device packet front ends) ∙ ap (ended_of device) grown,
    alone ∙ sym (last_begins device packet front ends) ∙ ap (last_of device) grown,
  )

  pub cut_round_joins : device.ends packet ≡ false → (now : List Out) (rest more : List Packet) → now ≡ ended_of device front → rest ≡ last_of device front → more ≡ rest ++ packet ∷ []
      → (now ≡ ended_of device longer) × (more ≡ last_of device longer)
  cut_round_joins ends now rest more so_far left adds = (
    so_far ∙ sym (ended_stay device packet front ends) ∙ ap (ended_of device) grown,
    adds ∙ ap (λ (l : List Packet). l ++ packet ∷ []) left ∙ sym (last_grows device packet front ends) ∙ ap (last_of device) grown,
  )
