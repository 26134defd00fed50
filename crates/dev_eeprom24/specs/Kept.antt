-- What an EEPROM holds, as plain parts.
use Rattle.std.specs.Prelude.{ℕ, ◌≡◌, ◌==◌, if◌then◌else◌, refl}
use Rattle.dev_eeprom24.specs.declared.held.Word.{Word}
use Rattle.dev_eeprom24.specs.declared.held.Word.TheVariants.{Empty, Half, Whole}
use Rattle.dev_eeprom24.specs.declared.held.Held.{Held}
use Rattle.dev_eeprom24.specs.declared.held.Eeprom.{Eeprom}

abbrev pub WordParts : Type 0
WordParts = ℕ × ((ℕ × ℕ) × (ℕ × ℕ))

-- the place of its variant; the first byte and its start; the front of the page, and the place in
-- it
abbrev pub word_parts : Word → WordParts
word_parts Empty = (0, ((0, 0), (0, 0)))
word_parts (Half high start) = (1, ((high, start), (0, 0)))
word_parts (Whole front place) = (2, ((0, 0), (front, place)))

abbrev pub word_of : WordParts → Word
word_of parts =
    if parts.0 == 0 then Empty
    else if parts.0 == 1 then Half parts.1.0.0 parts.1.0.1
    else Whole parts.1.1.0 parts.1.1.1

abbrev pub held_parts : Held → ℕ × WordParts
held_parts held = (held.pointer, word_parts held.word)

abbrev pub held_of : ℕ × WordParts → Held
held_of parts = record { pointer = parts.0; word = word_of parts.1 }

word_back : (word : Word) → word_of (word_parts word) ≡ word
word_back Empty = refl
word_back (Half high start) = refl
word_back (Whole front place) = refl

-- the parts tell what it holds
pub held_back : (held : Held) → held_of (held_parts held) ≡ held
held_back held = λ i. record { pointer = held.pointer; word = word_back held.word i }

-- its chip and what it holds make an EEPROM
pub one_of_held : (one other : Eeprom) → one.chip ≡ other.chip → one.held ≡ other.held
    → one ≡ other
one_of_held one other chip held = λ i. record { chip = chip i; held = held i }
