-- What is kept between two events, as plain parts.
use Rattle.std.specs.Prelude.{ℕ, ◌≡◌, ◌==◌, if◌then◌else◌, refl}
use Rattle.dec_spi.specs.declared.held.Bits.{Bits}
use Rattle.dec_spi.specs.declared.held.Held.{Held}
use Rattle.dec_spi.specs.declared.held.Held.TheVariants.{Fresh, Outside, Inside}

abbrev pub Parts : Type 0
Parts = ℕ × (ℕ × (ℕ × (ℕ × ℕ)))

-- the place of its variant, and the bits of the present word: how many, their numbers on both
-- lines, and where the first stands
abbrev pub held_parts : Held → Parts
held_parts Fresh = (0, (0, (0, (0, 0))))
held_parts Outside = (1, (0, (0, (0, 0))))
held_parts (Inside word) = (2, (word.count, (word.mosi, (word.miso, word.first))))

abbrev bits_of : ℕ × (ℕ × (ℕ × ℕ)) → Bits
bits_of parts =
    record { count = parts.0; mosi = parts.1.0; miso = parts.1.1.0; first = parts.1.1.1 }

abbrev pub held_of : Parts → Held
held_of parts =
    if parts.0 == 0 then Fresh else if parts.0 == 1 then Outside else Inside (bits_of parts.1)

-- the parts tell what is kept
pub held_back : (held : Held) → held_of (held_parts held) ≡ held
held_back Fresh = refl
held_back Outside = refl
held_back (Inside word) = refl
