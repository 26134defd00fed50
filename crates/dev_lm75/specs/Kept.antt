-- What a thermometer holds, as plain parts.
use Rattle.std.specs.Prelude.{ℕ, ◌≡◌, ◌==◌, if◌then◌else◌, refl}
use Rattle.dev_lm75.specs.declared.held.Part.{Part}
use Rattle.dev_lm75.specs.declared.held.Part.TheVariants.{Fresh, Even, Half}
use Rattle.dev_lm75.specs.declared.held.Held.{Held}
use Rattle.dev_lm75.specs.declared.held.Lm75.{Lm75}

abbrev pub PartParts : Type 0
PartParts = ℕ × (ℕ × ℕ)

-- the place of its variant, and of a pair its first byte and its start
abbrev pub part_parts : Part → PartParts
part_parts Fresh = (0, (0, 0))
part_parts Even = (1, (0, 0))
part_parts (Half byte start) = (2, (byte, start))

abbrev pub part_of : PartParts → Part
part_of parts =
    if parts.0 == 0 then Fresh else if parts.0 == 1 then Even else Half parts.1.0 parts.1.1

abbrev pub held_parts : Held → ℕ × PartParts
held_parts held = (held.pointer, part_parts held.part)

abbrev pub held_of : ℕ × PartParts → Held
held_of parts = record { pointer = parts.0; part = part_of parts.1 }

part_back : (part : Part) → part_of (part_parts part) ≡ part
part_back Fresh = refl
part_back Even = refl
part_back (Half byte start) = refl

-- the parts tell what it holds
pub held_back : (held : Held) → held_of (held_parts held) ≡ held
held_back held = λ i. record { pointer = held.pointer; part = part_back held.part i }

-- its chip and what it holds make a thermometer
pub one_of_held : (one other : Lm75) → one.chip ≡ other.chip → one.held ≡ other.held
    → one ≡ other
one_of_held one other chip held = λ i. record { chip = chip i; held = held i }
