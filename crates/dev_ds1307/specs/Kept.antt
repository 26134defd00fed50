-- What a clock holds, as plain parts.
use Rattle.std.specs.Prelude.{ℕ, ◌≡◌, ◌==◌, if◌then◌else◌, refl}
use Rattle.dev_ds1307.specs.declared.held.Part.{Part}
use Rattle.dev_ds1307.specs.declared.held.Part.TheVariants.{Fresh, Apart, Row}
use Rattle.dev_ds1307.specs.declared.held.Held.{Held}
use Rattle.dev_ds1307.specs.declared.held.Clock.{Clock}

abbrev pub PartParts : Type 0
PartParts = ℕ × (ℕ × ℕ)

-- the place of its variant, and of a row its start and its bytes
abbrev pub part_parts : Part → PartParts
part_parts Fresh = (0, (0, 0))
part_parts Apart = (1, (0, 0))
part_parts (Row start bytes) = (2, (start, bytes))

abbrev pub part_of : PartParts → Part
part_of parts =
    if parts.0 == 0 then Fresh else if parts.0 == 1 then Apart else Row parts.1.0 parts.1.1

abbrev pub held_parts : Held → ℕ × PartParts
held_parts held = (held.register, part_parts held.part)

abbrev pub held_of : ℕ × PartParts → Held
held_of parts = record { register = parts.0; part = part_of parts.1 }

part_back : (part : Part) → part_of (part_parts part) ≡ part
part_back Fresh = refl
part_back Apart = refl
part_back (Row start bytes) = refl

-- the parts tell what it holds
pub held_back : (held : Held) → held_of (held_parts held) ≡ held
held_back held = λ i. record { register = held.register; part = part_back held.part i }

-- its chip and what it holds make a clock
pub one_of_held : (one other : Clock) → one.chip ≡ other.chip → one.held ≡ other.held
    → one ≡ other
one_of_held one other chip held = λ i. record { chip = chip i; held = held i }
