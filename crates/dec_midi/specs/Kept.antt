-- What is kept between two packets, as plain parts.
use Rattle.std.specs.Prelude.{ℕ, ◌≡◌, ◌==◌, if◌then◌else◌, Option, None, refl}
use Rattle.dec_midi.specs.declared.held.Held.{Held}
use Rattle.dec_midi.specs.declared.held.Held.TheVariants.{Stray, Running, Begun, Exclusive}

abbrev pub Parts : Type 0
Parts = ℕ × ((ℕ × Option ℕ) × (ℕ × (ℕ × ℕ)))

-- the place of its variant; a status and the first data byte behind it; and of what is open its
-- start, its end and the number of its data bytes
abbrev pub held_parts : Held → Parts
held_parts Stray = (0, ((0, None), (0, (0, 0))))
held_parts (Running status) = (1, ((status, None), (0, (0, 0))))
held_parts (Begun status start first) = (2, ((status, first), (start, (0, 0))))
held_parts (Exclusive start end count) = (3, ((0, None), (start, (end, count))))

abbrev pub held_of : Parts → Held
held_of parts =
    if parts.0 == 0 then Stray
    else if parts.0 == 1 then Running parts.1.0.0
    else if parts.0 == 2 then Begun parts.1.0.0 parts.1.1.0 parts.1.0.1
    else Exclusive parts.1.1.0 parts.1.1.1.0 parts.1.1.1.1

-- the parts tell what is kept
pub held_back : (held : Held) → held_of (held_parts held) ≡ held
held_back Stray = refl
held_back (Running status) = refl
held_back (Begun status start first) = refl
held_back (Exclusive start end count) = refl
