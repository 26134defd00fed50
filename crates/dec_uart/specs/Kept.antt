-- What is kept between two stops, as plain parts.
use Rattle.std.specs.Prelude.{ℕ, ◌≡◌, ◌==◌, if◌then◌else◌, refl}
use Rattle.dec_uart.specs.declared.held.Held.{Held}
use Rattle.dec_uart.specs.declared.held.Held.TheVariants.{Idle, Inside, Low}

abbrev pub Parts : Type 0
Parts = ℕ × (ℕ × (ℕ × (ℕ × ℕ)))

-- the place of its variant, where its frame starts, and its points: how many, their levels, and how
-- far they reach
abbrev pub held_parts : Held → Parts
held_parts Idle = (0, (0, (0, (0, 0))))
held_parts (Inside start points word reached) = (1, (start, (points, (word, reached))))
held_parts (Low start) = (2, (start, (0, (0, 0))))

abbrev pub held_of : Parts → Held
held_of parts =
    if parts.0 == 0 then Idle
    else if parts.0 == 1 then Inside parts.1.0 parts.1.1.0 parts.1.1.1.0 parts.1.1.1.1
    else Low parts.1.0

-- the parts tell what is kept
pub held_back : (held : Held) → held_of (held_parts held) ≡ held
held_back Idle = refl
held_back (Inside start points word reached) = refl
held_back (Low start) = refl
