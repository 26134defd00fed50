-- What decoders of 1-Wire keep, as plain parts.
use Rattle.std.specs.Prelude.{ℕ, ◌≡◌, ◌==◌, if◌then◌else◌, Option, refl}
use Rattle.dec_onewire.specs.declared.link.held.Held.{Held as LinkHeld}
use Rattle.dec_onewire.specs.declared.net.held.Role.{Role}
use Rattle.dec_onewire.specs.declared.net.held.Role.TheVariants.{Command, Rom, Search, Byte}
use Rattle.dec_onewire.specs.declared.net.held.Begun.{Begun}
use Rattle.dec_onewire.specs.declared.net.held.Held.{Held as NetHeld}
use Rattle.dec_onewire.specs.declared.net.held.Held.TheVariants.{Outside, Reset, Inside}

-- the link: where the pulse began, and where the last one ended if it was a reset
abbrev pub link_parts : LinkHeld → Option ℕ × Option ℕ
link_parts held = (held.fall, held.reset_end)

abbrev pub link_of : Option ℕ × Option ℕ → LinkHeld
link_of parts = record { fall = parts.0; reset_end = parts.1 }

pub link_back : (held : LinkHeld) → link_of (link_parts held) ≡ held
link_back held = refl

-- the network: the place of a role
abbrev pub role_place : Role → ℕ
role_place Command = 0
role_place Rom = 1
role_place Search = 2
role_place Byte = 3

abbrev pub role_at : ℕ → Role
role_at place =
    if place == 0 then Command else if place == 1 then Rom else if place == 2 then Search else Byte

abbrev pub NetParts : Type 0
NetParts = ℕ × (ℕ × (ℕ × (ℕ × ℕ)))

-- the place of its variant, a start, the place of a role, and of the bits that have begun their
-- count and their number
abbrev pub net_parts : NetHeld → NetParts
net_parts Outside = (0, (0, (0, (0, 0))))
net_parts (Reset start) = (1, (start, (0, (0, 0))))
net_parts (Inside role begun) = (2, (begun.start, (role_place role, (begun.count, begun.number))))

abbrev begun_of : NetParts → Begun
begun_of parts = record { count = parts.1.1.1.0; start = parts.1.0; number = parts.1.1.1.1 }

abbrev pub net_of : NetParts → NetHeld
net_of parts =
    if parts.0 == 0 then Outside
    else if parts.0 == 1 then Reset parts.1.0
    else Inside (role_at parts.1.1.0) (begun_of parts)

role_back : (role : Role) → role_at (role_place role) ≡ role
role_back Command = refl
role_back Rom = refl
role_back Search = refl
role_back Byte = refl

-- the parts tell what is kept
pub net_back : (held : NetHeld) → net_of (net_parts held) ≡ held
net_back Outside = refl
net_back (Reset start) = refl
net_back (Inside role begun) = λ i. Inside (role_back role i) begun
