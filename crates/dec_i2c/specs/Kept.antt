-- What is kept of an open segment, as plain parts.
use Rattle.std.specs.Prelude.{ℕ, ◌≡◌, ◌==◌, if◌then◌else◌, Option, refl}
use Rattle.dec_i2c.specs.declared.held.Role.{Role}
use Rattle.dec_i2c.specs.declared.held.Role.TheVariants.{First, Lower, Command, Write, Read}
use Rattle.dec_i2c.specs.declared.held.Segment.{Segment}

-- the place of a role, and the upper two bits of a ten-bit address
abbrev pub role_parts : Role → ℕ × ℕ
role_parts First = (0, 0)
role_parts (Lower two) = (1, two)
role_parts Command = (2, 0)
role_parts Write = (3, 0)
role_parts Read = (4, 0)

abbrev pub role_of : ℕ × ℕ → Role
role_of parts =
    if parts.0 == 0 then First
    else if parts.0 == 1 then Lower parts.1
    else if parts.0 == 2 then Command
    else if parts.0 == 3 then Write
    else Read

abbrev pub Parts : Type 0
Parts = (ℕ × ℕ) × (Option ℕ × (ℕ × (ℕ × ℕ)))

-- the role; the ten-bit address; how many bits, the number that they make up, and where the first
-- of them stands
abbrev pub segment_parts : Segment → Parts
segment_parts segment =
    (role_parts segment.role, (segment.ten, (segment.bits, (segment.byte, segment.first))))

abbrev pub segment_of : Parts → Segment
segment_of parts =
    record {
      role = role_of parts.0;
      ten = parts.1.0;
      bits = parts.1.1.0;
      byte = parts.1.1.1.0;
      first = parts.1.1.1.1;
    }

role_back : (role : Role) → role_of (role_parts role) ≡ role
role_back First = refl
role_back (Lower two) = refl
role_back Command = refl
role_back Write = refl
role_back Read = refl

-- the parts tell the segment
pub segment_back : (segment : Segment) → segment_of (segment_parts segment) ≡ segment
segment_back segment = λ i. record {
  role = role_back segment.role i;
  ten = segment.ten;
  bits = segment.bits;
  byte = segment.byte;
  first = segment.first;
}
