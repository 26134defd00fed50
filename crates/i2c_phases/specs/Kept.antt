-- What is kept of the phases of a bus, as plain parts.
use Rattle.std.specs.Prelude.{ℕ, ◌≡◌, ◌==◌, Bool, true, false, if◌then◌else◌, refl}
use Rattle.list_cuts.specs.Bits.{bit_of}
use Rattle.i2c_phases.specs.declared.tracker.Role.{Role}
use Rattle.i2c_phases.specs.declared.tracker.Role.TheVariants.{Fresh, Late, AskedWrite, AskedRead}
use Rattle.i2c_phases.specs.declared.tracker.Role.TheVariants.{AskedCall, Writing, Reading, Called}
use Rattle.i2c_phases.specs.declared.tracker.Role.TheVariants.{WasReset, Other}
use Rattle.i2c_phases.specs.declared.tracker.Track.{Track}

abbrev pub role_place : Role → ℕ
role_place Fresh = 0
role_place Late = 1
role_place AskedWrite = 2
role_place AskedRead = 3
role_place AskedCall = 4
role_place Writing = 5
role_place Reading = 6
role_place Called = 7
role_place WasReset = 8
role_place Other = 9

abbrev pub role_at : ℕ → Role
role_at place =
    if place == 0 then Fresh
    else if place == 1 then Late
    else if place == 2 then AskedWrite
    else if place == 3 then AskedRead
    else if place == 4 then AskedCall
    else if place == 5 then Writing
    else if place == 6 then Reading
    else if place == 7 then Called
    else if place == 8 then WasReset
    else Other

abbrev pub Parts : Type 0
Parts = ℕ × (ℕ × ℕ)

-- whether a phase is open, where it starts, and the place of how far it has come
abbrev pub track_parts : Track → Parts
track_parts kept = (bit_of kept.begun, (kept.start, role_place kept.role))

abbrev pub track_of : Parts → Track
track_of parts = record { begun = parts.0 == 1; start = parts.1.0; role = role_at parts.1.1 }

bit_back : (b : Bool) → (bit_of b == 1) ≡ b
bit_back true = refl
bit_back false = refl

role_back : (role : Role) → role_at (role_place role) ≡ role
role_back Fresh = refl
role_back Late = refl
role_back AskedWrite = refl
role_back AskedRead = refl
role_back AskedCall = refl
role_back Writing = refl
role_back Reading = refl
role_back Called = refl
role_back WasReset = refl
role_back Other = refl

-- the parts tell what is kept
pub track_back : (kept : Track) → track_of (track_parts kept) ≡ kept
track_back kept = λ i. record {
  begun = bit_back kept.begun i;
  start = kept.start;
  role = role_back kept.role i;
}

-- devices of one setup that hold the same are equal
abbrev pub OneOfHeld : {D S H : Type 0} → (D → S) → (D → H) → Type 0
OneOfHeld {D} setup held =
    (one other : D) → setup one ≡ setup other → held one ≡ held other → one ≡ other
