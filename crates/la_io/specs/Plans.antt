-- What sources and sinks in memory do by their plan.
use Rattle.std.specs.Prelude.{ℕ, ◌+◌, ◌-◌, ◌^◌, ◌==◌, min, Bool, true, false, List, [], ◌∷◌, length}
use Rattle.std.specs.Prelude.{drop, if◌then◌else◌, nat_lt, Vec, Result, IsOk, IsErr}
use Rattle.std.specs.declared.alloc.Global.{Global}
use Rattle.std.specs.List.{list_any}
use Rattle.la_io.specs.Kept.{Place}

-- the call of this number is one of those that fail
abbrev pub is_listed : List ℕ → ℕ → Bool
is_listed fails call = list_any (λ number. number == call) fails

-- Failed comes exactly where this is so
abbrev pub FailsExactly : {T E : Type 0} → Bool → Result T E → Type 0
FailsExactly true result = IsErr result
FailsExactly false result = IsOk result

-- the number of the next call; it stands still at its type's end
abbrev pub next_call : ℕ → ℕ
next_call call = min (call + 1) (2 ^ 64 - 1)

-- the place of the next byte, from a place in the first of these pieces on, which has this number:
-- pieces of which nothing is left are passed over
abbrev pub next_of : List (Vec ℕ Global) → ℕ → ℕ → Place
next_of [] number byte = record { piece = number; byte = byte }
next_of (piece ∷ pieces) number byte =
    if nat_lt byte (length piece.items) then record { piece = number; byte = byte }
    else next_of pieces (number + 1) 0

-- the same, from a place in one of them on
abbrev pub next_byte : List (Vec ℕ Global) → Place → Place
next_byte pieces at = next_of (drop at.piece pieces) at.piece at.byte

-- so many bytes on in a piece
abbrev pub bytes_on : Place → ℕ → Place
bytes_on at count = record { piece = at.piece; byte = at.byte + count }

-- how many bytes are left of the first piece that has some, from a place in the first of these
-- pieces on
abbrev pub left_of_first : List (Vec ℕ Global) → ℕ → ℕ
left_of_first [] byte = 0
left_of_first (piece ∷ pieces) byte =
    if nat_lt byte (length piece.items) then length piece.items - byte else left_of_first pieces 0

-- the same, from a place in one of them on
abbrev pub present : List (Vec ℕ Global) → Place → ℕ
present pieces at = left_of_first (drop at.piece pieces) at.byte
