-- Bytes that are cut into parts, as tokens and lines are: the parts that count, each with a mark,
-- up to the first that is too long.
use Rattle.std.specs.Prelude.{ℕ, ◌≡◌, ◌<◌, ◌^◌, ◌==◌, ◌&&◌, nat_le, not, Bool, false, if◌then◌else◌}
use Rattle.std.specs.Prelude.{List, [], ◌∷◌, ◌++◌, length, slice_index}
use Rattle.std.specs.List.{slice_split}
use Rattle.text_parts.specs.Places.{Placed}
use Rattle.la_io.specs.declared.fault.CaptureFault.TheVariants.{TooLong, Bytes}
use Rattle.la_io.specs.Capture.{Told, AtEnd, Cut, Ending, Clean, Faulty, Open}

-- how bytes are cut: the bytes that end a part, whether an empty part counts that has one behind
-- it, and the mark of the part behind one
pub record Cutting : Type 0 where
  pub ends_part : ℕ → Bool
  pub empties : Bool
  pub next : ℕ → List ℕ → ℕ

-- the parts that count, and how they end: clean behind the last of them, with a fault, or cut
pub record Fed : Type 0 where
  pub items : List Placed
  pub ending : Ending

-- these before what comes then
abbrev pub behind : List Placed → Fed → Fed
behind items fed = record { items = items ++ fed.items; ending = fed.ending }

-- none, and this ending
abbrev pub ends : Ending → Fed
ends how = record { items = []; ending = how }

-- 65,536 bytes and more are too many
abbrev pub is_long : List ℕ → Bool
is_long text = nat_le 65536 (length text)

-- a part before what comes then, where an empty one counts or doesn't
abbrev pub whole_part : Bool → Placed → Fed → Fed
whole_part empties part rest = if is_long part.1 then ends (Faulty (TooLong part.0))
    else if not empties && length part.1 == 0 then rest
    else behind (part ∷ []) rest

-- the last part counts where the bytes end clean behind it and it isn't empty
abbrev pub last_part : Ending → Placed → Fed
last_part Clean part = whole_part false part (ends Clean)
last_part (Faulty fault) part =
    if is_long part.1 then ends (Faulty (TooLong part.0)) else ends (Faulty fault)
last_part Open part = if is_long part.1 then ends (Faulty (TooLong part.0)) else ends Open

-- those that count among parts, up to the first that is too long
abbrev pub parts_in : Bool → Ending → List Placed → Fed
parts_in empties how [] = ends how
parts_in empties how (part ∷ []) = last_part how part
parts_in empties how (part ∷ next ∷ parts) =
    whole_part empties part (parts_in empties how (next ∷ parts))

-- parts with their marks
abbrev pub marked_from : (ℕ → List ℕ → ℕ) → ℕ → List (List ℕ) → List Placed
marked_from next mark [] = []
marked_from next mark (part ∷ parts) = (mark, part) ∷ marked_from next (next mark part) parts

-- the parts of bytes that end in this way, the first with this mark
unfoldable pub parts_from : Cutting → ℕ → Ending → List ℕ → Fed
parts_from cut mark how bytes =
    parts_in cut.empties how (marked_from cut.next mark (slice_split cut.ends_part bytes))

-- none of so many bytes at the front ends a part
abbrev pub NoneEnds : Cutting → List ℕ → ℕ → Type 0
NoneEnds cut bytes count = (k : ℕ) → k < count → cut.ends_part (slice_index bytes k) ≡ false

-- how bytes end that are told or cut: a reader stops behind 2^60 of them, and asks for no end there
abbrev pub told_ending : Told → Ending
told_ending AtEnd = Clean
told_ending Cut = Open

abbrev pub bytes_ending : ℕ → Told → Ending
bytes_ending count told = if nat_le (2 ^ 60) count then Faulty Bytes else told_ending told
