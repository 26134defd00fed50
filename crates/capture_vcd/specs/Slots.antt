-- The channels that are selected, as a reader keeps them.
use Rattle.std.specs.Prelude.{ℕ, Bool, false, if◌then◌else◌, List, [], ◌∷◌, slice_get}
use Rattle.std.specs.Prelude.{slice_index_or, slice_set, Option, Some, None}
use Rattle.std.specs.declared.vec.Vec.{Vec}
use Rattle.std.specs.declared.alloc.Global.{Global}
use Rattle.la_base.specs.Naming.{same_name}
use Rattle.capture_vcd.specs.Body.{Channel}
use Rattle.capture_vcd.specs.Following.{is_one}
use Rattle.capture_vcd.specs.declared.place.Place.{Place}
use Rattle.capture_vcd.specs.declared.slots.Slot.{Slot}

abbrev pub text_or_none : Option (Vec ℕ Global) → List ℕ
text_or_none None = []
text_or_none (Some code) = code.items

-- the code of a variable
abbrev pub code_at : List (Vec ℕ Global) → ℕ → List ℕ
code_at codes variable = text_or_none (slice_get codes variable)

abbrev pub level_of : Slot → Bool
level_of slot = slot.level

abbrev pub value_of : Slot → Bool
value_of slot = slot.value

-- the channel that a slot stands for
abbrev pub channel_of : List (Vec ℕ Global) → Slot → Channel
channel_of codes slot = (code_at codes slot.variable, slot.bit)

-- what a value makes of a channel is noted
abbrev pub valued : List ℕ → Slot → Slot
valued digits slot = record slot { value = is_one slot.bit digits }

-- a channel of this code takes what was noted
abbrev pub assigned : List (Vec ℕ Global) → List ℕ → Slot → Slot
assigned codes code slot =
    record slot
    { level = if same_name (code_at codes slot.variable) code then slot.value else slot.level }

-- a channel of this code takes a value of one digit
abbrev pub changed : List (Vec ℕ Global) → ℕ → List ℕ → Slot → Slot
changed codes first code slot =
    record slot {
      level = if same_name (code_at codes slot.variable) code then is_one slot.bit (first ∷ [])
          else slot.level;
    }

-- a channel of some, and these with another level of it
abbrev pub slot_in : List Slot → ℕ → Slot
slot_in slots place =
    slice_index_or slots place (record { variable = 0; bit = 0; level = false; value = false })

abbrev pub with_level : List Slot → ℕ → Bool → List Slot
with_level slots place level =
    slice_set slots place (record (slot_in slots place) { level = level })

-- a channel of the file as one that is selected, low
abbrev pub slot_by : ℕ → Option Place → Slot
slot_by none None = record { variable = none; bit = 0; level = false; value = false }
slot_by none (Some place) =
    record { variable = place.variable; bit = place.bit; level = false; value = false }

abbrev pub slot_at : List Place → ℕ → ℕ → Slot
slot_at places none pin = slot_by none (slice_get places pin)
