-- Channels of a file, selected.
use Rattle.std.proofs.Common.{◌≡◌, ℕ, zero, suc, ◌*◌, List, [], ◌∷◌, map, length, get_or, refl, sym, ◌∙◌, ap, subst, arith, Option, Some, None, false}
use Rattle.std.specs.List.{slice_get}
use Rattle.std.specs.declared.vec.Vec.{Vec}
use Rattle.std.specs.declared.alloc.Global.{Global}
use Rattle.text_parts.specs.Places.{Placed}
use Rattle.la_base.specs.declared.samples.Rate.{Rate}
use Rattle.la_io.specs.Capture.{Told, Open}
use Rattle.capture_vcd.specs.Body.{Channel}
use Rattle.capture_vcd.specs.Within.{Within}
use Rattle.capture_vcd.specs.Within as within
use Rattle.capture_vcd.specs.Vcd.{chosen, settled_by}
use Rattle.capture_vcd.specs.Slots.{channel_of, code_at, level_of}
use Rattle.capture_vcd.specs.Following.{levels_now}
use Rattle.capture_vcd.specs.Places.{channel_at}
use Rattle.capture_vcd.specs.Running.{OpenAt, PartsStand, last_of, start_of}
use Rattle.capture_vcd.specs.declared.reader.Phase.{Phase}
use Rattle.capture_vcd.specs.declared.reader.Phase.TheVariants.{Fresh, Running, Ended, Refused}
use Rattle.capture_vcd.specs.Reader.{HeadRead, StandsAs, kept_by}
use Rattle.capture_vcd.specs.Slots.{slot_at, slot_by}
use Rattle.capture_vcd.specs.declared.body.Pending.{Pending}
use Rattle.capture_vcd.specs.declared.body.Pending.TheVariants.{Free}
use Rattle.capture_vcd.specs.declared.body.Span.{Span}
use Rattle.capture_vcd.specs.declared.place.Place.{Place}
use Rattle.capture_vcd.specs.declared.slots.Slot.{Slot}
use Rattle.capture_vcd.specs.declared.reader.VcdReader.{VcdReader}

code_none : (codes : List (Vec ℕ Global)) → code_at codes (length codes) ≡ []
code_none [] = refl
code_none (c ∷ cs) = code_none cs

slot_channel : (codes : List (Vec ℕ Global)) (places : List Place) (pin : ℕ) → channel_of codes (slot_at places (length codes) pin) ≡ get_or (map (channel_at codes) places) pin ([], 0)
slot_channel codes [] pin = λ i. (code_none codes i, 0)
slot_channel codes (p ∷ places) zero = refl
slot_channel codes (p ∷ places) (suc pin) = slot_channel codes places pin

pub slots_channels : (codes : List (Vec ℕ Global)) (places : List Place) (pins : List ℕ) → map (channel_of codes) (map (slot_at places (length codes)) pins) ≡ chosen (map (channel_at codes) places) pins
slots_channels codes places [] = refl
slots_channels codes places (pin ∷ pins) = λ i. slot_channel codes places pin i ∷ slots_channels codes places pins i

slot_low : (none : ℕ) (place : Option Place) → level_of (slot_by none place) ≡ false
slot_low none None = refl
slot_low none (Some place) = refl

pub slots_low : (codes : List (Vec ℕ Global)) (places : List Place) (none : ℕ) (pins : List ℕ) → map level_of (map (slot_at places none) pins) ≡ levels_now (map (channel_of codes) (map (slot_at places none) pins)) []
slots_low codes places none [] = refl
slots_low codes places none (pin ∷ pins) = λ i. slot_low none (slice_get places pin) i ∷ slots_low codes places none pins i

-- the header stays read
pub head_selected : (old_down new_down : ℕ) (old_pins new_pins : List ℕ) (old_channels new_channels : List Channel) (names : List (List ℕ)) (places : List Place) (rate : Rate) (old_codes new_codes : Vec (Vec ℕ Global) Global) (head : List Placed)
    → HeadRead old_down old_pins old_channels (kept_by names places rate old_codes.items) head → new_down ≡ old_down → new_codes ≡ old_codes → new_channels ≡ chosen (map (channel_at old_codes.items) places) new_pins
    → HeadRead new_down new_pins new_channels (kept_by names places rate new_codes.items) head
head_selected old_down new_down old_pins new_pins old_channels new_channels names places rate old_codes new_codes head h down_is codes_are channels_are = record {
  sections = h.sections;
  whole = h.whole;
  declared = h.declared;
  read = h.read;
  scale = h.scale;
  scale_is = h.scale_is;
  channels_are = channels_are ∙ ap (λ (bits : List Channel). chosen bits new_pins) h.bits_are;
  names_are = h.names_are;
  bits_are = ap (λ (c : Vec (Vec ℕ Global) Global). map (channel_at c.items) places) codes_are ∙ h.bits_are;
  num_is = h.num_is;
  den_is = h.den_is ∙ ap (λ (n : ℕ). h.scale.0 * n) (sym down_is);
}

-- nothing was read of the body
pub body_selected : (down : ℕ) (channels : List Channel) (slots : List Slot) (pending : Pending) (span : Option Span) → pending ≡ Free → span ≡ None → map level_of slots ≡ levels_now channels [] → PartsStand down channels slots pending (start_of span) (last_of span) [] []
body_selected down channels slots pending span free nothing low = record {
  open_is = within.Free;
  opened = subst (λ (p : Pending). OpenAt p slots within.Free) (sym free) refl;
  stands = record {
    events = [];
    read = refl;
    leaves = refl;
    levels_are = low;
    first = ap start_of (sym nothing);
    latest = ap last_of (sym nothing);
    times = tt;
    gave = ap (λ (s : Option Span). settled_by down channels [] Open (start_of s) (last_of s)) (sym nothing);
  };
}

-- where it has given nothing, it has read nothing of the body
pub is_fresh : (phase : Phase) (reader : VcdReader) (bytes : List ℕ) (told : Told) → StandsAs phase reader bytes told [] → phase ≡ Fresh
is_fresh Fresh reader bytes told st = refl
is_fresh Running reader bytes told st = absurd (omega (arith, st.some))
is_fresh Ended reader bytes told st = absurd (omega (arith, st.some))
is_fresh (Refused fault) reader bytes told st = absurd (omega (arith, st.some))
