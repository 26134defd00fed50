-- One byte more behind those of MIDI.
use Rattle.std.proofs.Common.{◌≡◌, ℕ, ◌+◌, ◌≤◌, ◌<◌, Bool, true, false, if◌then◌else◌, List, [], ◌∷◌, ◌++◌, take, drop, map, length, get_or, Option, Some, None, refl, sym, ◌∙◌, ap, arith}
use Rattle.std.specs.Prelude.{option_map}
use Rattle.la_base.specs.declared.wires.Out.{Out}
use Rattle.la_base.specs.declared.wires.Packet.{Packet}
use Rattle.list_cuts.specs.Neighbours.{last_from, last_of}
use Rattle.list_cuts.specs.Parts.{grow_last, parts}
use Rattle.list_cuts.proofs.NeighbourLaws.{last_from_push}
use Rattle.list_cuts.proofs.PartLaws.{parts_join, parts_mark}
use Rattle.dec_midi.specs.declared.held.Sort.{Sort}
use Rattle.dec_midi.specs.declared.held.Sort.TheVariants.{Data, Status, RealTime}
use Rattle.dec_midi.specs.Midi.{bytes_outs, inside_outs, is_status, is_status_sort, sort_of, status_outs, twos_outs}
use Rattle.dec_midi.specs.laws.Pushed.{inner_goes, inside_goes, kept_in, outside_is, status_all, status_goes}
use Rattle.dec_midi.specs.laws.Steps.{held_in, sort_gives}
use Rattle.reference_devices.specs.declared.midi_bytes.Datum.{Datum}
use Rattle.reference_devices.specs.MidiParts.{byte_gives, datum, head_behind, inner_outs, others_behind, part_by}
use Rattle.reference_devices.proofs.Rounds.{next_taken}

-- the last of some lists with an item behind it
grown : {X : Type 0} (list : List (List X)) (before : Option (List X)) (part : List X) (x : X)
    → last_from before (grow_last (part ∷ list) x) ≡ option_map (λ (l : List X). l ++ x ∷ []) (last_from before (part ∷ list))
grown [] before part x = refl
grown (next ∷ list) before part x = grown list (Some part) next x

grown_last : {X : Type 0} (list : List (List X)) (x : X) → last_of (grow_last list x) ≡ option_map (λ (l : List X). l ++ x ∷ []) (last_of list)
grown_last [] x = refl
grown_last (part ∷ list) x = grown list None part x

-- of a sort that is that of a status
status_sort : (s : Sort) → is_status_sort s ≡ true → s ≡ Status
status_sort Data is = cc
status_sort Status is = refl
status_sort RealTime is = cc

module _ (bytes : List Packet) (p : Packet) (h : Option Packet) (others : List Packet) (left : part_by h others ≡ last_of (parts is_status bytes)) where
  -- what one more byte gives
  gives : (b : Bool) → is_status p ≡ b → bytes_outs (bytes ++ p ∷ []) ≡ bytes_outs bytes ++ (if b then status_outs (part_by h others) p else inner_outs h others p)
  gives true is =
      let sort = status_sort (sort_of p.a) is in
      (status_goes p bytes sort).0
      ∙ ap (λ (s : Sort). bytes_outs bytes ++ sort_gives s (kept_in bytes) p) sort
      ∙ ap (λ (l : List Out). bytes_outs bytes ++ l) (sym (status_all (last_of (parts is_status bytes)) p) ∙ ap (λ (o : Option (List Packet)). status_outs o p) (sym left))
  gives false is =
      (inner_goes p bytes is).0
      ∙ ap (λ (l : List Out). bytes_outs bytes ++ l) (ap (λ (o : Option (List Packet)). sort_gives (sort_of p.a) (held_in o) p) (sym left) ∙ by h)
    where
      by : (o : Option Packet) → sort_gives (sort_of p.a) (held_in (part_by o others)) p ≡ inner_outs o others p
      by None = sym (outside_is p is (sort_of p.a) is).0
      by (Some status) = sym (inside_goes p is status others).0

  -- and the last part with it
  part_is : (b : Bool) → is_status p ≡ b → part_by (if b then Some p else h) (if b then [] else others ++ p ∷ []) ≡ last_of (parts is_status (bytes ++ p ∷ []))
  part_is true is = sym (ap last_of (parts_mark is_status bytes p is) ∙ last_from_push (parts is_status bytes) (p ∷ []) None)
  part_is false is =
      by h ∙ ap (option_map (λ (l : List Packet). l ++ p ∷ [])) left
      ∙ sym (ap last_of (parts_join is_status bytes p is) ∙ grown_last (parts is_status bytes) p)
    where
      by : (o : Option Packet) → part_by o (others ++ p ∷ []) ≡ option_map (λ (l : List Packet). l ++ p ∷ []) (part_by o others)
      by None = refl
      by (Some status) = refl

-- one round of the loop
pub byte_round : (bytes : List Packet) (i : ℕ) (byte : Packet) → i < length bytes → byte ≡ get_or bytes i byte → (h after : Option Packet) (others behind : List Packet) (now next : List Out)
    → part_by h others ≡ last_of (parts is_status (take i bytes)) → now ≡ bytes_outs (take i bytes)
    → next ≡ now ++ byte_gives h others byte → after ≡ head_behind h byte → behind ≡ others_behind others byte
    → (next ≡ bytes_outs (take (i + 1) bytes)) × (part_by after behind ≡ last_of (parts is_status (take (i + 1) bytes)))
byte_round bytes i byte within is h after others behind now next left so_far adds heads joins =
    let grow : take (i + 1) bytes ≡ take i bytes ++ byte ∷ [] = next_taken bytes i byte within is in (
      adds ∙ ap (λ (l : List Out). l ++ byte_gives h others byte) so_far
          ∙ sym (gives (take i bytes) byte h others left (is_status byte) refl) ∙ sym (ap bytes_outs grow),
      (λ j. part_by (heads j) (joins j)) ∙ part_is (take i bytes) byte h others left (is_status byte) refl
          ∙ sym (ap (λ (l : List Packet). last_of (parts is_status l)) grow),
    )

-- two data bytes fewer of those that come before
pub two_fewer : (first : Bool) (status byte : Packet) (before : List Datum) → 2 ≤ length before → twos_outs false status (map datum (drop 2 before)) byte ≡ twos_outs first status (map datum before) byte
two_fewer first status byte [] long = absurd (omega arith)
two_fewer first status byte (one ∷ []) long = absurd (omega arith)
two_fewer true status byte (one ∷ two ∷ before) long = refl
two_fewer false status byte (one ∷ two ∷ before) long = refl
