-- The lists of the reference program of SPI stand for those of the definition.
use Rattle.std.proofs.lemmas.Option.{slice_get-map, slice_get-get_or}
use Rattle.list_cuts.proofs.GroupLaws.{group_at}
use Rattle.std.specs.Prelude.{slice_get}
use Rattle.std.proofs.Common.{option_map, ◌≡◌, ℕ, ◌+◌, ◌<◌, Bool, true, false, cond, List, [], ◌∷◌, length, map, take, get_or, Some, None, refl, sym, ◌∙◌, ap}
use Rattle.std.specs.List.{flat_map}
use Rattle.std.proofs.lemmas.List.{map-append, take_more}
use Rattle.list_cuts.specs.Groups.{groups}
use Rattle.list_cuts.specs.Neighbours.{at_neighbours}
use Rattle.list_cuts.specs.Places.{last_place}
use Rattle.list_cuts.proofs.PlaceLaws.{last_push}
use Rattle.list_cuts.specs.Parts.{Part, first_mark, cuts, part_from, parts_between}
use Rattle.dec_spi.specs.Bus.{Event as Happening, Select as Selects, Deselect as Deselects, Clock as Clocks, begins, ends, place_of, event_at, events, group_outs, words_outs, stretch_outs, stretches, spi_outs}
use Rattle.dec_spi.specs.declared.options.SpiOpts.{SpiOpts}
use Rattle.reference_decoders.proofs.ListMaps.{flat_mapped, neighbours_map, groups_map, before_map}
use Rattle.reference_decoders.specs.declared.spi.Event.{Event}
use Rattle.reference_decoders.specs.Happenings.{meant, made, made_at, meant_end, meant_part}

-- what is made of what happens stands for it
meant_made : (h : Happening) → meant (made h) ≡ h
meant_made (Selects k) = refl
meant_made (Deselects k) = refl
meant_made (Clocks k mosi miso) = refl

map_meant_made : (hs : List Happening) → map meant (map made hs) ≡ hs
map_meant_made [] = refl
map_meant_made (h ∷ hs) = λ i. meant_made h i ∷ map_meant_made hs i

-- the events
pub events_meant : (opts : SpiOpts) (samples : List ℕ) (es : List Event) → es ≡ at_neighbours (made_at opts) samples → map meant es ≡ events opts samples
events_meant opts samples es is =
    ap (λ l. map meant l) (is ∙ neighbours_map made (event_at opts) samples 0 None) ∙ map_meant_made (events opts samples)

-- the stretches
-- whether an event begins a stretch or ends one
abbrev cut : Happening → Bool
cut h = cuts begins ends h

first_if : (t : Bool) (x : Event) (xs : List Event) → meant_end (first_mark (λ e. cut (meant e)) xs) ≡ first_mark cut (map meant xs)
    → meant_end (cond t (Some x) (first_mark (λ e. cut (meant e)) xs)) ≡ cond t (Some (meant x)) (first_mark cut (map meant xs))
first_if true x xs on = refl
first_if false x xs on = on

first_meant : (es : List Event) → meant_end (first_mark (λ e. cut (meant e)) es) ≡ first_mark cut (map meant es)
first_meant [] = refl
first_meant (x ∷ xs) = first_if (cut (meant x)) x xs (first_meant xs)

part_meant : (x : Event) (xs : List Event) → meant_part (part_from (λ e. cut (meant e)) x xs) ≡ part_from cut (meant x) (map meant xs)
part_meant x xs = λ i. record { items = meant x ∷ before_map meant cut xs i; ended_by = first_meant xs i }

abbrev program_parts : List Event → List (Part Event)
program_parts es = parts_between (λ x. begins (meant x)) (λ x. ends (meant x)) es

parts_if : (t : Bool) (x : Event) (xs : List Event) → map meant_part (program_parts xs) ≡ stretches (map meant xs)
    → map meant_part (cond t (part_from (λ e. cut (meant e)) x xs ∷ program_parts xs) (program_parts xs))
    ≡ cond t (part_from cut (meant x) (map meant xs) ∷ stretches (map meant xs)) (stretches (map meant xs))
parts_if true x xs on = λ i. part_meant x xs i ∷ on i
parts_if false x xs on = on

pub stretches_meant : (es : List Event) → map meant_part (program_parts es) ≡ stretches (map meant es)
stretches_meant [] = refl
stretches_meant (x ∷ xs) = parts_if (begins (meant x)) x xs (stretches_meant xs)

-- the last place of one clock more
pub last_more : (clocks : List Event) (i : ℕ) (d : Event) → i < length clocks → last_place place_of (map meant (take (i + 1) clocks)) ≡ place_of (meant (get_or clocks i d))
last_more clocks i d within =
    ap (λ l. last_place place_of (map meant l)) (take_more clocks i d within)
    ∙ ap (λ l. last_place place_of l) (map-append meant (take i clocks) (get_or clocks i d ∷ []))
    ∙ last_push place_of (map meant (take i clocks)) (meant (get_or clocks i d))

module _ {V : Type 0} (items : V → List Event) (vs : List V) (n : ℕ) (clocks : List Event) (is : map items vs ≡ groups n clocks) where
  pub group_few : (k : ℕ) (d : V) → k < length vs → length (items (get_or vs k d)) ≡ n
  group_few k d within =
      (group_at n clocks k (items (get_or vs k d))
      (ap (λ l. slice_get l k) (sym is) ∙ slice_get-map items vs k ∙ ap (λ o. option_map items o) (slice_get-get_or vs k d within))).1

  pub words_are : (opts : SpiOpts) → opts.bits ≡ n → flat_map (λ v. group_outs opts (map meant (items v))) vs ≡ words_outs opts (map meant clocks)
  unfolding words_outs
  words_are opts bits_is =
      flat_mapped (λ (g : List Event). group_outs opts (map meant g)) items vs
      ∙ ap (λ l. flat_map (λ (g : List Event). group_outs opts (map meant g)) l) is
      ∙ flat_mapped (group_outs opts) (λ (g : List Event). map meant g) (groups n clocks)
      ∙ ap (λ l. flat_map (group_outs opts) l) (groups_map meant n clocks)
      ∙ ap (λ m. flat_map (group_outs opts) (groups m (map meant clocks))) (sym bits_is)

pub outs_are : {V : Type 0} (part : V → Part Event) (vs : List V) (opts : SpiOpts) (samples : List ℕ) (es : List Event)
    → es ≡ at_neighbours (made_at opts) samples
    → map part vs ≡ parts_between (λ x. begins (meant x)) (λ x. ends (meant x)) es
    → flat_map (λ v. stretch_outs opts (meant_part (part v))) vs ≡ spi_outs opts samples
unfolding spi_outs
outs_are part vs opts samples es events_is parts_is =
    flat_mapped (λ (p : Part Event). stretch_outs opts (meant_part p)) part vs
    ∙ ap (λ l. flat_map (λ (p : Part Event). stretch_outs opts (meant_part p)) l) parts_is
    ∙ flat_mapped (stretch_outs opts) meant_part (parts_between (λ x. begins (meant x)) (λ x. ends (meant x)) es)
    ∙ ap (λ l. flat_map (stretch_outs opts) l) (stretches_meant es)
    ∙ ap (λ l. flat_map (stretch_outs opts) (stretches l)) (events_meant opts samples es events_is)
