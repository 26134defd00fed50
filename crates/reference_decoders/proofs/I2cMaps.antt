-- The lists of the reference program of I2C stand for those of the definition.
use Rattle.std.proofs.Common.{◌≡◌, ◌≢◌, ℕ, ◌+◌, ◌<◌, ◌≤◌, Bool, true, false, List, [], ◌∷◌, ◌++◌, length, map, take, drop, get_or, Option, None, ◌==◌, append_assoc, Vec, Global, length-take, subst, refl, sym, ◌∙◌, ap, arith}
use Rattle.std.specs.List.{flat_map}
use Rattle.std.proofs.lemmas.List.{take-map, drop-map, length-map, map-append, take_more, append-nil}
use Rattle.list_cuts.specs.Along.{along}
use Rattle.list_cuts.specs.Bits.{high_first}
use Rattle.list_cuts.specs.Groups.{groups, after_groups}
use Rattle.list_cuts.specs.LastWhere.{last_that}
use Rattle.list_cuts.specs.Neighbours.{at_neighbours}
use Rattle.list_cuts.specs.Parts.{parts}
use Rattle.list_cuts.specs.Places.{first_place, last_place}
use Rattle.list_cuts.proofs.TestLaws.{when_yes, when_no, test_yes, test_no}
use Rattle.reference_decoders.proofs.ListMaps.{neighbours_map, groups_map, after_groups_map, parts_map}
use Rattle.dec_i2c.specs.Bytes.{byte_outs, role_behind}
use Rattle.list_cuts.proofs.AlongLaws.{along_push}
use Rattle.list_cuts.proofs.LastLaws.{last_that_passes, last_that_fails}
use Rattle.list_cuts.proofs.NeighbourLaws.{last_from_push}
use Rattle.list_cuts.proofs.PlaceLaws.{last_push}
use Rattle.std.proofs.Math.Pow.{pow_mono}
use Rattle.list_cuts.proofs.BitLaws.{high_below}
use Rattle.la_base.specs.declared.wires.Out.{Out}
use Rattle.dec_i2c.specs.Bus.{Event as Happening, Start as Starts, Stop as Stops, Clock as Clocks, place_of, level_of, event_at, events, is_mark, bytes_of, byte_value, values_of, group_outs, clocks_outs, ack_outs, segment_in, segment_of, bytes_in, open_segment, is_other, part_outs, i2c_outs}
use Rattle.dec_i2c.specs.declared.held.I2cOpts.{I2cOpts}
use Rattle.reference_decoders.specs.declared.i2c.Event.{Event}
use Rattle.reference_decoders.specs.I2cHappenings.{meant, made, made_at, all_meant}

-- the last place of one clock more
pub last_more : (clocks : List Event) (i : ℕ) (d : Event) → i < length clocks → last_place place_of (map meant (take (i + 1) clocks)) ≡ place_of (meant (get_or clocks i d))
last_more clocks i d within =
    ap (λ l. last_place place_of (map meant l)) (take_more clocks i d within)
    ∙ ap (λ l. last_place place_of l) (map-append meant (take i clocks) (get_or clocks i d ∷ []))
    ∙ last_push place_of (map meant (take i clocks)) (meant (get_or clocks i d))

-- the levels of eight clocks make up a byte
pub eight_few : (byte : List Event) → length (map level_of (map meant (take 8 byte))) ≤ 8
eight_few byte =
    let one = length-map (map meant (take 8 byte)) level_of in
    let two = length-map (take 8 byte) meant in
    omega (arith, one, two, length-take 8 byte)

pub byte_small : (levels : List Bool) (byte : List Event) → levels ≡ map level_of (map meant (take 8 byte)) → high_first levels < 256
byte_small levels byte is =
    let few : length levels ≤ 8 = subst (λ l. length l ≤ 8) (sym is) (eight_few byte) in
    let most = pow_mono few in
    omega (arith, high_below levels, most)

pub byte_is : (byte : List Event) → high_first (map level_of (map meant (take 8 byte))) ≡ byte_value (map meant byte)
byte_is byte = ap (λ l. high_first (map level_of l)) (sym (take-map meant 8 byte))

map_twice : {X Y Z : Type 0} (f : X → Y) (g : Y → Z) (xs : List X) → map (λ x. g (f x)) xs ≡ map g (map f xs)
map_twice f g [] = refl
map_twice f g (x ∷ xs) = λ i. g (f x) ∷ map_twice f g xs i

-- the elements of a list of the program
pub meant_more : (ps : List (Vec Event Global)) (i : ℕ) (p : Vec Event Global) → i < length ps → p ≡ get_or ps i p → all_meant (take (i + 1) ps) ≡ all_meant (take i ps) ++ map meant p.items ∷ []
meant_more ps i p within is =
    ap (λ l. all_meant l) (take_more ps i p within)
    ∙ map-append (λ (q : Vec Event Global). map meant q.items) (take i ps) (get_or ps i p ∷ [])
    ∙ ap (λ (q : Vec Event Global). all_meant (take i ps) ++ map meant q.items ∷ []) (sym is)

module _ (ps : List (Vec Event Global)) (i : ℕ) (p : Vec Event Global) (within : i < length ps) (is : p ≡ get_or ps i p) where
  pub open_more : open_segment (all_meant (take (i + 1) ps)) ≡ segment_in (map meant p.items)
  open_more =
      ap (λ l. open_segment l) (meant_more ps i p within is)
      ∙ ap (λ o. segment_of o) (last_from_push (all_meant (take i ps)) (map meant p.items) None)

  pub other_passes : (byte : ℕ) → is_other byte (map meant p.items) ≡ true → bytes_in (segment_of (last_that (is_other byte) (all_meant (take (i + 1) ps)))) ≡ bytes_in (segment_in (map meant p.items))
  other_passes byte other =
      ap (λ l. bytes_in (segment_of (last_that (is_other byte) l))) (meant_more ps i p within is)
      ∙ ap (λ o. bytes_in (segment_of o)) (last_that_passes (is_other byte) (all_meant (take i ps)) (map meant p.items) other)

  pub other_fails : (byte : ℕ) → is_other byte (map meant p.items) ≡ false → bytes_in (segment_of (last_that (is_other byte) (all_meant (take (i + 1) ps)))) ≡ bytes_in (segment_of (last_that (is_other byte) (all_meant (take i ps))))
  other_fails byte same =
      ap (λ l. bytes_in (segment_of (last_that (is_other byte) l))) (meant_more ps i p within is)
      ∙ ap (λ o. bytes_in (segment_of o)) (last_that_fails (is_other byte) (all_meant (take i ps)) (map meant p.items) same)

  pub values_more : values_of (all_meant (take (i + 1) ps)) ≡ values_of (all_meant (take i ps)) ++ byte_value (map meant p.items) ∷ []
  values_more =
      ap (λ l. values_of l) (meant_more ps i p within is)
      ∙ map-append byte_value (all_meant (take i ps)) (map meant p.items ∷ [])

  pub along_more : (f : List (List Happening) → List Happening → List Out) → along f (all_meant (take (i + 1) ps)) ≡ along f (all_meant (take i ps)) ++ f (all_meant (take i ps)) (map meant p.items)
  along_more f = ap (λ l. along f l) (meant_more ps i p within is) ∙ along_push f (all_meant (take i ps)) (map meant p.items)

-- the bytes of a segment
module _ (bs : List (Vec Event Global)) (es rest : List Event) (is : map (λ (b : Vec Event Global). b.items) bs ≡ groups 9 es) (rest_is : rest ≡ after_groups 9 es) where
  whole : all_meant bs ≡ groups 9 (map meant es)
  whole = map_twice (λ (b : Vec Event Global). b.items) (λ (l : List Event). map meant l) bs ∙ ap (λ l. map (λ (g : List Event). map meant g) l) is ∙ groups_map meant 9 es

  left : map meant rest ≡ after_groups 9 (map meant es)
  left = ap (λ l. map meant l) rest_is ∙ after_groups_map meant 9 es

  left_length : length (after_groups 9 (map meant es)) ≡ length rest
  left_length = sym (ap (λ l. length l) left) ∙ length-map rest meant

  pub bytes_short : length rest ≢ 8 → all_meant bs ≡ bytes_of (map meant es)
  unfolding bytes_of
  bytes_short other =
      whole ∙ sym (append-nil (groups 9 (map meant es)))
      ∙ ap (λ l. groups 9 (map meant es) ++ l) (sym (when_no (length (after_groups 9 (map meant es)) == 8) _ _ (test_no _ 8 (omega (arith, left_length, other)))))

  pub bytes_full : (new : List (Vec Event Global)) (b : Vec Event Global) → length rest ≡ 8 → b.items ≡ rest → new ≡ bs ++ b ∷ [] → all_meant new ≡ bytes_of (map meant es)
  unfolding bytes_of
  bytes_full new b eight b_is pushed =
      ap (λ l. all_meant l) pushed
      ∙ map-append (λ (q : Vec Event Global). map meant q.items) bs (b ∷ [])
      ∙ (λ j. whole j ++ (ap (λ l. map meant l) b_is ∙ left) j ∷ [])
      ∙ ap (λ l. groups 9 (map meant es) ++ l) (sym (when_yes (length (after_groups 9 (map meant es)) == 8) _ _ (test_yes _ 8 (left_length ∙ eight))))

-- a byte with its acknowledge bit
pub group_told : (known : ℕ → Option ℕ) (before : List (List Happening)) (byte bits acks : List Event) (values : List ℕ) (first last value : ℕ) (old mid new : List Out)
    → bits ≡ take 8 byte → acks ≡ drop 8 byte → values ≡ values_of before
    → first ≡ first_place place_of (map meant bits) → last ≡ last_place place_of (map meant bits) → value ≡ byte_value (map meant byte)
    → mid ≡ old ++ byte_outs known (role_behind values) first last value
    → new ≡ mid ++ flat_map (λ clock. ack_outs (place_of clock) (level_of clock)) (map meant acks)
    → new ≡ old ++ group_outs known before (map meant byte)
group_told known before byte bits acks values first last value old mid new bits_is acks_is values_is first_is last_is value_is mid_is new_is =
    let eight : map meant bits ≡ take 8 (map meant byte) = ap (λ l. map meant l) bits_is ∙ sym (take-map meant 8 byte) in
    let behind : map meant acks ≡ drop 8 (map meant byte) = ap (λ l. map meant l) acks_is ∙ sym (drop-map meant 8 byte) in
    let start = first_is ∙ ap (λ l. first_place place_of l) eight in
    let end = last_is ∙ ap (λ l. last_place place_of l) eight in
    new_is
    ∙ ap (λ l. l ++ flat_map (λ clock. ack_outs (place_of clock) (level_of clock)) (map meant acks)) mid_is
    ∙ append_assoc old (byte_outs known (role_behind values) first last value) (flat_map (λ clock. ack_outs (place_of clock) (level_of clock)) (map meant acks))
    ∙ (λ j. old ++ (byte_outs known (role_behind (values_is j)) (start j) (end j) (value_is j) ++ flat_map (λ clock. ack_outs (place_of clock) (level_of clock)) (behind j)))

-- a loop's round
pub told_more : (f : List (List Happening) → List Happening → List Out) (ps : List (Vec Event Global)) (i : ℕ) (p : Vec Event Global) (within : i < length ps) (is : p ≡ get_or ps i p) (old mid new : List Out) (item : List Event)
    → mid ≡ old ++ along f (all_meant (take i ps)) → item ≡ p.items → new ≡ mid ++ f (all_meant (take i ps)) (map meant item) → new ≡ old ++ along f (all_meant (take (i + 1) ps))
told_more f ps i p within is old mid new item so_far item_is gave =
    gave
    ∙ (λ j. so_far j ++ f (all_meant (take i ps)) (map meant (item_is j)))
    ∙ append_assoc old (along f (all_meant (take i ps))) (f (all_meant (take i ps)) (map meant p.items))
    ∙ ap (λ l. old ++ l) (sym (along_more ps i p within is f))

pub clocks_are : (known : ℕ → Option ℕ) (bs : List (Vec Event Global)) (clocks : List Event) → all_meant bs ≡ bytes_of (map meant clocks) → along (group_outs known) (all_meant bs) ≡ clocks_outs known (map meant clocks)
unfolding clocks_outs
clocks_are known bs clocks is = ap (λ l. along (group_outs known) l) is

-- all that samples give
meant_made : (h : Happening) → meant (made h) ≡ h
meant_made (Starts k) = refl
meant_made (Stops k) = refl
meant_made (Clocks k level) = refl

map_meant_made : (hs : List Happening) → map meant (map made hs) ≡ hs
map_meant_made [] = refl
map_meant_made (h ∷ hs) = λ i. meant_made h i ∷ map_meant_made hs i

pub outs_are : (opts : I2cOpts) (samples : List ℕ) (es : List Event) (ps : List (Vec Event Global))
    → es ≡ at_neighbours (made_at opts) samples
    → map (λ (p : Vec Event Global). p.items) ps ≡ parts (λ e. is_mark (meant e)) es
    → along part_outs (all_meant ps) ≡ i2c_outs opts.scl opts.sda samples
unfolding i2c_outs
outs_are opts samples es ps events_is parts_is =
    let happened = events opts.scl opts.sda samples in
    let same : map meant es ≡ happened = ap (λ l. map meant l) (events_is ∙ neighbours_map made (event_at opts.scl opts.sda) samples 0 None) ∙ map_meant_made happened in
    ap (λ l. along part_outs l)
    (map_twice (λ (p : Vec Event Global). p.items) (λ (l : List Event). map meant l) ps
    ∙ ap (λ l. map (λ (g : List Event). map meant g) l) parts_is
    ∙ parts_map meant is_mark es
    ∙ ap (λ l. parts is_mark l) same)
