-- Feeds that tell places, and items that heed these.
use Rattle.std.proofs.Common.{◌≡◌, ℕ, zero, suc, ◌+◌, ◌-◌, ◌<◌, ◌≤◌, max, Bool, true, false, ◌||◌, if◌then◌else◌, List, [], ◌∷◌, ◌++◌, map, length, drop, Option, Some, None, refl, sym, ◌∙◌, ap, subst, append_assoc, append-nil, length-append, arith}
use Rattle.std.specs.Prelude.{nat_le}
use Rattle.std.proofs.lemmas.Bool.Decides.{nat_tests}
use Rattle.std.proofs.Math.Seq.{drop-append_seam}
use Rattle.la_base.specs.declared.samples.Run.{Run}
use Rattle.la_base.specs.declared.wires.Feed.{Feed}
use Rattle.la_base.specs.declared.wires.Feed.TheVariants.{Run as RunFeed, Packet as PacketFeed, From, End}
use Rattle.la_base.specs.declared.wires.Out.{Out}
use Rattle.la_base.specs.declared.wires.Out.TheVariants.{Note as NoteOut, Piece as PieceOut, Packet as PacketOut}
use Rattle.decoder_core.specs.Inputs.{Item, Sample, Pack, items_of}
use Rattle.decoder_core.specs.Packets.{IsFloorOver, ItemsFrom}
use Rattle.decoder_core.specs.Promises.{NotesFrom, PacketsFrom}
use Rattle.decoder_core.specs.Trees.{packets_of}
use Rattle.decoder_core.specs.laws.PacketLaws.{from_nought}
use Rattle.tree_runs.proofs.Lists.{packets-append}
use Rattle.tree_runs.proofs.Lowing.{items_from}
use Rattle.tree_runs.specs.Machines.{Definitions}
use Rattle.stack_laws.specs.Links.{some}
use Rattle.stack_laws.specs.Running.{State, is_over}
use Rattle.stack_laws.specs.Legal.{due}
use Rattle.stack_laws.specs.Feeds.{ends_feed, feed_end, feeds_of, floor_feed, items_in}
use Rattle.stack_laws.specs.Heeding.{Heeds, above_in, place_of, without_places}
use Rattle.stack_laws.proofs.Lists.{some-append}
use Rattle.stack_laws.proofs.Wires.{feed_end_is, items-append, no_end_of_packets}

-- feeds without places
pub plain-append : (xs ys : List Feed) → without_places (xs ++ ys) ≡ without_places xs ++ without_places ys
plain-append [] ys = refl
plain-append (RunFeed run ∷ xs) ys = ap (λ (l : List Feed). RunFeed run ∷ l) (plain-append xs ys)
plain-append (PacketFeed packet ∷ xs) ys = ap (λ (l : List Feed). PacketFeed packet ∷ l) (plain-append xs ys)
plain-append (From start ∷ xs) ys = plain-append xs ys
plain-append (End ∷ xs) ys = ap (λ (l : List Feed). End ∷ l) (plain-append xs ys)

pub plain_items : (xs : List Feed) → items_in (without_places xs) ≡ items_in xs
plain_items [] = refl
plain_items (RunFeed run ∷ xs) = ap (λ (l : List Item). items_of (RunFeed run) ++ l) (plain_items xs)
plain_items (PacketFeed packet ∷ xs) = ap (λ (l : List Item). Pack packet ∷ l) (plain_items xs)
plain_items (From start ∷ xs) = plain_items xs
plain_items (End ∷ xs) = plain_items xs

pub plain_some : (xs : List Feed) → some ends_feed (without_places xs) ≡ some ends_feed xs
plain_some [] = refl
plain_some (RunFeed run ∷ xs) = plain_some xs
plain_some (PacketFeed packet ∷ xs) = plain_some xs
plain_some (From start ∷ xs) = plain_some xs
plain_some (End ∷ xs) = refl

-- what a step makes for a child: packets, and a place or none
pub plain_step : (outs : List Out) (floor : Option ℕ) → without_places (feeds_of outs ++ floor_feed floor) ≡ feeds_of outs
plain_step [] None = refl
plain_step [] (Some start) = refl
plain_step (NoteOut note ∷ outs) floor = plain_step outs floor
plain_step (PieceOut piece ∷ outs) floor = plain_step outs floor
plain_step (PacketOut packet ∷ outs) floor = ap (λ (l : List Feed). PacketFeed packet ∷ l) (plain_step outs floor)

pub no_end_of_step : (outs : List Out) (floor : Option ℕ) → some ends_feed (feeds_of outs ++ floor_feed floor) ≡ false
no_end_of_step [] None = refl
no_end_of_step [] (Some start) = refl
no_end_of_step (NoteOut note ∷ outs) floor = no_end_of_step outs floor
no_end_of_step (PieceOut piece ∷ outs) floor = no_end_of_step outs floor
no_end_of_step (PacketOut packet ∷ outs) floor = no_end_of_step outs floor

-- what an end adds
pub plain_end : (b : Bool) → without_places (feed_end b) ≡ feed_end b
plain_end true = refl
plain_end false = refl

-- runs tell no place
pub plain_runs : (runs : List Run) → without_places (map RunFeed runs) ≡ map RunFeed runs
plain_runs [] = refl
plain_runs (run ∷ runs) = ap (λ (l : List Feed). RunFeed run ∷ l) (plain_runs runs)

pub plain_due : (by : Definitions) (state : State) → without_places (due by.whole state (Some None)) ≡ due by.whole state (Some None)
plain_due by state = plain-append (map RunFeed state.fed) (feed_end (is_over state)) ∙ (λ k. plain_runs state.fed k ++ plain_end (is_over state) k)

pub items_of_packets : (outs : List Out) → items_in (feeds_of outs) ≡ packets_of outs
items_of_packets [] = refl
items_of_packets (NoteOut note ∷ outs) = items_of_packets outs
items_of_packets (PieceOut piece ∷ outs) = items_of_packets outs
items_of_packets (PacketOut packet ∷ outs) = ap (λ (l : List Item). Pack packet ∷ l) (items_of_packets outs)

pub items_of_end : (b : Bool) → items_in (feed_end b) ≡ []
items_of_end true = refl
items_of_end false = refl

-- what was made for a child, by what it is without places
module _ (outs : List Out) (closed : Bool) (made : List Feed) (is : without_places made ≡ feeds_of outs ++ feed_end closed) where
  pub made_items : items_in made ≡ packets_of outs
  made_items = sym (plain_items made) ∙ ap items_in is ∙ items-append (feeds_of outs) (feed_end closed) ∙ (λ k. items_of_packets outs k ++ items_of_end closed k) ∙ append-nil (packets_of outs)

  pub made_ends : some ends_feed made ≡ closed
  made_ends = sym (plain_some made) ∙ ap (some ends_feed) is ∙ some-append ends_feed (feeds_of outs) (feed_end closed) ∙ (λ k. no_end_of_packets outs k || (feed_end_is closed).0 k)

-- items from a place on
items_after : (a : ℕ) (xs ys : List Item) → ItemsFrom a (xs ++ ys) → ItemsFrom a ys
items_after a [] ys from = from
items_after a (Sample v ∷ xs) ys from = items_after a xs ys from
items_after a (Pack p ∷ xs) ys from = items_after a xs ys from.1

items_max : (a b : ℕ) (xs : List Item) → ItemsFrom a xs → ItemsFrom b xs → ItemsFrom (max a b) xs
items_max a b [] one other = tt
items_max a b (Sample v ∷ xs) one other = items_max a b xs one other
items_max a b (Pack p ∷ xs) one other = let x = one.0 in let y = other.0 in (omega (arith, x, y), items_max a b xs one.1 other.1)

items_lower : (a b : ℕ) (xs : List Item) → a ≤ b → ItemsFrom b xs → ItemsFrom a xs
items_lower a b [] low from = tt
items_lower a b (Sample v ∷ xs) low from = items_lower a b xs low from
items_lower a b (Pack p ∷ xs) low from = let x = from.0 in (omega (arith, low, x), items_lower a b xs low from.1)

samples_from : (a : ℕ) (xs : List ℕ) → ItemsFrom a (map Sample xs)
samples_from a [] = tt
samples_from a (x ∷ xs) = samples_from a xs

-- a floor over a place is one over every later place
pub floor_later : (a b : ℕ) (whole : List Item → List Out) (input : List Item) (floor : ℕ) → a ≤ b → IsFloorOver a whole input floor → IsFloorOver b whole input floor
floor_later a b whole input floor low holds more new from is = holds more new (items_lower a b more low from) is

-- the larger of two floors
notes_max : (a b : ℕ) (outs : List Out) → NotesFrom a outs → NotesFrom b outs → NotesFrom (max a b) outs
notes_max a b [] one other = tt
notes_max a b (NoteOut note ∷ outs) one other = let x = one.0 in let y = other.0 in (omega (arith, x, y), notes_max a b outs one.1 other.1)
notes_max a b (PieceOut piece ∷ outs) one other = notes_max a b outs one other
notes_max a b (PacketOut packet ∷ outs) one other = notes_max a b outs one other

packets_max : (a b : ℕ) (outs : List Out) → PacketsFrom a outs → PacketsFrom b outs → PacketsFrom (max a b) outs
packets_max a b [] one other = tt
packets_max a b (NoteOut note ∷ outs) one other = packets_max a b outs one other
packets_max a b (PieceOut piece ∷ outs) one other = packets_max a b outs one other
packets_max a b (PacketOut packet ∷ outs) one other = let x = one.0 in let y = other.0 in (omega (arith, x, y), packets_max a b outs one.1 other.1)

pub floor_max : (above : ℕ) (whole : List Item → List Out) (input : List Item) (own over : ℕ) → IsFloorOver 0 whole input own → IsFloorOver above whole input over → IsFloorOver above whole input (max own over)
floor_max above whole input own over one other more new from is =
    let a = one more new (from_nought more) is in
    let b = other more new from is in
    (notes_max own over new a.0 b.0, packets_max own over new a.1 b.1)

-- drops
less_one : (m n : ℕ) → m - n ≡ suc m - suc n
less_one m n = omega arith

less_none : (n : ℕ) → n ≡ n - 0
less_none n = omega arith

less_all : (n : ℕ) → 0 ≡ 0 - n
less_all n = omega arith

drop_samples : (n : ℕ) (xs : List ℕ) → drop n (map Sample xs) ≡ map Sample (drop n xs)
drop_samples zero xs = refl
drop_samples (suc n) [] = refl
drop_samples (suc n) (x ∷ xs) = drop_samples n xs

drop_within : {X : Type 0} (n : ℕ) (xs ys : List X) → n ≤ length xs → drop n (xs ++ ys) ≡ drop n xs ++ ys
drop_within zero xs ys within = refl
drop_within (suc n) [] ys within = absurd (omega (arith, within))
drop_within (suc n) (x ∷ xs) ys within = drop_within n xs ys (omega (arith, within))

drop_length : {X : Type 0} (n : ℕ) (xs : List X) → length (drop n xs) ≡ length xs - n
drop_length zero xs = omega arith
drop_length (suc n) [] = omega arith
drop_length (suc n) (x ∷ xs) = drop_length n xs ∙ less_one (length xs) n

-- items that heed feeds heed the first of them
pub heeds_front : (xs ys : List Feed) (items : List Item) → Heeds (xs ++ ys) items → Heeds xs items
heeds_front [] ys items heeds = tt
heeds_front (x ∷ xs) ys items heeds = (heeds.0, heeds_front xs ys (drop (length (items_of x)) items) heeds.1)

-- and the first items of some heed what all do
drop_over : {X : Type 0} (n : ℕ) (xs ys : List X) → drop n (xs ++ ys) ≡ drop n xs ++ drop (n - length xs) ys
drop_over zero [] ys = refl
drop_over {X} zero (x ∷ xs) ys = ap (λ (n : ℕ). (x ∷ xs) ++ drop n ys) (less_all (suc (length xs)))
drop_over {X} (suc n) [] ys = ap (λ (k : ℕ). drop k ys) (less_none (suc n))
drop_over (suc n) (x ∷ xs) ys = drop_over n xs ys ∙ ap (λ (k : ℕ). drop n xs ++ drop k ys) (less_one n (length xs))

items_before : (a : ℕ) (xs ys : List Item) → ItemsFrom a (xs ++ ys) → ItemsFrom a xs
items_before a [] ys from = tt
items_before a (Sample v ∷ xs) ys from = items_before a xs ys from
items_before a (Pack p ∷ xs) ys from = (from.0, items_before a xs ys from.1)

pub heeds_less : (feeds : List Feed) (xs ys : List Item) → Heeds feeds (xs ++ ys) → Heeds feeds xs
heeds_less [] xs ys heeds = tt
heeds_less (feed ∷ feeds) xs ys heeds =
    let n = length (items_of feed) in
    (items_before (place_of feed) xs ys heeds.0, heeds_less feeds (drop n xs) (drop (n - length xs) ys) (subst (Heeds feeds) (drop_over n xs ys) heeds.1))

-- feeds after feeds
pub heeds_then : (xs ys : List Feed) (rest : List Item) → Heeds xs (items_in xs ++ rest) → Heeds ys rest → Heeds (xs ++ ys) (items_in xs ++ rest)
heeds_then [] ys rest one other = other
heeds_then (x ∷ xs) ys rest one other =
    let all : (items_of x ++ items_in xs) ++ rest ≡ items_of x ++ (items_in xs ++ rest) = append_assoc (items_of x) (items_in xs) rest in
    let cut : drop (length (items_of x)) ((items_of x ++ items_in xs) ++ rest) ≡ items_in xs ++ rest = ap (drop (length (items_of x))) all ∙ drop-append_seam (items_of x) (items_in xs ++ rest) in
    (one.0, subst (Heeds (xs ++ ys)) (sym cut) (heeds_then xs ys rest (subst (Heeds xs) cut one.1) other))

-- samples heed all
pub heeds_samples : (feeds : List Feed) (xs : List ℕ) → Heeds feeds (map Sample xs)
heeds_samples [] xs = tt
heeds_samples (feed ∷ feeds) xs = (samples_from (place_of feed) xs, subst (Heeds feeds) (sym (drop_samples (length (items_of feed)) xs)) (heeds_samples feeds (drop (length (items_of feed)) xs)))

-- packets tell no place
pub heeds_packets : (outs : List Out) (rest : List Item) → Heeds (feeds_of outs) (packets_of outs ++ rest)
heeds_packets [] rest = tt
heeds_packets (NoteOut note ∷ outs) rest = heeds_packets outs rest
heeds_packets (PieceOut piece ∷ outs) rest = heeds_packets outs rest
heeds_packets (PacketOut packet ∷ outs) rest = (from_nought (Pack packet ∷ (packets_of outs ++ rest)), heeds_packets outs rest)

-- an end tells none
pub heeds_end : (items : List Item) → Heeds (End ∷ []) items
heeds_end items = (from_nought items, tt)

-- what comes after what was consumed starts at the largest place told so far
pub above_heeds : (received : List Feed) (consumed more : List Item) → Heeds received (consumed ++ more) → ItemsFrom (above_in received (length consumed)) more
above_heeds [] consumed more heeds = from_nought more
above_heeds (feed ∷ feeds) consumed more heeds =
    items_max (place_of feed) (if nat_le (length (items_of feed)) (length consumed) then above_in feeds (length consumed - length (items_of feed)) else 0) more (items_after (place_of feed) consumed more heeds.0)
    (by (nat_le (length (items_of feed)) (length consumed)) refl (λ eaten later. above_heeds feeds eaten more later))
  where
    n : ℕ
    n = length (items_of feed)

    by : (b : Bool) → nat_le n (length consumed) ≡ b → ((eaten : List Item) → Heeds feeds (eaten ++ more) → ItemsFrom (above_in feeds (length eaten)) more) → ItemsFrom (if b then above_in feeds (length consumed - n) else 0) more
    by false is further = from_nought more
    by true is further =
        let within : n ≤ length consumed = grind (arith, nat_tests) in
        subst (λ (k : ℕ). ItemsFrom (above_in feeds k) more) (drop_length n consumed) (further (drop n consumed) (subst (Heeds feeds) (drop_within n consumed more within) heeds.1))

-- the largest place told so far never falls
pub above_grows : (received : List Feed) (m n : ℕ) → m ≤ n → above_in received m ≤ above_in received n
above_grows [] m n low = omega arith
above_grows (feed ∷ feeds) m n low = by (nat_le k m) refl (nat_le k n) refl (λ a b less. above_grows feeds a b less)
  where
    k : ℕ
    k = length (items_of feed)

    by : (x : Bool) → nat_le k m ≡ x → (y : Bool) → nat_le k n ≡ y → ((a b : ℕ) → a ≤ b → above_in feeds a ≤ above_in feeds b)
        → max (place_of feed) (if x then above_in feeds (m - k) else 0) ≤ max (place_of feed) (if y then above_in feeds (n - k) else 0)
    by false is y other further = omega arith
    by true is true other further = let rest = further (m - k) (n - k) (omega (arith, low)) in omega (arith, rest)
    by true is false other further =
        let a : k ≤ m = grind (arith, nat_tests) in
        let b : n < k = grind (arith, nat_tests) in
        absurd (omega (arith, a, b, low))

pub above_more : (received more : List Feed) (n : ℕ) → above_in received n ≤ above_in (received ++ more) n
above_more [] more n = omega arith
above_more (feed ∷ feeds) more n = by (nat_le (length (items_of feed)) n) (above_more feeds more (n - length (items_of feed)))
  where
    by : (b : Bool) → above_in feeds (n - length (items_of feed)) ≤ above_in (feeds ++ more) (n - length (items_of feed))
        → max (place_of feed) (if b then above_in feeds (n - length (items_of feed)) else 0) ≤ max (place_of feed) (if b then above_in (feeds ++ more) (n - length (items_of feed)) else 0)
    by true rest = omega (arith, rest)
    by false rest = omega arith

-- a feed is told once all items before it were consumed
pub above_at : (before : List Feed) (feed : Feed) (more : List Feed) → place_of feed ≤ above_in (before ++ feed ∷ more) (length (items_in before))
above_at [] feed more = omega arith
above_at (first ∷ before) feed more = by (nat_le k all) refl (above_at before feed more)
  where
    k : ℕ
    k = length (items_of first)

    all : ℕ
    all = length (items_of first ++ items_in before)

    parts : all ≡ k + length (items_in before)
    parts = length-append (items_of first) (items_in before)

    by : (b : Bool) → nat_le k all ≡ b → place_of feed ≤ above_in (before ++ feed ∷ more) (length (items_in before)) → place_of feed ≤ max (place_of first) (if b then above_in (before ++ feed ∷ more) (all - k) else 0)
    by true is rest =
        let same : length (items_in before) ≡ all - k = omega (arith, parts) in
        let further = subst (λ (n : ℕ). place_of feed ≤ above_in (before ++ feed ∷ more) n) same rest in
        omega (arith, further)
    by false is rest = let past : all < k = grind (arith, nat_tests) in absurd (omega (arith, past, parts))

-- the places that were told a child hold still where a stage steps: what it gives now and later heeds them, and the place that it tells now is low
pub places_step : (whole : List Item → List Out) (received : List Feed) (consumed items : List Item) (new : List Out) (floor : Option ℕ) (made : List Feed)
    → whole (consumed ++ items) ≡ whole consumed ++ new → ((x more : List Item) → (rest : List Out) × (whole (x ++ more) ≡ whole x ++ rest)) → items_in made ≡ packets_of (whole consumed)
    → ((start : ℕ) → floor ≡ Some start → IsFloorOver (above_in received (length (consumed ++ items))) whole (consumed ++ items) start)
    → ((more : List Item) → Heeds received (consumed ++ more) → Heeds made (packets_of (whole (consumed ++ more))))
    → (more : List Item) → Heeds received ((consumed ++ items) ++ more) → Heeds (made ++ (feeds_of new ++ floor_feed floor)) (packets_of (whole ((consumed ++ items) ++ more)))
places_step whole received consumed items new floor made adds keeps ate may places more heeds =
    let grows = keeps (consumed ++ items) more in
    let before : Heeds made (packets_of (whole (consumed ++ (items ++ more)))) = places (items ++ more) (subst (Heeds received) (append_assoc consumed items more) heeds) in
    let gives : whole ((consumed ++ items) ++ more) ≡ whole consumed ++ (new ++ grows.0) = grows.1 ∙ ap (λ (l : List Out). l ++ grows.0) adds ∙ append_assoc (whole consumed) new grows.0 in
    let packets : packets_of (whole ((consumed ++ items) ++ more)) ≡ items_in made ++ packets_of (new ++ grows.0) =
    ap packets_of gives ∙ packets-append (whole consumed) (new ++ grows.0) ∙ ap (λ (l : List Item). l ++ packets_of (new ++ grows.0)) (sym ate) in
    let now : Heeds (feeds_of new ++ floor_feed floor) (items_in (feeds_of new) ++ packets_of grows.0) =
    heeds_then (feeds_of new) (floor_feed floor) (packets_of grows.0) (subst (λ (l : List Item). Heeds (feeds_of new) (l ++ packets_of grows.0)) (sym (items_of_packets new)) (heeds_packets new (packets_of grows.0))) (last floor may grows.0 grows.1) in
    let later : Heeds (feeds_of new ++ floor_feed floor) (packets_of (new ++ grows.0)) =
    subst (Heeds (feeds_of new ++ floor_feed floor)) (ap (λ (l : List Item). l ++ packets_of grows.0) (items_of_packets new) ∙ sym (packets-append new grows.0)) now in
    subst (Heeds (made ++ (feeds_of new ++ floor_feed floor))) (sym packets)
    (heeds_then made (feeds_of new ++ floor_feed floor) (packets_of (new ++ grows.0)) (subst (Heeds made) (ap (λ (l : List Item). packets_of (whole l)) (sym (append_assoc consumed items more)) ∙ packets) before) later)
  where
    last : (floor : Option ℕ) → ((start : ℕ) → floor ≡ Some start → IsFloorOver (above_in received (length (consumed ++ items))) whole (consumed ++ items) start)
        → (rest : List Out) → whole ((consumed ++ items) ++ more) ≡ whole (consumed ++ items) ++ rest → Heeds (floor_feed floor) (packets_of rest)
    last None may rest is = tt
    last (Some start) may rest is = (items_from start rest (may start refl more rest (above_heeds received (consumed ++ items) more heeds) is).1, tt)

-- and where it closes
pub places_close : (made : List Feed) (all : List Item) → Heeds made all → Heeds (made ++ End ∷ []) all
places_close [] all heeds = heeds_end all
places_close (x ∷ made) all heeds = (heeds.0, places_close made (drop (length (items_of x)) all) heeds.1)
