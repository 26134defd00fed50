-- Places that feeds tell which wait.
use Rattle.std.proofs.Common.{◌≡◌, ℕ, ◌+◌, ◌<◌, ◌≤◌, ◌⊎◌, inl, inr, List, [], ◌∷◌, ◌++◌, map, drop, length, length-append, Option, Some, None, refl, sym, ◌∙◌, ap, subst, arith, append_assoc}
use Rattle.std.specs.Prelude.{IfSome}
use Rattle.std.proofs.lemmas.List.{append-nil, length-map}
use Rattle.la_base.specs.Runs.{samples_of}
use Rattle.la_base.specs.declared.samples.Run.{Run}
use Rattle.la_base.specs.declared.wires.Feed.{Feed}
use Rattle.la_base.specs.declared.wires.Feed.TheVariants.{Run as RunFeed, Packet as PacketFeed, From, End}
use Rattle.decoder_core.specs.Inputs.{Item, Sample, items_of, left_items}
use Rattle.stack_laws.specs.Feeds.{items_in}
use Rattle.stack_laws.specs.Heeding.{above_in, place_of}
use Rattle.stack_laws.proofs.Heeding.{above_at, above_more}
use Rattle.stage_run.specs.Boxes.{LieIn}
use Rattle.stage_run.specs.Rows.{with_left}
use Rattle.stage_run.proofs.Lists.{items-append}

-- what came last lies after all items that came before
pub lies_new : (received more : List Feed) → LieIn (received ++ more) (length (items_in received)) more
lies_new received [] = tt
lies_new received (feed ∷ more) =
    let one : items_in (feed ∷ []) ≡ items_of feed = append-nil (items_of feed) in
    let count : length (items_in (received ++ feed ∷ [])) ≡ length (items_in received) + length (items_of feed) = ap length (items-append received (feed ∷ []) ∙ ap (λ (l : List Item). items_in received ++ l) one) ∙ length-append (items_in received) (items_of feed) in (
      above_at received feed more,
      subst (λ (n : ℕ). LieIn (received ++ feed ∷ more) n more) count
          (subst (λ (l : List Feed). LieIn l (length (items_in (received ++ feed ∷ []))) more) (append_assoc received (feed ∷ []) more) (lies_new (received ++ feed ∷ []) more)),
    )

-- what has items tells no place
nothing_told : (feed : Feed) → 0 < length (items_of feed) → place_of feed ≡ 0
nothing_told (RunFeed run) some = refl
nothing_told (PacketFeed packet) some = refl
nothing_told (From start) some = absurd (omega (arith, some))
nothing_told End some = refl

-- the first was consumed, or a part of it
module _ (received : List Feed) (count : ℕ) (w now : List Feed) (feed : Feed) (front : List Item) (first : w ≡ feed ∷ drop 1 w) (lies : LieIn received count w) where
  abbrev told : LieIn received count (feed ∷ drop 1 w)
  told = subst (LieIn received count) first lies

  pub first_told : place_of feed ≤ above_in received count
  first_told = told.0

  pub lies_step : (left : Option Feed) → items_of feed ≡ front ++ left_items left → IfSome left (λ rest. 0 < length (items_of rest)) → now ≡ with_left left (drop 1 w) → LieIn received (count + length front) now
  lies_step None split some is =
      let all : length (items_of feed) ≡ length front = ap length (split ∙ append-nil front) in
      subst (LieIn received (count + length front)) (sym is) (subst (λ (n : ℕ). LieIn received (count + n) (drop 1 w)) all told.1)
  lies_step (Some rest) split some is =
      let none = nothing_told rest some in
      let all : count + length (items_of feed) ≡ (count + length front) + length (items_of rest) = let a = ap length split in let b = length-append front (items_of rest) in omega (arith, a, b) in
      subst (LieIn received (count + length front)) (sym is) (omega (arith, none), subst (λ (n : ℕ). LieIn received n (drop 1 w)) all told.1)

-- as many items lie before them where some of the runs that waited were consumed
pub lies_runs : (received feeds : List Feed) (consumed front : List Item) (w now : List Run) (behind : List Item) → map Sample (samples_of w) ++ behind ≡ front ++ (map Sample (samples_of now) ++ behind)
    → LieIn received (length consumed + length (samples_of w)) feeds → LieIn received (length (consumed ++ front) + length (samples_of now)) feeds
lies_runs received feeds consumed front w now behind is lies =
    let all = ap length is in
    let a = length-append (map Sample (samples_of w)) behind in
    let b = length-append front (map Sample (samples_of now) ++ behind) in
    let c = length-append (map Sample (samples_of now)) behind in
    let d = length-map (samples_of w) Sample in
    let e = length-map (samples_of now) Sample in
    let f = length-append consumed front in
    let same : length consumed + length (samples_of w) ≡ length (consumed ++ front) + length (samples_of now) = omega (arith, all, a, b, c, d, e, f) in
    subst (λ (n : ℕ). LieIn received n feeds) same lies

-- more was received, after all that came before was consumed
pub received_above : (received more : List Feed) (above count : ℕ) → above ≤ above_in received count → above ≤ above_in (received ++ more) count
received_above received more above count low = let grown = above_more received more count in omega (arith, low, grown)

pub received_lies : (received more : List Feed) (consumed : List Item) (runs : List Run) (feeds : List Feed) → items_in received ≡ consumed → (feeds ≡ []) ⊎ ((runs ≡ []) × (feeds ≡ more)) → LieIn (received ++ more) (length consumed + length (samples_of runs)) feeds
received_lies received more consumed runs feeds all (inl none) = subst (LieIn (received ++ more) (length consumed + length (samples_of runs))) (sym none) tt
received_lies received more consumed runs feeds all (inr waits) =
    let none = ap (λ (l : List Run). length (samples_of l)) waits.0 in
    let same = ap (λ (l : List Item). length l) all in
    let count : length (items_in received) ≡ length consumed + length (samples_of runs) = omega (arith, none, same) in
    subst (LieIn (received ++ more) (length consumed + length (samples_of runs))) (sym waits.1) (subst (λ (n : ℕ). LieIn (received ++ more) n more) count (lies_new received more))

-- nothing waits
pub opened_lies : (received : List Feed) (count : ℕ) (w none : List Feed) → w ≡ none → none ≡ [] → LieIn received count w
opened_lies received count w none is nothing = subst (LieIn received count) (sym (is ∙ nothing)) tt
