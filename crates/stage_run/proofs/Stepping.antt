-- What waits, when some of it was consumed.
use Rattle.std.proofs.Common.{◌≡◌, ℕ, ◌<◌, List, [], ◌∷◌, ◌++◌, get_or, map, take, drop, length, Option, Some, None, refl, sym, ◌∙◌, ap, arith, append_assoc}
use Rattle.std.proofs.lemmas.List.{map-append}
use Rattle.la_base.specs.Samples.{samples}
use Rattle.la_base.specs.Runs.{samples_of}
use Rattle.la_base.specs.declared.samples.Run.{Run}
use Rattle.la_base.specs.declared.wires.Feed.{Feed}
use Rattle.la_base.proofs.RunLemmas.{samples_parts}
use Rattle.decoder_core.specs.Inputs.{Item, Sample, items_of, left_feed, left_items}
use Rattle.stack_laws.specs.Feeds.{items_in}
use Rattle.stage_run.specs.Rows.{with_left}

left_runs : (rest : Option Run) (others : List Run) → map Sample (samples_of (with_left rest others)) ≡ left_items (left_feed rest) ++ map Sample (samples_of others)
left_runs None others = refl
left_runs (Some run) others = map-append Sample (samples run) (samples_of others)

-- runs of which some were taken
pub runs_step : (w now : List Run) (n : ℕ) (rest : Option Run) (front behind : List Item) → map Sample (samples_of (take n w)) ≡ front ++ left_items (left_feed rest) → now ≡ with_left rest (drop n w)
    → map Sample (samples_of w) ++ behind ≡ front ++ (map Sample (samples_of now) ++ behind)
runs_step w now n rest front behind split is =
    let others = map Sample (samples_of (drop n w)) in
    let left = left_items (left_feed rest) in
    ap (λ (l : List Item). l ++ behind)
    (ap (map Sample) (samples_parts w n) ∙ map-append Sample (samples_of (take n w)) (samples_of (drop n w)) ∙ ap (λ (l : List Item). l ++ others) split
    ∙ append_assoc front left others ∙ ap (λ (l : List Item). front ++ l) (sym (ap (λ (l : List Run). map Sample (samples_of l)) is ∙ left_runs rest (drop n w))))
    ∙ append_assoc front (map Sample (samples_of now)) behind

left_feeds : (left : Option Feed) (others : List Feed) → items_in (with_left left others) ≡ left_items left ++ items_in others
left_feeds None others = refl
left_feeds (Some feed) others = refl

-- the first of some feeds, of which a part was taken, where no run waits before them
pub feeds_step : (w now : List Feed) (feed : Feed) (left : Option Feed) (front runs : List Item) → w ≡ feed ∷ drop 1 w → runs ≡ [] → items_of feed ≡ front ++ left_items left → now ≡ with_left left (drop 1 w)
    → runs ++ items_in w ≡ front ++ (runs ++ items_in now)
feeds_step w now feed left front runs first none split is =
    (λ i. none i ++ items_in w) ∙ ap items_in first ∙ ap (λ (l : List Item). l ++ items_in (drop 1 w)) split ∙ append_assoc front (left_items left) (items_in (drop 1 w))
    ∙ ap (λ (l : List Item). front ++ l) (sym (ap items_in is ∙ left_feeds left (drop 1 w)) ∙ (λ i. sym none i ++ items_in now))

-- the first of some
pub first_is : {T : Type 0} (w : List T) (first : T) → 0 < length w → first ≡ get_or w 0 first → w ≡ first ∷ drop 1 w
first_is [] first some is = absurd (omega (arith, some))
first_is (x ∷ xs) first some is = λ i. sym is i ∷ xs

-- more was consumed
pub left_on : (came : List Item) (consumed front left now : List Item) → came ≡ consumed ++ left → left ≡ front ++ now → came ≡ (consumed ++ front) ++ now
left_on came consumed front left now is split = is ∙ ap (λ (l : List Item). consumed ++ l) split ∙ sym (append_assoc consumed front now)
