-- What comes on a link, one after another.
use Rattle.std.proofs.Common.{◌≡◌, ◌≤◌, ◌<◌, ℕ, zero, suc, ◌+◌, Bool, true, false, ◌||◌, List, [], ◌∷◌, ◌++◌, map, take, drop, get_or, set, length, length-append, replicate, refl, sym, ◌∙◌, ap, arith, if◌then◌else◌}
use Rattle.std.specs.Prelude.{nat_eq, ◌&&◌}
use Rattle.std.proofs.lemmas.Bool.Decides.{nat_tests}
use Rattle.std.proofs.lemmas.List.{take_more, append-nil, map-append, length-set, take-set, get_or-set_same}
use Rattle.la_base.specs.Samples.{samples}
use Rattle.la_base.specs.Runs.{samples_of}
use Rattle.la_base.specs.declared.samples.Run.{Run}
use Rattle.la_base.specs.declared.wires.Feed.{Feed}
use Rattle.la_base.specs.declared.wires.Feed.TheVariants.{End as EndFeed}
use Rattle.stage_ring.specs.Link.{received}
use Rattle.la_base.proofs.RunLemmas.{samples_push}
use Rattle.decoder_core.specs.Inputs.{Item, Sample}
use Rattle.stack_laws.specs.Links.{some}
use Rattle.stack_laws.specs.Feeds.{ends_feed, items_in}
use Rattle.stage_run.specs.Boxes.{is_idle, waiting_of}
use Rattle.stage_run.specs.Inputs.{came, feeds_by, feeds_in, taken, told_behind, told_on, upper_by, whole_value}
use Rattle.stage_run.specs.declared.input.Input.{Input}
use Rattle.stage_run.specs.declared.input.Input.TheVariants.{Samples, Packets}
use Rattle.stage_run.specs.Rows.{Kept, waiting}
use Rattle.stage_run.specs.declared.inbox.Inbox.{Inbox}
use Rattle.stage_run.specs.declared.input.HalfRun.{HalfRun}
use Rattle.stage_run.proofs.Lists.{items-append}
use Rattle.stage_run.proofs.Telling.{feeds_in-append, told-append, told_more}

pub some-append : {X : Type 0} (test : X → Bool) (xs ys : List X) → some test (xs ++ ys) ≡ (some test xs || some test ys)
some-append test [] ys = refl
some-append test (x ∷ xs) ys = ap (λ b. test x || b) (some-append test xs ys) ∙ sym (or_assoc (test x) (some test xs) (some test ys))
  where
    or_assoc : (a b c : Bool) → ((a || b) || c) ≡ (a || (b || c))
    or_assoc true b c = refl
    or_assoc false b c = refl

pub or_true : (b : Bool) → (b || true) ≡ true
or_true true = refl
or_true false = refl

-- of a half run with samples
run_items : (upper value len : ℕ) (run : Run) → run.value ≡ whole_value upper value → run.len ≡ len → items_in (feeds_by upper value len) ≡ map Sample (samples run)
unfolding samples
run_items upper value zero run v l = let some = run.not_empty in absurd (omega (arith, some, l))
run_items upper value (suc n) run v l = append-nil (map Sample (replicate (suc n) (whole_value upper value))) ∙ (λ i. map Sample (replicate (sym l i) (sym v i)))

-- of one with none
none_items : (upper value len : ℕ) → len ≡ 0 → items_in (feeds_by upper value len) ≡ []
none_items upper value zero none = by (nat_eq value upper)
  where
    by : (b : Bool) → items_in (if b then EndFeed ∷ [] else []) ≡ []
    by true = refl
    by false = refl
none_items upper value (suc n) none = absurd (omega (arith, none))

none_ends : (upper value len : ℕ) → len ≡ 0 → value ≡ upper → some ends_feed (feeds_by upper value len) ≡ true
none_ends upper value zero none same = let is : nat_eq value upper ≡ true = grind (arith, nat_tests, same) in ap (λ (b : Bool). some ends_feed (if b then EndFeed ∷ [] else [])) is
none_ends upper value (suc n) none same = absurd (omega (arith, none))

told_none : (upper value len : ℕ) → len ≡ 0 → upper_by upper value len ≡ value
told_none upper value zero none = refl
told_none upper value (suc n) none = absurd (omega (arith, none))

module _ (upper : ℕ) (xs : List HalfRun) (i : ℕ) (d : HalfRun) (within : i < length xs) where
  abbrev here : HalfRun
  here = get_or xs i d

  abbrev front : ℕ → List Feed
  front n = feeds_in upper (take n xs)

  abbrev told : ℕ
  told = told_behind upper (take i xs)

  abbrev new : List Feed
  new = feeds_by told here.value here.len

  front_next : front (i + 1) ≡ front i ++ new
  front_next = ap (feeds_in upper) (take_more xs i d within) ∙ feeds_in-append upper (take i xs) (here ∷ []) ∙ ap (λ (l : List Feed). front i ++ l) (append-nil new)

  told_next : told_behind upper (take (i + 1) xs) ≡ upper_by told here.value here.len
  told_next = ap (told_behind upper) (take_more xs i d within) ∙ told-append upper (take i xs) (here ∷ [])

  items_next : items_in (front (i + 1)) ≡ items_in (front i) ++ items_in new
  items_next = ap items_in front_next ∙ items-append (front i) new

  ends_next : some ends_feed (front (i + 1)) ≡ (some ends_feed (front i) || some ends_feed new)
  ends_next = ap (some ends_feed) front_next ∙ some-append ends_feed (front i) new

  -- one with samples
  pub pushed_items : (now : ℕ) (old : List Run) (run : Run) → now ≡ told → run.value ≡ whole_value now here.value → run.len ≡ here.len → map Sample (samples_of old) ≡ items_in (front i) → map Sample (samples_of (old ++ run ∷ [])) ≡ items_in (front (i + 1))
  pushed_items now old run is v l had =
      ap (map Sample) (samples_push old run) ∙ map-append Sample (samples_of old) (samples run)
      ∙ (λ k. had k ++ sym (run_items told here.value here.len run (v ∙ ap (λ (n : ℕ). whole_value n here.value) is) l) k) ∙ sym items_next

  pub pushed_told : (now : ℕ) → now ≡ told → 0 < here.len → now ≡ told_behind upper (take (i + 1) xs)
  pushed_told now is more = is ∙ sym (told_next ∙ told_more told here.value here.len more)

  pub pushed_ends : some ends_feed (front i) ≡ true → some ends_feed (front (i + 1)) ≡ true
  pushed_ends had = ends_next ∙ ap (λ b. b || some ends_feed new) had

  -- one with none
  pub ended_items : here.len ≡ 0 → (old : List Run) → map Sample (samples_of old) ≡ items_in (front i) → map Sample (samples_of old) ≡ items_in (front (i + 1))
  ended_items none old had = had ∙ sym (append-nil (items_in (front i))) ∙ ap (λ (l : List Item). items_in (front i) ++ l) (sym (none_items told here.value here.len none)) ∙ sym items_next

  pub ended_told : here.len ≡ 0 → here.value ≡ told_behind upper (take (i + 1) xs)
  ended_told none = sym (told_next ∙ told_none told here.value here.len none)

  pub ended_ends : (now : ℕ) → now ≡ told → here.len ≡ 0 → here.value ≡ now → some ends_feed (front (i + 1)) ≡ true
  ended_ends now is none same = ends_next ∙ ap (λ b. some ends_feed (front i) || b) (none_ends told here.value here.len none (same ∙ is)) ∙ or_true (some ends_feed (front i))

-- a row of which nothing is done
pub all_wait : {T : Type 0} (row : Kept T) → row.at ≡ 0 → waiting row ≡ row.list
all_wait row start = ap (λ n. drop n row.list) start

empty : {X : Type 0} (xs : List X) → length xs ≡ 0 → xs ≡ []
empty [] none = refl
empty (x ∷ xs) none = absurd (omega (arith, none))

pub pushed_few : (new old : List Run) (run : Run) (n : ℕ) → new ≡ old ++ run ∷ [] → length old ≤ n → length new ≤ n + 1
pushed_few new old run n is few = omega (arith, ap length is, length-append old (run ∷ []), few)

-- nothing waits
pub none_of : {X : Type 0} (xs : List X) → nat_eq (length xs) 0 ≡ true → xs ≡ []
none_of [] is = refl
none_of (x ∷ xs) is = let no : length (x ∷ xs) ≡ 0 = grind (arith, nat_tests) in absurd (omega (arith, no))

pub none_waits : {X Y : Type 0} (xs : List X) (ys : List Y) → (nat_eq (length xs) 0 && nat_eq (length ys) 0) ≡ true → (xs ≡ []) × (ys ≡ [])
none_waits xs ys is = (none_of xs (first _ _ is), none_of ys (second _ _ is))
  where
    first : (a b : Bool) → (a && b) ≡ true → a ≡ true
    first true b is = refl
    first false b is = is

    second : (a b : Bool) → (a && b) ≡ true → b ≡ true
    second true b is = is
    second false b is = let no : false ≡ true = is in absurd cc

pub idle_waits : (inbox : Inbox) → is_idle inbox ≡ true → waiting_of inbox ≡ []
idle_waits inbox is = let none = none_waits (waiting inbox.runs) (waiting inbox.feeds) is in λ i. map Sample (samples_of (none.0 i)) ++ items_in (none.1 i)

-- the end is among what came
pub came_end : (received more : List Feed) → some ends_feed more ≡ true → some ends_feed (received ++ more) ≡ true
came_end received more is = some-append ends_feed received more ∙ ap (λ b. some ends_feed received || b) is ∙ or_true (some ends_feed received)

-- one more run at the front of room
pub put_items : (upper : ℕ) (xs : List HalfRun) (i : ℕ) (d : HalfRun) (room : List Run) (run : Run) → i < length xs → i < length room → upper ≡ told_behind upper (take i xs) → run.value ≡ whole_value upper (get_or xs i d).value → run.len ≡ (get_or xs i d).len
    → map Sample (samples_of (take i room)) ≡ items_in (feeds_in upper (take i xs)) → map Sample (samples_of (take (i + 1) (set room i run))) ≡ items_in (feeds_in upper (take (i + 1) xs))
put_items upper xs i d room run within low told v l had =
    let longer : i < length (set room i run) = omega (arith, low, length-set room i run) in
    let more : take (i + 1) (set room i run) ≡ take i room ++ run ∷ [] =
    take_more (set room i run) i run longer ∙ (λ k. take-set room i run k ++ get_or-set_same room i run run low k ∷ []) in
    ap (λ (t : List Run). map Sample (samples_of t)) more ∙ pushed_items upper xs i d within upper (take i room) run told v l had

-- nothing was received, so nothing came or was told
pub none_came : (input : Input) → taken input ≡ 0 → (came input ≡ []) × (told_on input ≡ 0)
none_came (Samples rx) none = let is = empty (received rx) none in (ap (feeds_in 0) is, ap (told_behind 0) is)
none_came (Packets rx) none = (empty (received rx) none, refl)
