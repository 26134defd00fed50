-- The queues of all instances, when one changes.
use mathlib.Core.Logic.{∥∥₁_elim, ∥∥₁_map}
use native.Mathlib.Nat.{ℕ_set}
use Rattle.std.proofs.Common.{◌≡◌, inl, inr, ℕ, zero, suc, ◌+◌, ◌-◌, ◌^◌, ◌≤◌, ◌<◌, IfSome, IfNone, List, [], ◌∷◌, ◌++◌, length, get_or, drop, map, set, Option, Some, None, true, refl, sym, ◌∙◌, ap, subst, arith}
use Rattle.std.specs.List.{All, slice_get}
use Rattle.std.specs.Option.{option_eq}
use Rattle.std.proofs.Math.Dec.{eqb}
use Rattle.std.proofs.lemmas.Bool.{cases_lt, eqb-true, true≢false}
use Rattle.std.proofs.lemmas.Grind.{not_there}
use Rattle.std.proofs.lemmas.List.{length-append}
use Rattle.std.proofs.lemmas.Option.{same_Some, slice_get_within}
use Rattle.note_order.specs.Order.{in_order}
use Rattle.note_order.specs.declared.entry.Entry.{Entry}
use Rattle.annot_merge.specs.Places.{GoesOn}
use Rattle.annot_merge.specs.Limits.{Leads}
use Rattle.annot_merge.specs.Merging.{InOrder, PutsIn}
use Rattle.annot_merge.specs.Queues.{AreOf, AreQueues, Arranged, FirstAt, Fits, IsQueue, RunAt, all_of, head_of, listing_of, lists_of, live}
use Rattle.annot_merge.specs.declared.limit.Lead.{Lead}
use Rattle.annot_merge.specs.declared.queue.Queue.{Queue}
use Rattle.annot_merge.proofs.Orders.{order_is_in_order}
use Rattle.annot_merge.proofs.QueueLemmas.{arranged_set, get_map, holds_none, holds_some, map_length, map_set, first_starts, order_length, puts_in_all, puts_of, queue_at, same_entries, set_same, takes_first}
use Rattle.annot_merge.proofs.RunLemmas.{each_goes_on, run_first}

pub fits_of : (o : Option ℕ) → IfSome o (λ start. start < 2 ^ 64) → Fits o
fits_of None f = tt
fits_of (Some start) f = f

pub fits_back : (o : Option ℕ) → Fits o → IfSome o (λ start. start < 2 ^ 64)
fits_back None f = tt
fits_back (Some start) f = f

drop_ordered : (n : ℕ) (list : List Entry) → InOrder list → InOrder (drop n list)
drop_ordered zero list ordered = ordered
drop_ordered (suc n) [] ordered = tt
drop_ordered (suc n) (e ∷ es) ordered = drop_ordered n es ordered.1

drop_of : (n i : ℕ) (list : List Entry) → AreOf i list → AreOf i (drop n list)
drop_of zero i list of = of
drop_of (suc n) i [] of = tt
drop_of (suc n) i (e ∷ es) of = drop_of n i es of.1

rest_queue : (n i : ℕ) (list : List Entry) → IsQueue i list → Fits (head_of (drop n list)) → IsQueue i (drop n list)
rest_queue n i list q fits = record { ordered = drop_ordered n list q.ordered; of = drop_of n i list q.of; fits = fits }

get_there : {X : Type 0} (xs : List X) (i : ℕ) → i < length xs → (x : X) × (slice_get xs i ≡ Some x)
get_there [] i within = absurd (omega (arith, within))
get_there (x ∷ xs) zero within = (x, refl)
get_there (x ∷ xs) (suc i) within = get_there xs i (omega (arith, within))

drop_at : {X : Type 0} (xs ys : List X) (n : ℕ) → length xs ≡ n → drop n (xs ++ ys) ≡ ys
drop_at [] ys zero len = refl
drop_at [] ys (suc n) len = absurd (omega (arith, len))
drop_at (x ∷ xs) ys zero len = absurd (omega (arith, len))
drop_at (x ∷ xs) ys (suc n) len = drop_at xs ys n (omega (arith, len))

-- behind the last queue there is no front
pub none_runs : (queues : List Queue) (i : ℕ) (run : List Entry) → length queues ≤ i → RunAt queues i run → ⊥
none_runs queues i run past r = omega (arith, past, slice_get_within (lists_of queues) i (run ++ r.own) r.is, map_length live queues)

module _ (queues : List Queue) (heads : List (Option ℕ)) (lead : Lead) (a : ∥ Arranged (lists_of queues) heads lead ∥₁) where
  list_at : (i : ℕ) (q : Queue) → slice_get queues i ≡ Some q → slice_get (lists_of queues) i ≡ Some (live q)
  list_at i q at = get_map live queues i q at

  pub width : length heads ≡ length queues
  width = ∥∥₁_elim a (ℕ_set (length heads) (length queues)) (λ k. ap length k.heads_are ∙ (map_length head_of (lists_of queues) ∙ map_length live queues))

  pub few : length queues < 2 ^ 32
  few = elim (cases_lt (length queues) (2 ^ 32)) [
    | inl below ↦ below
    | inr above ↦ absurd (not_there a (λ k. omega (arith, above, k.few, map_length live queues)))
  ]

  pub empty : length queues ≤ lead.least.instance → listing_of queues ≡ []
  empty past = ∥∥₁_elim a (same_entries (listing_of queues) []) (λ k. holds_none (lists_of queues) heads lead k (omega (arith, past, map_length live queues)))

  some_there : (q : Queue) → slice_get queues lead.least.instance ≡ Some q → live q ≡ [] → ⊥
  some_there q at is = not_there a (λ k. holds_some (lists_of queues) heads lead k (omega (arith, slice_get_within queues lead.least.instance q at, map_length live queues)) (list_at lead.least.instance q at ∙ ap (λ (l : List Entry). Some l) is))

  first_of_all : (q : Queue) (e : Entry) (t : List Entry) → slice_get queues lead.least.instance ≡ Some q → live q ≡ e ∷ t → listing_of queues ≡ e ∷ in_order (all_of (set (lists_of queues) lead.least.instance t))
  first_of_all q e t at is = ∥∥₁_elim a (same_entries (listing_of queues) (e ∷ in_order (all_of (set (lists_of queues) lead.least.instance t))))
      (λ k. takes_first (lists_of queues) heads lead e t k (list_at lead.least.instance q at ∙ ap (λ (l : List Entry). Some l) is))

  pub found_first : (q : Queue) (o : Option Entry) → slice_get queues lead.least.instance ≡ Some q → IfSome o (λ e. live q ≡ e ∷ drop 1 (live q)) → IfSome o (λ e. RunAt queues lead.least.instance (e ∷ []))
  found_first q None at f = tt
  found_first q (Some e) at f = record {
    own = drop 1 (live q);
    is = list_at lead.least.instance q at ∙ ap (λ (l : List Entry). Some l) f;
    whole = first_of_all q e (drop 1 (live q)) at f;
  }

  pub found_none : (q : Queue) (o : Option Entry) → slice_get queues lead.least.instance ≡ Some q → IfNone o (live q ≡ []) → IfNone o (listing_of queues ≡ [])
  found_none q None at f = absurd (some_there q at f)
  found_none q (Some e) at f = tt

  -- where it stands
  pub place_is : lead.least.instance < length queues → FirstAt queues lead.least
  place_is within = by (get_there queues lead.least.instance within)
    where
      of : (q : Queue) → slice_get queues lead.least.instance ≡ Some q → (l : List Entry) → live q ≡ l → FirstAt queues lead.least
      of q at [] none = absurd (some_there q at none)
      of q at (e ∷ t) some =
          let there = list_at lead.least.instance q at ∙ ap (λ (l : List Entry). Some l) some in
          let one = ∥∥₁_elim a (ℕ_set e.instance lead.least.instance) (λ k. (queue_at (lists_of queues) lead.least.instance (e ∷ t) k.queues there).of.0) in
          record {
            entry = e;
            rest = in_order (all_of (set (lists_of queues) lead.least.instance t));
            whole = first_of_all q e t at some;
            starts = ∥∥₁_elim a (ℕ_set e.note.start lead.least.start) (λ k. first_starts (lists_of queues) heads lead e t k there);
            of = one;
            low = elim (cases_lt e.note.start (2 ^ 64)) [
              | inl below ↦ below
              | inr above ↦ absurd (not_there a (λ k. let f : e.note.start < 2 ^ 64 = (queue_at (lists_of queues) lead.least.instance (e ∷ t) k.queues there).fits in omega (arith, above, f)))
            ];
            few = omega (arith, one, within, few);
          }

      by : (q : Queue) × (slice_get queues lead.least.instance ≡ Some q) → FirstAt queues lead.least
      by found = of found.0 found.1 (live found.0) refl

  -- what holds of the first of that queue holds of the first of all
  pub of_first : (q : Queue) → slice_get queues lead.least.instance ≡ Some q → (P : Entry → Type 0) → ((e : Entry) (t : List Entry) → live q ≡ e ∷ t → P e) → (entry : Entry) (rest : List Entry) → listing_of queues ≡ entry ∷ rest → P entry
  of_first q at P of entry rest is = by (live q) refl
    where
      by : (l : List Entry) → live q ≡ l → P entry
      by [] none = absurd (some_there q at none)
      by (e ∷ t) some = subst P (ap (λ (l : List Entry). get_or l 0 e) (sym (first_of_all q e t at some) ∙ is)) (of e t some)

  -- notes at the front of the first queue
  pub front_is : (q : Queue) (run own : List Entry) → slice_get queues lead.least.instance ≡ Some q → live q ≡ run ++ own → All (λ e. GoesOn lead.others e) (drop 1 run) → RunAt queues lead.least.instance run
  front_is q run own at is each =
      let there = list_at lead.least.instance q at ∙ ap (λ (l : List Entry). Some l) is in
      record {
        own = own;
        is = there;
        whole = ∥∥₁_elim a (same_entries (listing_of queues) (run ++ in_order (all_of (set (lists_of queues) lead.least.instance own))))
            (λ k. run_first (lists_of queues) heads lead k run own there (each_goes_on lead.others (drop 1 run) each));
      }

  -- one queue changes
  arranged_now : (i : ℕ) (after : Queue) (head : Option ℕ) (now : List (Option ℕ)) (moved : Lead) → (Arranged (lists_of queues) heads lead → IsQueue i (live after)) → head ≡ head_of (live after)
      → now ≡ set heads i head → (Leads heads lead → Leads now moved) → ∥ Arranged (lists_of (set queues i after)) now moved ∥₁
  arranged_now i after head now moved queue head_is is limits = ∥∥₁_map a (λ k. subst (λ (l : List (List Entry)). Arranged l now moved) (sym (map_set live queues i after))
      (arranged_set (lists_of queues) heads lead i (live after) now moved k (queue k) (is ∙ ap (λ (h : Option ℕ). set heads i h) head_is) limits))

  pub run_within : (count : ℕ) (q : Queue) → slice_get queues lead.least.instance ≡ Some q → (run : List Entry) → length run ≡ count → RunAt queues lead.least.instance run → count ≤ length (live q)
  run_within count q at run len r =
      let all : live q ≡ run ++ r.own = same_Some (live q) (run ++ r.own) (sym (list_at lead.least.instance q at) ∙ r.is) in
      omega (arith, len, ap length all, length-append run r.own)

  -- the first ones of all are let go
  module _ (count : ℕ) (q after : Queue) (at : slice_get queues lead.least.instance ≡ Some q) (behind : live after ≡ drop count (live q)) where
    pub rest_of_run : (run : List Entry) → length run ≡ count → RunAt queues lead.least.instance run → listing_of queues ≡ run ++ listing_of (set queues lead.least.instance after)
    rest_of_run run len r =
        let all : live q ≡ run ++ r.own = same_Some (live q) (run ++ r.own) (sym (list_at lead.least.instance q at) ∙ r.is) in
        let left : live after ≡ r.own = behind ∙ (ap (drop count) all ∙ drop_at run r.own count len) in
        r.whole ∙ ap (λ (l : List (List Entry)). run ++ in_order (all_of l)) (ap (λ (l : List Entry). set (lists_of queues) lead.least.instance l) (sym left) ∙ sym (map_set live queues lead.least.instance after))

    pub many_less : (run : List Entry) → length run ≡ count → RunAt queues lead.least.instance run → (many : ℕ) → many ≡ length (listing_of queues) → (count ≤ many) × (many - count ≡ length (listing_of (set queues lead.least.instance after)))
    many_less run len r many is =
        let rest = listing_of (set queues lead.least.instance after) in
        let f = ap length (rest_of_run run len r) in
        (omega (arith, is, f, len, length-append run rest), omega (arith, is, f, len, length-append run rest))

    pub arranged_less : (head : Option ℕ) (now : List (Option ℕ)) (moved : Lead) → head ≡ head_of (live after) → IfSome head (λ start. start < 2 ^ 64) → now ≡ set heads lead.least.instance head
        → (Leads heads lead → Leads now moved) → ∥ Arranged (lists_of (set queues lead.least.instance after)) now moved ∥₁
    arranged_less head now moved head_is fits is limits = arranged_now lead.least.instance after head now moved
        (λ k. subst (IsQueue lead.least.instance) (sym behind) (rest_queue count lead.least.instance (live q) (queue_at (lists_of queues) lead.least.instance (live q) k.queues (list_at lead.least.instance q at))
        (subst Fits (head_is ∙ ap head_of behind) (fits_of head fits)))) head_is is limits

  -- a note more
  module _ (i : ℕ) (e : Entry) (q after : Queue) (at : slice_get queues i ≡ Some q) (one : e.instance ≡ i) (puts : InOrder (live q) → PutsIn e (live q) (live after)) where
    pub put_listing : PutsIn e (listing_of queues) (listing_of (set queues i after))
    put_listing = record {
      ordered = order_is_in_order (all_of (lists_of (set queues i after)));
      same = ∥∥₁_elim a (same_entries (in_order (listing_of (set queues i after))) (in_order (listing_of queues ++ e ∷ [])))
          (λ k. (subst (λ (l : List (List Entry)). PutsIn e (listing_of queues) (in_order (all_of l))) (sym (map_set live queues i after))
          (puts_in_all (lists_of queues) i (live q) (live after) e k.queues (list_at i q at) one (puts (queue_at (lists_of queues) i (live q) k.queues (list_at i q at)).ordered))).same);
    }

    pub many_more : (many : ℕ) → many ≡ length (listing_of queues) → many + 1 ≡ length (listing_of (set queues i after))
    many_more many is =
        let old = listing_of queues in
        let new = listing_of (set queues i after) in
        let s = put_listing.same in
        omega (arith, is, sym (order_length new) ∙ (ap length s ∙ (order_length (old ++ e ∷ []) ∙ length-append old (e ∷ []))))

    pub arranged_more : (head : Option ℕ) (now : List (Option ℕ)) (moved : Lead) → head ≡ head_of (live after) → IfSome head (λ start. start < 2 ^ 64) → now ≡ set heads i head
        → (Leads heads lead → Leads now moved) → ∥ Arranged (lists_of (set queues i after)) now moved ∥₁
    arranged_more head now moved head_is fits is limits = arranged_now i after head now moved (λ k.
        let was = queue_at (lists_of queues) i (live q) k.queues (list_at i q at) in
        record { ordered = (puts was.ordered).ordered; of = puts_of i e (live q) (live after) (puts was.ordered) one was.of; fits = subst Fits head_is (fits_of head fits) }) head_is is limits

  -- a note that is the last of its queue
  pub arranged_last : (i : ℕ) (e : Entry) (q after : Queue) → slice_get queues i ≡ Some q → e.instance ≡ i → (InOrder (live q) → PutsIn e (live q) (live after)) → head_of (live after) ≡ head_of (live q) → ∥ Arranged (lists_of (set queues i after)) heads lead ∥₁
  arranged_last i e q after at one puts same = ∥∥₁_map a (λ k.
      let was = queue_at (lists_of queues) i (live q) k.queues (list_at i q at) in
      let queue : IsQueue i (live after) = record { ordered = (puts was.ordered).ordered; of = puts_of i e (live q) (live after) (puts was.ordered) one was.of; fits = subst Fits (sym same) was.fits } in
      let there : slice_get heads i ≡ Some (head_of (live after)) = ap (λ (l : List (Option ℕ)). slice_get l i) k.heads_are ∙ (get_map head_of (lists_of queues) i (live q) (list_at i q at) ∙ ap (λ (h : Option ℕ). Some h) (sym same)) in
      subst (λ (l : List (List Entry)). Arranged l heads lead) (sym (map_set live queues i after))
      (arranged_set (lists_of queues) heads lead i (live after) heads lead k queue (sym (set_same heads i (head_of (live after)) there)) (λ l. l)))

  -- a queue that holds the same
  pub same_lists : (i : ℕ) (q after : Queue) → slice_get queues i ≡ Some q → live after ≡ live q → lists_of (set queues i after) ≡ lists_of queues
  same_lists i q after at kept = map_set live queues i after ∙ (ap (λ (l : List Entry). set (lists_of queues) i l) kept ∙ set_same (lists_of queues) i (live q) (list_at i q at))

-- nothing is held
pub empty_queues_are : (k : ℕ) (queues : List Queue) → All (λ q. live q ≡ []) queues → AreQueues k (lists_of queues)
empty_queues_are k [] each = tt
empty_queues_are k (q ∷ qs) each =
    (subst (IsQueue k) (sym (each 0 q (omega arith))) (record { ordered = tt; of = tt; fits = tt }), empty_queues_are (suc k) qs (λ i d low. each (suc i) d (omega (arith, low))))

pub empty_queues_hold : (queues : List Queue) → All (λ q. live q ≡ []) queues → listing_of queues ≡ []
empty_queues_hold queues each = ap in_order (all queues each)
  where
    all : (qs : List Queue) → All (λ q. live q ≡ []) qs → all_of (lists_of qs) ≡ []
    all [] e = refl
    all (q ∷ qs) e = (λ i. e 0 q (omega arith) i ++ all qs (λ k d low. e (suc k) d (omega (arith, low))) i)

empty_heads : (queues : List Queue) (heads : List (Option ℕ)) → All (λ q. live q ≡ []) queues → All (λ h. h ≡ None) heads → length heads ≡ length queues → heads ≡ map head_of (lists_of queues)
empty_heads [] [] each none same = refl
empty_heads [] (h ∷ hs) each none same = absurd (omega (arith, same))
empty_heads (q ∷ qs) [] each none same = absurd (omega (arith, same))
empty_heads (q ∷ qs) (h ∷ hs) each none same = (λ i. (none 0 h (omega arith) ∙ sym (ap head_of (each 0 q (omega arith)))) i
    ∷ empty_heads qs hs (λ k d low. each (suc k) d (omega (arith, low))) (λ k d low. none (suc k) d (omega (arith, low))) (omega (arith, same)) i)

pub arranged_empty : (queues : List Queue) (heads : List (Option ℕ)) (lead : Lead) → All (λ q. live q ≡ []) queues → All (λ h. h ≡ None) heads → length heads ≡ length queues → length queues < 2 ^ 32
    → Leads heads lead → ∥ Arranged (lists_of queues) heads lead ∥₁
arranged_empty queues heads lead each none same short leads = ∣ record {
  queues = empty_queues_are 0 queues each;
  heads_are = empty_heads queues heads each none same;
  leads = leads;
  few = omega (arith, short, map_length live queues);
} ∣₁

pub same_option : (one other : Option ℕ) → true ≡ option_eq eqb one other → one ≡ other
same_option None None same = refl
same_option None (Some y) same = absurd (true≢false same)
same_option (Some x) None same = absurd (true≢false same)
same_option (Some x) (Some y) same = ap (λ (n : ℕ). Some n) (eqb-true x y (sym same))
