-- The exchange that adds to a history keeps its rule.
use Rattle.std.proofs.Common.{◌≡◌, ℕ, ◌+◌, ◌<◌, ◌==◌, Bool, true, false, true≢false, List, [], ◌∷◌, ◌++◌, length, refl, ap, sym, subst, arith, inl, length-append, None}
use Rattle.std.proofs.lemmas.List.{append-nil}
use Rattle.std.proofs.lemmas.Bool.Decides.{nat_tests}
use mathlib.Core.List.{IsPrefix}
use prog.Atomic.{either}
use Rattle.logbook.specs.Pages.{Cell, cell, keeps, no_nib, step, Moves, Goes}
use Rattle.view_store.specs.declared.added.Added.{Added}
use Rattle.view_store.specs.declared.added.Added.TheVariants.{Note as NoteAdded, End as EndAdded}
use Rattle.view_store.specs.Listings.{ended_of, is_listing}
use Rattle.view_store.specs.Histories.{IsKept, Adds}
use Rattle.view_store.proofs.Fronts.{front_whole}

abbrev pub shown : List Added → List Added
shown log = []

abbrev pub moved : List Added → List Added → ℕ → Type 0
moved xs ys n = Unit {0}

-- a listing that isn't ended may go on
pub listing_grows : (log : List Added) (more : Added) → is_listing log ≡ true → ended_of log ≡ false → is_listing (log ++ more ∷ []) ≡ true
listing_grows [] (NoteAdded note) legal going = refl
listing_grows [] EndAdded legal going = refl
listing_grows (NoteAdded note ∷ log) more legal going = listing_grows log more legal going
listing_grows (EndAdded ∷ log) more legal going = absurd (true≢false going)

pub adds_goes : (log v : List Added) (e : Added) (old : ℕ) → length v ≡ old → ended_of v ≡ false → is_listing log ≡ true → IsPrefix v log
    → (b : Bool) → (length log == old) ≡ b
    → Goes IsKept shown moved 0 (v, (no_nib, None)) (λ n. either (n == old) (old + 1) n) (Adds (step 0 old (old + 1) e) (v, (no_nib, None))) ((length log, true) ∷ (0, true) ∷ []) log
adds_goes log v e old len going legal pre true is =
    let here : length log ≡ old = grind (arith, nat_tests) in
    let same : v ≡ log = front_whole v log pre (omega arith) in
    let legal' : is_listing (log ++ e ∷ []) ≡ true = listing_grows log e legal (subst (λ (l : List Added). ended_of l ≡ false) same going) in
    let n : either (length log == old) (old + 1) (length log) ≡ length (log ++ e ∷ []) = rw is (omega (arith, length-append log (e ∷ []))) in (
      keeps,
      e ∷ [],
      None,
      tt,
      record { words = ap (λ (k : ℕ). (k, true) ∷ (0, true) ∷ []) n; legal = legal' },
      inl (refl, refl),
      rw is (ap (λ w. w ++ e ∷ []) (sym same), legal'),
    )
adds_goes log v e old len going legal pre false is =
    let all : log ++ [] ≡ log = append-nil log in
    let legal' : is_listing (log ++ []) ≡ true = subst (λ (l : List Added). is_listing l ≡ true) (sym all) legal in
    let n : either (length log == old) (old + 1) (length log) ≡ length (log ++ []) = rw is (ap length (sym all)) in (
      keeps,
      [],
      None,
      tt,
      record { words = ap (λ (k : ℕ). (k, true) ∷ (0, true) ∷ []) n; legal = legal' },
      inl (refl, refl),
      rw is (ap length all),
    )

-- whatever the book is, the exchange adds to all that was seen, or finds that the history is longer
pub adds_moves : (v : List Added) (e : Added) (old : ℕ) → length v ≡ old → ended_of v ≡ false
    → Moves IsKept shown moved 0 (v, (no_nib, None)) (λ n. either (n == old) (old + 1) n) (Adds (step 0 old (old + 1) e) (v, (no_nib, None)))
adds_moves v e old len going cs log kept pre away =
    let P : List Cell → Type 0 = λ c. (0 < length c) × ((cell c 0).1 ≡ true) × Goes IsKept shown moved 0 (v, (no_nib, None)) (λ n. either (n == old) (old + 1) n) (Adds (step 0 old (old + 1) e) (v, (no_nib, None))) c log in
    subst P (sym kept.words) (omega arith, refl, adds_goes log v e old len going kept.legal pre (length log == old) refl)
