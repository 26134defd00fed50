-- Runs behind runs.
use Rattle.std.proofs.Common.{◌≡◌, ◌<◌, ◌+◌, length, take, drop, take-append-drop, false, get_or, ℕ, List, [], ◌∷◌, ◌++◌, map, refl, sym, ◌∙◌, ap, append_assoc}
use Rattle.std.proofs.lemmas.List.{append-nil}
use Rattle.la_base.specs.Samples.{samples}
use Rattle.la_base.specs.Runs.{samples_of}
use Rattle.la_base.proofs.RunLemmas.{runs_from, samples_further, samples_more}
use Rattle.la_base.specs.declared.samples.Run.{Run}
use Rattle.la_base.specs.declared.wires.Mark.{Mark}
use Rattle.tree_io.specs.Feeds.{together}
use Rattle.tree_io.proofs.Together.{together-append}
use Rattle.decoder_core.specs.Inputs.{Item, Sample}
use Rattle.la_base.specs.declared.wires.Mark.TheVariants.{End as EndMark}
use Rattle.tree_runs.specs.Passing.{Took, only, up_to}
use Rattle.tree_runs.specs.Reaching.{Reaches}
use Rattle.tree_runs.specs.Runs.{TookEnds, run_items, samples_in}
use Rattle.tree_runs.proofs.Joining.{took_then, took_nothing, up_to_next, up_to_none}

pub samples_of-append : (xs ys : List Run) → samples_of (xs ++ ys) ≡ samples_of xs ++ samples_of ys
samples_of-append [] ys = refl
samples_of-append (run ∷ xs) ys = ap (λ (l : List ℕ). samples run ++ l) (samples_of-append xs ys) ∙ sym (append_assoc (samples run) (samples_of xs) (samples_of ys))

pub items-append : (xs ys : List ℕ) → map Sample (xs ++ ys) ≡ map Sample xs ++ map Sample ys
items-append [] ys = refl
items-append (x ∷ xs) ys = ap (λ (l : List Item). Sample x ∷ l) (items-append xs ys)

pub more_items : (runs more : List Run) → map Sample (samples_of runs) ++ map Sample (samples_of more) ≡ map Sample (samples_of (runs ++ more))
more_items runs more = sym (ap (map Sample) (samples_of-append runs more) ∙ items-append (samples_of runs) (samples_of more))

-- one more run, and more runs, of those of a slice
pub items_more : (runs : List Run) (i : ℕ) (run : Run) → i < length runs → run ≡ get_or runs i run → map Sample (samples_of (take i runs)) ++ map Sample (samples run) ≡ map Sample (samples_of (take (i + 1) runs))
items_more runs i run within is = sym (ap (map Sample) (samples_more runs i run within is) ∙ items-append (samples_of (take i runs)) (samples run))

pub items_further : (runs : List Run) (i k : ℕ) → map Sample (samples_of (take i runs)) ++ map Sample (samples_of (take k (runs_from runs i))) ≡ map Sample (samples_of (take (i + k) runs))
items_further runs i k = sym (ap (map Sample) (samples_further runs i k) ∙ items-append (samples_of (take i runs)) (samples_of (take k (runs_from runs i))))

-- one more run
pub one_more : (runs : List Run) (run : Run) → map Sample (samples_of runs) ++ map Sample (samples run) ≡ map Sample (samples_of (runs ++ run ∷ []))
one_more runs run = ap (λ (l : List ℕ). map Sample (samples_of runs) ++ map Sample l) (sym (append-nil (samples run))) ∙ more_items runs (run ∷ [])

-- lists of runs behind lists of runs
pub samples_in-append : (lists more : List (List Run)) → samples_in (lists ++ more) ≡ samples_in lists ++ samples_in more
samples_in-append lists more = ap samples_of (together-append lists more) ∙ samples_of-append (together lists) (together more)

pub lists_items : (lists more : List (List Run)) → map Sample (samples_in lists) ++ map Sample (samples_in more) ≡ map Sample (samples_in (lists ++ more))
lists_items lists more = sym (ap (map Sample) (samples_in-append lists more) ∙ items-append (samples_in lists) (samples_in more))

pub lists_feeds : (lists more : List (List Run)) → map run_items lists ++ map run_items more ≡ map run_items (lists ++ more)
lists_feeds [] more = refl
lists_feeds (l ∷ lists) more = ap (λ (x : List (List Item)). run_items l ∷ x) (lists_feeds lists more)

-- the same marks
pub took_same : (old new : (ℕ → List Mark) → Type 0) (marks others : ℕ → List Mark) → ((j : ℕ) → marks j ≡ others j) → Took old new marks → Took old new others
took_same old new marks others same t = λ before after had is. t before after had (λ j. is j ∙ ap (λ (l : List Mark). before j ++ l) (sym (same j)))

-- one more End
pub ends_next : (t0 t1 t2 : (ℕ → List Mark) → Type 0) (k : ℕ) → TookEnds t0 t1 k → Took t1 t2 (only k (EndMark ∷ [])) → TookEnds t0 t2 (k + 1)
ends_next t0 t1 t2 k p q = took_same t0 t2 (λ j. up_to k (EndMark ∷ []) j ++ only k (EndMark ∷ []) j) (λ j. up_to (k + 1) (EndMark ∷ []) j) (λ j. up_to_next k (EndMark ∷ []) j) (took_then t0 t1 t2 (λ j. up_to k (EndMark ∷ []) j) (only k (EndMark ∷ [])) p q)

pub ends_none : (old : (ℕ → List Mark) → Type 0) → TookEnds old old 0
ends_none old = took_same old old (λ j. []) (λ j. up_to 0 (EndMark ∷ []) j) (λ j. sym (up_to_none (EndMark ∷ []) j)) (took_nothing old)

-- what was consumed of some of the runs is a front of all
pub taken_reach : (runs : List Run) (count : ℕ) (front left : List Item) → map Sample (samples_of (take count runs)) ≡ front ++ left → Reaches false front (map Sample (samples_of runs))
taken_reach runs count front left split = (
  left ++ map Sample (samples_of (drop count runs)),
  sym (append_assoc front left (map Sample (samples_of (drop count runs)))) ∙ ap (λ (l : List Item). l ++ map Sample (samples_of (drop count runs))) (sym split) ∙ more_items (take count runs) (drop count runs)
      ∙ ap (λ (l : List Run). map Sample (samples_of l)) (take-append-drop count runs),
)
