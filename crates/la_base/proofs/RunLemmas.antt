-- The samples of runs, one run after another.
use Rattle.std.proofs.Common.{◌≡◌, ◌≤◌, ◌<◌, ◌+◌, ◌-◌, ℕ, zero, suc, List, [], ◌∷◌, ◌++◌, length, take, drop, get_or, refl, sym, ◌∙◌, ap, arith, append_assoc, length-append}
use Rattle.std.proofs.lemmas.List.{append-nil, drop-take, length-drop, length-replicate, take_all, take_more, take-append-drop, take-take}
use Rattle.la_base.specs.Samples.{samples}
use Rattle.la_base.specs.Runs.{samples_of}
use Rattle.la_base.specs.declared.samples.Run.{Run}

pub samples_len : (run : Run) → length (samples run) ≡ run.len
unfolding samples
samples_len run = length-replicate run.len run.value

pub samples_append : (runs more : List Run) → samples_of (runs ++ more) ≡ samples_of runs ++ samples_of more
samples_append [] more = refl
samples_append (first ∷ runs) more = ap (λ l. samples first ++ l) (samples_append runs more) ∙ sym (append_assoc (samples first) (samples_of runs) (samples_of more))

pub samples_push : (runs : List Run) (run : Run) → samples_of (runs ++ run ∷ []) ≡ samples_of runs ++ samples run
samples_push runs run = samples_append runs (run ∷ []) ∙ ap (λ l. samples_of runs ++ l) (append-nil (samples run))

-- those of one more
pub samples_more : (runs : List Run) (i : ℕ) (run : Run) → i < length runs → run ≡ get_or runs i run → samples_of (take (i + 1) runs) ≡ samples_of (take i runs) ++ samples run
samples_more runs i run within is = ap samples_of (take_more runs i run within ∙ ap (λ (r : Run). take i runs ++ r ∷ []) (sym is)) ∙ samples_push (take i runs) run

-- those of a front, and of the runs behind it
pub samples_parts : (runs : List Run) (i : ℕ) → samples_of runs ≡ samples_of (take i runs) ++ samples_of (drop i runs)
samples_parts runs i = ap samples_of (sym (take-append-drop i runs)) ∙ samples_append (take i runs) (drop i runs)

-- what is behind the first i, as a slice has it
abbrev pub runs_from : List Run → ℕ → List Run
runs_from runs i = take (length runs - i) (drop i runs)

from_is : (runs : List Run) (i : ℕ) → runs_from runs i ≡ drop i runs
from_is runs i = take_all (length runs - i) (drop i runs) (omega (arith, length-drop i runs))

-- those of a front that goes on behind another
pub samples_further : (runs : List Run) (i k : ℕ) → samples_of (take (i + k) runs) ≡ samples_of (take i runs) ++ samples_of (take k (runs_from runs i))
samples_further runs i k =
    samples_parts (take (i + k) runs) i
    ∙ ap (λ (l : List Run). samples_of l ++ samples_of (drop i (take (i + k) runs))) (take-take i (i + k) runs (omega arith))
    ∙ ap (λ (l : List Run). samples_of (take i runs) ++ samples_of l) (drop-take i k runs ∙ ap (λ (l : List Run). take k l) (sym (from_is runs i)))

-- their number
pub count_push : (runs : List Run) (run : Run) → length (samples_of (runs ++ run ∷ [])) ≡ length (samples_of runs) + run.len
count_push runs run =
    let more : length (samples_of (runs ++ run ∷ [])) ≡ length (samples_of runs ++ samples run) = ap (λ (l : List ℕ). length l) (samples_push runs run) in
    omega (arith, more, length-append (samples_of runs) (samples run), samples_len run)

pub count_more : (runs : List Run) (i : ℕ) (run : Run) → i < length runs → run ≡ get_or runs i run → length (samples_of (take (i + 1) runs)) ≡ length (samples_of (take i runs)) + run.len
count_more runs i run within is =
    let more : length (samples_of (take (i + 1) runs)) ≡ length (samples_of (take i runs) ++ samples run) = ap (λ (l : List ℕ). length l) (samples_more runs i run within is) in
    omega (arith, more, length-append (samples_of (take i runs)) (samples run), samples_len run)
