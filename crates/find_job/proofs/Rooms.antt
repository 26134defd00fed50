-- Whether there is room for runs, one after another.
use Rattle.std.proofs.Common.{◌≡◌, ◌≤◌, ◌<◌, ◌+◌, ◌-◌, ℕ, List, ◌++◌, length, length-append, length-drop, take, drop, get_or, ap, arith}
use Rattle.std.proofs.lemmas.List.{take_all}
use Rattle.la_base.specs.Runs.{samples_of}
use Rattle.la_base.specs.declared.samples.Run.{Run}
use Rattle.la_base.proofs.RunLemmas.{count_more, runs_from, samples_parts}

-- there is room for one more run where there is for all
pub room_for : (runs : List Run) (i : ℕ) (run : Run) → i < length runs → run ≡ get_or runs i run → length (samples_of (take i runs)) + run.len ≤ length (samples_of runs)
room_for runs i run within is =
    let all : length (samples_of runs) ≡ length (samples_of (take (i + 1) runs) ++ samples_of (drop (i + 1) runs)) = ap (λ (l : List ℕ). length l) (samples_parts runs (i + 1)) in
    omega (arith, all, length-append (samples_of (take (i + 1) runs)) (samples_of (drop (i + 1) runs)), count_more runs i run within is)

-- the samples of a front, and of a slice behind it
pub runs_rest : (runs : List Run) (i : ℕ) → length (samples_of (take i runs)) + length (samples_of (runs_from runs i)) ≡ length (samples_of runs)
runs_rest runs i =
    let all : length (samples_of runs) ≡ length (samples_of (take i runs) ++ samples_of (drop i runs)) = ap (λ (l : List ℕ). length l) (samples_parts runs i) in
    let same : length (samples_of (runs_from runs i)) ≡ length (samples_of (drop i runs)) = ap (λ (l : List Run). length (samples_of l)) (take_all (length runs - i) (drop i runs) (omega (arith, length-drop i runs))) in
    omega (arith, all, same, length-append (samples_of (take i runs)) (samples_of (drop i runs)))
