-- A run of a tree: what was handed down, and End.
use Rattle.std.proofs.Common.{◌≡◌, ◌≢◌, ◌<◌, ℕ, zero, suc, Bool, true, false, List, [], ◌∷◌, ◌++◌, map, length, take, drop, slice_get, Option, Some, None, refl, sym, ◌∙◌, ap, subst, arith, if◌then◌else◌}
use Rattle.std.specs.Prelude.{nat_lt}
use Rattle.std.proofs.lemmas.Bool.Decides.{nat_tests}
use Rattle.la_base.specs.declared.samples.Run.{Run}
use Rattle.la_base.specs.declared.wires.Mark.TheVariants.{End as EndMark}
use Rattle.la_base.specs.declared.wires.Out.{Out}
use Rattle.decoder_core.specs.Inputs.{Item, Sample}
use Rattle.decoder_core.specs.Promises.{KeepsFront}
use Rattle.decoder_core.specs.Marks.{FloorsHold, shown}
use Rattle.tree_io.specs.Feeds.{marks_of}
use Rattle.tree_runs.specs.Floors.{FrontOfFloored, Handed}
use Rattle.tree_runs.specs.Machines.{near_of, whole_of}
use Rattle.tree_runs.specs.Passing.{Change, Down, IsForest, Passes}
use Rattle.tree_runs.specs.Reaching.{Reaches}
use Rattle.tree_runs.specs.Runs.{StandOn, feeds_on, input_on, run_items, samples_in}
use Rattle.tree_runs.proofs.Lists.{reaches_weaker}
use Rattle.tree_runs.proofs.Running.{items-append}
use Rattle.tree_runs.proofs.Flooring.{front_further}
use Rattle.tree_runs.proofs.Telling.{root_input, child_input, fed, grows, tells}

pub keeps_at : {M S : Type 0} (setup : M → S) (outputs : S → List Item → List Out) → ((m : M) → KeepsFront (outputs (setup m))) → (ms : List M) (j : ℕ) → j < length ms → KeepsFront (whole_of outputs (map setup ms) j)
keeps_at setup outputs law [] j low = absurd (omega (arith, low))
keeps_at setup outputs law (m ∷ ms) zero low = law m
keeps_at setup outputs law (m ∷ ms) (suc j) low = keeps_at setup outputs law ms j (omega (arith, low))

pub reaches_closed : {X : Type 0} (closed done : Bool) (xs ys : List X) → (closed ≡ true → done ≡ true) → Reaches done xs ys → Reaches closed xs ys
reaches_closed true done xs ys only reach = subst (λ (b : Bool). Reaches b xs ys) (only refl) reach
reaches_closed false true xs ys only reach = reaches_weaker false xs ys reach
reaches_closed false false xs ys only reach = reach

-- what is written back to a vector whose length stays
pub written_back : {M : Type 0} (olds news : List M) (n : ℕ) → length news ≡ n → take n (news ++ drop (length news) olds) ≡ news
written_back olds news n len = ap (λ (k : ℕ). take k (news ++ drop (length news) olds)) (sym len) ∙ front news (drop (length news) olds)
  where
    front : {X : Type 0} (xs ys : List X) → take (length xs) (xs ++ ys) ≡ xs
    front [] ys = refl
    front (x ∷ xs) ys = ap (λ l. x ∷ l) (front xs ys)

-- an End is a mark
pub ends_some : (k : ℕ) → 0 < k → (if nat_lt 0 k then EndMark ∷ [] else []) ≢ []
ends_some k some = let less : nat_lt 0 k ≡ true = grind (arith, nat_tests, some) in subst (λ (b : Bool). (if b then EndMark ∷ [] else []) ≢ []) (sym less) one
  where
    one : EndMark ∷ [] ≢ []
    one e = cc

pub no_ends : (j : ℕ) → (if nat_lt j 0 then EndMark ∷ [] else []) ≡ []
no_ends j = let no : nat_lt j 0 ≡ false = grind (arith, nat_tests) in ap (λ (b : Bool). if b then EndMark ∷ [] else []) no

-- a root reads more samples
module _ {S : Type 0} (outputs : S → List Item → List Out) (setups : List S) (parents : List (Option ℕ)) (forest : IsForest parents) (count : length setups ≡ length parents) (samples : List ℕ) where
  root_more : (lists : List (List Run)) (j : ℕ) → slice_get parents j ≡ Some None → input_on outputs setups parents (samples ++ samples_in lists) j ≡ input_on outputs setups parents samples j ++ map Sample (samples_in lists)
  root_more lists j at =
      root_input outputs setups parents forest count (samples ++ samples_in lists) j at ∙ items-append samples (samples_in lists)
      ∙ ap (λ (l : List Item). l ++ map Sample (samples_in lists)) (sym (root_input outputs setups parents forest count samples j at))

module _ {S : Type 0} (outputs : S → List Item → List Out) (near : S → List Item → ℕ → ℕ) (setups : List S) (parents : List (Option ℕ)) (forest : IsForest parents) (count : length setups ≡ length parents)
    (keeps : (j : ℕ) → j < length parents → KeepsFront (whole_of outputs setups j)) {before : ℕ → List Item → Type 0} (samples : List ℕ) (stood : StandOn outputs setups parents before samples) where
  -- what was handed down of lists of runs
  module _ {done : Bool} (lists : List (List Run)) (c : Change) (down : Down done None (λ _. map Sample (samples_in lists)) (λ _. map run_items lists) parents c)
      (gave : (j : ℕ) (list : List Item) → before j list → whole_of outputs setups j (list ++ c.grown j) ≡ whole_of outputs setups j list ++ c.added j) where
    pub grown : (j : ℕ) → j < length parents → (rest : List Item) × (input_on outputs setups parents (samples ++ samples_in lists) j ≡ (input_on outputs setups parents samples j ++ c.grown j) ++ rest) × (done ≡ true → rest ≡ [])
    grown j within =
        grows (whole_of outputs setups) lists c down gave forest keeps (input_on outputs setups parents samples) (input_on outputs setups parents (samples ++ samples_in lists)) (root_more outputs setups parents forest count samples lists) (child_input outputs setups parents forest count samples)
        (child_input outputs setups parents forest count (samples ++ samples_in lists)) stood j within

    pub fed_by : (j : ℕ) → j < length parents → Reaches done (c.feeds j) (feeds_on outputs setups parents samples lists j)
    fed_by j within =
        fed (whole_of outputs setups) lists c down gave forest keeps (input_on outputs setups parents samples) (input_on outputs setups parents (samples ++ samples_in lists)) (root_more outputs setups parents forest count samples lists) (child_input outputs setups parents forest count samples)
        (child_input outputs setups parents forest count (samples ++ samples_in lists)) stood j within

    pub told_by : {after : ℕ → List Item → Type 0} → ((j : ℕ) → Passes done (whole_of outputs setups j) (before j) (after j) (c.grown j) (c.added j) (c.marks j)) → (j : ℕ) → j < length parents
        → (new : List Out) × (whole_of outputs setups j (input_on outputs setups parents (samples ++ samples_in lists) j) ≡ whole_of outputs setups j (input_on outputs setups parents samples j) ++ new) × Reaches done (shown (c.marks j)) (marks_of new)
        × ((more : List Item) (rest : List Out) → whole_of outputs setups j (input_on outputs setups parents (samples ++ samples_in lists) j ++ more) ≡ whole_of outputs setups j (input_on outputs setups parents samples j) ++ (new ++ rest) → FloorsHold (c.marks j) (marks_of (new ++ rest)))
    told_by each j within =
        tells (whole_of outputs setups) lists c down gave forest keeps (input_on outputs setups parents samples) (input_on outputs setups parents (samples ++ samples_in lists)) (root_more outputs setups parents forest count samples lists) (child_input outputs setups parents forest count samples)
        (child_input outputs setups parents forest count (samples ++ samples_in lists)) stood each j within

    -- its marks, with a floor behind each feed
    pub floored_by : ((j : ℕ) → Handed done (whole_of outputs setups j) (near_of near setups j) (before j) (c.grown j) (c.feeds j) (c.marks j)) → (j : ℕ) → j < length parents
        → FrontOfFloored done (whole_of outputs setups j) (near_of near setups j) (input_on outputs setups parents samples j) (feeds_on outputs setups parents samples lists j) (c.marks j)
    floored_by handed j within =
        front_further (whole_of outputs setups j) (near_of near setups j) done (input_on outputs setups parents samples j) (c.feeds j) (feeds_on outputs setups parents samples lists j) (c.marks j) (keeps j within) (fed_by j within)
        ((handed j).front (input_on outputs setups parents samples j) (stood j within))
