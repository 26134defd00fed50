-- Records that are held, one after another.
use Rattle.std.proofs.Common.{◌≡◌, ℕ, ◌+◌, List, [], ◌++◌, replicate, refl, sym, ◌∙◌, ap, subst, append_assoc, Bool, true, false}
use Rattle.std.proofs.lemmas.List.{append-nil, replicate-append-replicate}
use Rattle.la_base.specs.Samples.{samples}
use Rattle.la_base.specs.declared.samples.Run.{Run}
use Rattle.capture_csv.specs.Reader.{GaveHeld, Going, GoesHeld}
use Rattle.capture_csv.specs.declared.phase.Phase.TheVariants.{Running}
use Rattle.capture_csv.specs.declared.reader.CsvReader.{CsvReader}
use Rattle.capture_csv.proofs.Answering.{is_going, runs_on}

-- those of the body
pub held_goes : (old new : CsvReader) (more : List ℕ) → old.phase ≡ Running → new.phase ≡ Running → GoesHeld old new more → GaveHeld old new more
held_goes old new more was is goes bytes told given stands = runs_on new bytes told (given ++ more) is (goes bytes told given (is_going old bytes told given was stands))

-- one taking after another
pub goes_on : (old mid new : CsvReader) (first second all : List ℕ) → first ++ second ≡ all → GoesHeld old mid first → GoesHeld mid new second → GoesHeld old new all
goes_on old mid new first second all joins a b bytes told given going =
    subst (λ (l : List ℕ). GoesHeld old new l) joins (λ bytes told given going. subst (λ (l : List ℕ). Going new bytes told l) (append_assoc given first second) (b bytes told (given ++ first) (a bytes told given going))) bytes told given going

-- a line that was taken, or none
pub row_goes : (old new : CsvReader) (row : Bool) → (row ≡ true → GoesHeld old new []) → (row ≡ false → new ≡ old) → GoesHeld old new []
row_goes old new true goes kept = goes refl
row_goes old new false goes kept = λ bytes told given going. subst (λ (l : List ℕ). Going new bytes told l) (sym (append-nil given)) (subst (λ (r : CsvReader). Going r bytes told given) (sym (kept refl)) going)

-- the samples of a run
pub run_is : (run : Run) → samples run ≡ replicate run.len run.value
unfolding samples
run_is run = refl

-- one sample more of the same value
pub run_more : (len value : ℕ) (more : Run) → more.value ≡ value → more.len ≡ 1 → replicate len value ++ samples more ≡ replicate (len + 1) value
run_more len value more same one = ap (λ (l : List ℕ). replicate len value ++ l) (run_is more) ∙ (λ i. replicate len value ++ replicate (one i) (same i)) ∙ replicate-append-replicate len 1 value
