-- What the feed over a made capture has given.
use Rattle.std.proofs.Common.{◌≡◌, ℕ, ◌+◌, ◌^◌, ◌≤◌, true, false, List, [], ◌∷◌, ◌++◌, length, length-append, drop, replicate, slice_index, Some, sym, ◌∙◌, ap, ap₂, append_assoc, arith, take}
use Rattle.std.proofs.lemmas.List.{append-nil, get_or-drop}
use Rattle.std.proofs.Math.Seq.{take-add}
use Rattle.la_base.proofs.RunLemmas.{samples_append}
use Rattle.la_base.specs.Runs.{samples_of}
use Rattle.la_base.specs.Samples.{samples as run_samples}
use Rattle.la_base.specs.declared.samples.Run.{Run}
use Rattle.tree_io.specs.Feeds.{together}
use Rattle.tree_io.proofs.Together.{together-last}
use Rattle.capture_make.specs.Kept.{left_in}
use Rattle.capture_make.specs.Made.{made}
use Rattle.capture_make.specs.declared.source.MadeSource.{MadeSource}
use Rattle.make_job.specs.MadeFeeding.{GaveMade}
use Rattle.make_job.specs.declared.made_feed.MadeFeed.{MadeFeed}
use Rattle.make_job.proofs.MadeLaws.{made_few}

-- a run of samples that are the same, behind those before them
pub put_more : (samples rest : List ℕ) (runs : List Run) (run : Run) (at len : ℕ) → rest ≡ drop at samples → take len rest ≡ replicate len (slice_index rest 0) → run.len ≡ len → run.value ≡ slice_index samples at
    → samples_of runs ≡ take at samples → samples_of (runs ++ run ∷ []) ≡ take (at + len) samples
unfolding run_samples
put_more samples rest runs run at len is same run_len run_value put =
    let first : slice_index rest 0 ≡ slice_index samples at =
    ap (λ (l : List ℕ). slice_index l 0) is ∙ get_or-drop at samples 0 0 ∙ (let place : at + 0 ≡ at = omega arith in ap (slice_index samples) place) in
    let own : replicate run.len run.value ≡ take len (drop at samples) =
    ap₂ replicate run_len (run_value ∙ sym first) ∙ sym same ∙ ap (take len) is in
    samples_append runs (run ∷ [])
    ∙ ap₂ (λ (a b : List ℕ). a ++ b) put (append-nil (replicate run.len run.value) ∙ own)
    ∙ sym (take-add at len samples)

pub one_more : (runs all : List Run) (run : Run) → all ≡ runs ++ run ∷ [] → length all ≡ length runs + 1
one_more runs all run is = ap length is ∙ length-append runs (run ∷ [])

-- the samples of a made capture are few
pub made_left : (seed count : ℕ) (source : MadeSource) → Some (left_in source) ≡ Some (made seed count) → left_in source ≡ made seed count
made_left seed count source is = cc

pub made_left_few : (seed count : ℕ) (source : MadeSource) → count ≤ 1000000 → Some (left_in source) ≡ Some (made seed count) → length (left_in source) ≤ 2 ^ 60
made_left_few seed count source few is = omega (arith, made_few seed count few, ap length (made_left seed count source is))

-- no more samples were given than the capture has
pub gave_few : (feed : MadeFeed) (lists : List (List Run)) → GaveMade feed lists → length (samples_of (together lists)) ≤ 2 ^ 60
gave_few feed lists gave =
    let all : length (left_in feed.first.value) ≡ length (samples_of (together lists)) + length (left_in feed.source) =
    ap length gave.split ∙ length-append (samples_of (together lists)) (left_in feed.source) in
    omega (arith, all, gave.few)

module _ (old new : MadeFeed) (first : new.first ≡ old.first) (lists : List (List Run)) (gave : GaveMade old lists) where
  -- runs were given
  pub gave_runs : (samples : List ℕ) → samples_of new.runs ≡ samples → left_in old.source ≡ samples ++ left_in new.source → new.ended ≡ false → GaveMade new (lists ++ new.runs ∷ [])
  gave_runs samples runs left going = record {
    split = ap (λ f. left_in f.value) first ∙ gave.split ∙ ap (λ (l : List ℕ). samples_of (together lists) ++ l) left
        ∙ sym (append_assoc (samples_of (together lists)) samples (left_in new.source))
        ∙ ap (λ (l : List ℕ). l ++ left_in new.source) (sym joined);
    few = omega (arith, gave.few, ap (λ f. length (left_in f.value)) first);
    ended = λ is. absurd (both is going);
  } where
    joined : samples_of (together (lists ++ new.runs ∷ [])) ≡ samples_of (together lists) ++ samples
    joined = ap samples_of (together-last lists new.runs) ∙ samples_append (together lists) new.runs ∙ ap (λ (l : List ℕ). samples_of (together lists) ++ l) runs

    both : new.ended ≡ true → new.ended ≡ false → ⊥
    both is going = absurd cc

  -- or its end was told
  pub gave_end : left_in old.source ≡ left_in new.source → left_in new.source ≡ [] → GaveMade new (lists ++ [])
  gave_end left none = record {
    split = ap (λ f. left_in f.value) first ∙ gave.split ∙ ap (λ (l : List ℕ). samples_of (together lists) ++ l) left
        ∙ ap (λ (l : List (List Run)). samples_of (together l) ++ left_in new.source) (sym (append-nil lists));
    few = omega (arith, gave.few, ap (λ f. length (left_in f.value)) first);
    ended = λ is. none;
  }
