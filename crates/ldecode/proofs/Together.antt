-- Runs over parts write together what a run over the whole does.
use Rattle.std.proofs.Common.{◌≡◌, ◌<◌, ◌==◌, ◌&&◌, ◌/◌, ◌%◌, ℕ, zero, suc, Bool, true, false, true≢false, not, List, [], ◌∷◌, ◌++◌, length, map, Option, Some, None, refl, sym, ◌∙◌, ap, subst, arith, append_assoc}
use Rattle.std.specs.Prelude.{codes, slice_index}
use Rattle.std.specs.List.{flat_map}
use Rattle.std.proofs.lemmas.List.{append_cancel_right, length-map}
use Rattle.hex.specs.Hex.{decode_of, encode_lower, encode_with, lower_digits}
use Rattle.check_laws.specs.Parts.{all_of}
use Rattle.check_point.specs.Checks.{check_line}
use Rattle.decoder_core.specs.Promises.{GivesNothing, KeepsFront}
use Rattle.decoder_core.specs.Trees.{Node, given}
use Rattle.decoder_set.specs.Opening.{opened_by, setup_of}
use Rattle.decoder_set.specs.Setups.{outs_of}
use Rattle.decoder_set.specs.declared.setup.Setup.{Setup}
use Rattle.decoder_set.specs.laws.KindLaws.{promises_of}
use Rattle.decode_job.specs.Listing.{given_behind, listing_of, notes_to_list, output_of}
use Rattle.decode_job.specs.Together.{ListTheWhole, listings_of_parts, notes_of_parts}
use Rattle.decode_job.proofs.Together.{list_the_whole}
use Rattle.stack_words.specs.Accepting.{Accepted, is_shown}
use Rattle.tree_runs.specs.Machines.{whole_of}
use Rattle.tree_runs.specs.Passing.{IsForest}
use Rattle.tree_runs.specs.Runs.{nodes_of}
use Rattle.tree_runs.proofs.Ending.{keeps_at}
use Rattle.tree_runs.proofs.Fresh.{nothing_at}
use Rattle.run_asks.specs.Parting.{Saves}
use Rattle.ldecode.specs.Parts.{CameBefore, parents_on, part_listing, setups_on}
use Rattle.ldecode.specs.Together.{ArePartRuns, PartRun, WriteTheWhole, is_one_word}

-- the word behind the last blank of a text is one
no_word : (a w : List ℕ) → is_one_word (a ++ 32 ∷ w) ≡ false
no_word [] w = refl
no_word (x ∷ a) w = by (not (x == 32)) (no_word a w)
  where
    by : (b : Bool) → is_one_word (a ++ 32 ∷ w) ≡ false → (b && is_one_word (a ++ 32 ∷ w)) ≡ false
    by true rest = rest
    by false rest = refl

last_word : (a b v w : List ℕ) → is_one_word v ≡ true → is_one_word w ≡ true → a ++ 32 ∷ v ≡ b ++ 32 ∷ w → (a ≡ b) × (v ≡ w)
last_word [] [] v w one other e = (refl, cc)
last_word [] (y ∷ b) v w one other e =
    let same : v ≡ b ++ 32 ∷ w = cc in absurd (true≢false (sym one ∙ ap is_one_word same ∙ no_word b w))
last_word (x ∷ a) [] v w one other e =
    let same : a ++ 32 ∷ v ≡ w = cc in absurd (true≢false (sym other ∙ ap is_one_word (sym same) ∙ no_word a v))
last_word (x ∷ a) (y ∷ b) v w one other e =
    let head : x ≡ y = cc in
    let rest = last_word a b v w one other cc in
    (λ i. head i ∷ rest.0 i, rest.1)

-- the word of bytes is one
digit_at : (t : List ℕ) → is_one_word t ≡ true → (n : ℕ) → (slice_index t n == 32) ≡ false
digit_at [] all n = refl
digit_at (x ∷ t) all zero = by (x == 32) (is_one_word t) all
  where
    by : (b rest : Bool) → (not b && rest) ≡ true → b ≡ false
    by true rest is = absurd (true≢false (sym is))
    by false rest is = refl
digit_at (x ∷ t) all (suc n) = digit_at t (by (not (x == 32)) (is_one_word t) all) n
  where
    by : (b rest : Bool) → (b && rest) ≡ true → rest ≡ true
    by true rest is = is
    by false rest is = absurd (true≢false (sym is))

word_of : (bytes : List ℕ) → is_one_word (encode_lower bytes) ≡ true
unfolding encode_with
word_of [] = refl
word_of (byte ∷ bytes) =
    let high : (slice_index lower_digits (byte / 16) == 32) ≡ false = digit_at lower_digits refl (byte / 16) in
    let low : (slice_index lower_digits (byte % 16) == 32) ≡ false = digit_at lower_digits refl (byte % 16) in
    rw (high, low) (word_of bytes)

-- the text of a part with its checkpoint is read in one way
line_is : (lines word listing bytes : List ℕ) → is_one_word word ≡ true → lines ++ (codes "checkpoint: " ++ (word ++ 10 ∷ [])) ≡ listing ++ check_line bytes → (lines ≡ listing) × (word ≡ encode_lower bytes)
line_is lines word listing bytes one e =
    let ahead = codes "checkpoint:" in
    let mine : lines ++ (codes "checkpoint: " ++ (word ++ 10 ∷ [])) ≡ ((lines ++ ahead) ++ 32 ∷ word) ++ 10 ∷ [] = grouped lines ahead word in
    let theirs : listing ++ check_line bytes ≡ ((listing ++ ahead) ++ 32 ∷ encode_lower bytes) ++ 10 ∷ [] =
    ap (λ (l : List ℕ). listing ++ l) (append_assoc (codes "checkpoint: ") (encode_lower bytes) (10 ∷ [])) ∙ grouped listing ahead (encode_lower bytes) in
    let both = last_word (lines ++ ahead) (listing ++ ahead) word (encode_lower bytes) one (word_of bytes)
    (append_cancel_right ((lines ++ ahead) ++ 32 ∷ word) ((listing ++ ahead) ++ 32 ∷ encode_lower bytes) (10 ∷ []) (sym mine ∙ e ∙ theirs)) in
    (append_cancel_right lines listing ahead both.0, both.1)
  where
    grouped : (text ahead word : List ℕ) → text ++ ((ahead ++ 32 ∷ []) ++ (word ++ 10 ∷ [])) ≡ ((text ++ ahead) ++ 32 ∷ word) ++ 10 ∷ []
    grouped text ahead word =
        ap (λ (l : List ℕ). text ++ l) (append_assoc ahead (32 ∷ []) (word ++ 10 ∷ []))
        ∙ sym (append_assoc text ahead (32 ∷ word ++ 10 ∷ []))
        ∙ sym (append_assoc (text ++ ahead) (32 ∷ word) (10 ∷ []))

-- the samples of all runs
samples_are : (runs : List PartRun) → all_of (map (λ (run : PartRun). run.samples) runs) ≡ flat_map (λ run. run.samples) runs
samples_are [] = refl
samples_are (run ∷ runs) = ap (λ (l : List ℕ). run.samples ++ l) (samples_are runs)

-- nodes by their setups and their places
nodes_are : (nodes : List (Node Setup)) → nodes_of (setups_on nodes) (parents_on nodes) ≡ nodes
nodes_are [] = refl
nodes_are (node ∷ nodes) = ap (λ (l : List (Node Setup)). node ∷ l) (nodes_are nodes)

module _ (saves : Saves) (accepted : Accepted) (nodes : List (Node Setup)) (none : accepted.binary ≡ None) where
  abbrev pieces_of : List PartRun → List (List ℕ)
  pieces_of runs = map (λ (run : PartRun). run.samples) runs

  lists_notes : (earlier samples : List ℕ) → part_listing accepted nodes earlier samples ≡ listing_of accepted.instances (is_shown accepted.shown) (given_behind outs_of earlier samples nodes)
  lists_notes earlier samples = ap (λ (b : Option (ℕ × ℕ)). output_of accepted b (given_behind outs_of earlier samples nodes)) none

  -- each run goes on behind the one before
  lines_are : (runs : List PartRun) (from : Option (List ℕ)) (earlier : List ℕ) → CameBefore saves nodes from earlier → ArePartRuns saves accepted nodes from runs
      → flat_map (λ run. run.lines) runs ≡ listings_of_parts outs_of accepted nodes earlier (pieces_of runs)
  lines_are [] from earlier came are = refl
  lines_are (run ∷ runs) from earlier came are =
      let does = are.0.says earlier came in
      let both = line_is run.lines run.word (part_listing accepted nodes earlier run.samples) does.bytes are.0.word does.wrote in
      let rest = lines_are runs (Some run.word) (earlier ++ run.samples) (record { bytes = does.bytes; on = does.check; word_is = ap decode_of both.1 ∙ does.check.check.back }) are.1 in
      λ i. (both.0 ∙ lists_notes earlier run.samples) i ++ rest i

  pub write_the_whole : IsForest (parents_on nodes) → (first : PartRun) (others : List PartRun) → ArePartRuns saves accepted nodes None (first ∷ others) → WriteTheWhole accepted nodes (first ∷ others)
  write_the_whole forest first others are =
      let runs : List PartRun = first ∷ others in
      let does = are.0.says [] refl in
      let machines = does.check.machines in
      let setups = setups_on nodes in
      let parents = parents_on nodes in
      let count : length setups ≡ length parents = length-map nodes (λ node. node.setup) ∙ sym (length-map nodes (λ node. node.parent)) in
      let many : length machines ≡ length setups = sym (length-map machines setup_of) ∙ ap length does.check.setups_are in
      let nothing : (j : ℕ) → j < length parents → GivesNothing (whole_of outs_of setups j) = λ j low.
      subst (λ (s : List Setup). GivesNothing (whole_of outs_of s j)) does.check.setups_are (nothing_at setup_of outs_of (λ d. (promises_of (setup_of d) (opened_by d)).nothing) machines j (omega (arith, low, count, many))) in
      let keeps : (j : ℕ) → j < length parents → KeepsFront (whole_of outs_of setups j) = λ j low.
      subst (λ (s : List Setup). KeepsFront (whole_of outs_of s j)) does.check.setups_are (keeps_at setup_of outs_of (λ d. (promises_of (setup_of d) (opened_by d)).prefix) machines j (omega (arith, low, count, many))) in
      let together = subst (λ (n : List (Node Setup)). ListTheWhole outs_of accepted n (pieces_of runs)) (nodes_are nodes) (list_the_whole outs_of setups parents forest count nothing keeps accepted (pieces_of runs)) in
      record {
        notes = notes_of_parts outs_of accepted nodes [] (pieces_of runs);
        lines = lines_are runs None [] refl are ∙ together.lines;
        all = together.notes ∙ sym (ap (λ (b : Option (ℕ × ℕ)). notes_to_list accepted b (given outs_of (all_of (pieces_of runs)) nodes)) none)
            ∙ ap (λ (l : List ℕ). notes_to_list accepted accepted.binary (given outs_of l nodes)) (samples_are runs);
      }
