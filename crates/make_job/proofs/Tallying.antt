-- What is counted of the marks of a made capture is what is to be written.
use Rattle.std.proofs.Common.{◌≡◌, ℕ, ◌*◌, ◌%◌, ◌^◌, ◌<◌, ◌≤◌, zero, suc, if◌then◌else◌, Bool, List, [], ◌∷◌, ◌++◌, length, map, slice_get, Option, Some, None, refl, sym, ◌∙◌, ap, ap₂, subst, arith, All}
use Rattle.std.proofs.lemmas.List.{append-nil, length-map}
use Rattle.la_base.specs.declared.wires.Mark.{Mark}
use Rattle.la_base.specs.declared.wires.Mark.TheVariants.{End as EndMark}
use Rattle.la_base.specs.declared.wires.Note.{Note}
use Rattle.la_base.specs.declared.wires.Out.{Out}
use Rattle.capture_make.specs.Made.{made}
use Rattle.capture_make.proofs.Blocks.{made_length}
use Rattle.decoder_core.specs.Inputs.{Item, Sample}
use Rattle.decoder_core.specs.Marks.{shown}
use Rattle.tree_io.specs.Feeds.{marks_of}
use Rattle.decoder_core.specs.Promises.{GivesNothing}
use Rattle.decoder_core.specs.Trees.{Node, given}
use Rattle.decoder_core.specs.declared.end.RunEnd.TheVariants.{Ended}
use Rattle.decoder_set.specs.Opening.{HasConsumed, setup_of}
use Rattle.decoder_set.specs.Setups.{outs_of}
use Rattle.decoder_set.specs.declared.any.AnyDecoder.{AnyDecoder}
use Rattle.decoder_set.specs.declared.setup.Setup.{Setup}
use Rattle.tree_runs.specs.Machines.{Stand, whole_of}
use Rattle.tree_runs.specs.Passing.{IsForest}
use Rattle.tree_runs.specs.Reaching.{Reaches}
use Rattle.tree_runs.specs.Runs.{ToldOn, input_at, nodes_of}
use Rattle.tree_runs.specs.Taking.{IsTree}
use Rattle.tree_runs.proofs.Fresh.{reads_nothing}
use Rattle.tree_runs.proofs.Telling.{given_at}
use Rattle.stack_spec.specs.declared.bound.Bound.{Bound}
use Rattle.listing_out.specs.Summaries.{summary}
use Rattle.listing_out.specs.declared.summaries.Tally.{Tally}
use Rattle.tree_runs.specs.Listings.{notes_of}
use Rattle.annot_merge.specs.Marks.{notes_in}
use Rattle.make_job.specs.MadeTrees.{IsMadeTree}
use Rattle.make_job.specs.Making.{bus_setup, line_setup, made_listing, made_nodes, tally_of}
use Rattle.make_job.specs.Tallies.{Counted, word_tally}
use Rattle.make_job.specs.declared.tally_taker.TallyTaker.{TallyTaker}
use Rattle.make_job.proofs.MadeLaws.{bus_tally, line_tally, made_nothing}
use Rattle.annot_merge.proofs.MergeLemmas.{notes_append}
use Rattle.stack_laws.proofs.Wires.{notes_of_marks, notes_shown}

-- both decoders stand on the samples
both_roots : IsForest (None ∷ None ∷ [])
both_roots zero parent at = absurd cc
both_roots (suc zero) parent at = absurd cc
both_roots (suc (suc j)) parent at = absurd cc

pub made_is_tree : (bound : Bound) (machines : List AnyDecoder) (parents : List (Option ℕ)) → IsMadeTree bound → machines ≡ bound.machines.items → parents ≡ bound.parents.items → IsTree parents (length machines) 2
made_is_tree bound machines parents tree are parents_are =
    let two : length parents ≡ 2 = ap length (parents_are ∙ tree.parents) in
    let each : length machines ≡ 2 = ap length are ∙ sym (length-map bound.machines.items setup_of) ∙ ap length tree.setups in
    record {
      forest = subst IsForest (sym (parents_are ∙ tree.parents)) both_roots;
      few = omega (arith, two);
      each = omega (arith, two, each);
      takes = sym two;
    }

-- and each gives nothing where it read nothing
both_nothing : (j : ℕ) → GivesNothing (whole_of outs_of (bus_setup ∷ line_setup ∷ []) j)
both_nothing zero = made_nothing.0
both_nothing (suc zero) = made_nothing.1
both_nothing (suc (suc j)) = refl

-- machines that have consumed nothing stand for nothing, each at its place
pub machines_stand : (machines : List AnyDecoder) → All (λ (machine : AnyDecoder). HasConsumed machine []) machines → (j : ℕ) → j < length machines → Stand HasConsumed machines j []
machines_stand machines all j within = (within, λ d. all j d within)

-- a run that ended, of an instance that had read nothing, gave all notes of its definition
told_notes : (at_end : Bool) (whole : List Item → List Out) (near : List Item → ℕ) (was now : List Item) (later : List ℕ → List Item) (feeds : List (List Item)) (taken : List Mark) → ToldOn Ended at_end whole near was now later feeds taken → whole was ≡ [] → notes_in taken ≡ notes_of (whole now)
told_notes at_end whole near was now later feeds taken told nothing =
    let closed = told.closes refl in
    let reached : shown told.body ≡ marks_of told.tells.new = subst (λ (b : Bool). Reaches b (shown told.body) (marks_of told.tells.new)) closed told.tells.shows in
    ap notes_in (told.made ∙ ap (λ (b : Bool). told.body ++ (if b then EndMark ∷ [] else [])) closed)
    ∙ notes_append told.body (EndMark ∷ [])
    ∙ append-nil (notes_in told.body)
    ∙ sym (notes_shown told.body)
    ∙ ap notes_in reached
    ∙ notes_of_marks told.tells.new
    ∙ sym (ap notes_of (told.tells.adds ∙ ap (λ (l : List Out). l ++ told.tells.new) nothing))

same_some : {X : Type 0} (x y : X) → Some x ≡ Some y → x ≡ y
same_some x y is = cc

-- few notes are counted in a word
word_is : (notes : List Note) (expected : Tally) → tally_of notes ≡ expected → expected.count < 2 ^ 64 → word_tally notes ≡ tally_of notes
word_is notes expected is few =
    let len : length notes ≡ expected.count = ap (λ (t : Tally). t.count) is in
    let same : length notes % 2 ^ 64 ≡ length notes = omega (arith, few, len) in
    λ i. record { count = same i; sum = (tally_of notes).sum }

module _ (setups : List Setup) (parents : List (Option ℕ)) (setups_are : setups ≡ bus_setup ∷ line_setup ∷ []) (parents_are : parents ≡ None ∷ None ∷ []) where
  pub forest : IsForest parents
  forest = subst IsForest (sym parents_are) both_roots

  pub as_many : length setups ≡ length parents
  as_many = ap length setups_are ∙ sym (ap length parents_are)

  pub nothing : (j : ℕ) → j < length parents → GivesNothing (whole_of outs_of setups j)
  nothing j within = subst (λ (l : List Setup). GivesNothing (whole_of outs_of l j)) (sym setups_are) (both_nothing j)

  nodes_are : nodes_of setups parents ≡ made_nodes
  nodes_are = ap₂ nodes_of setups_are parents_are

  module _ (near : ℕ → List Item → ℕ) (feeds : ℕ → List (List Item)) (at_end : Bool) (samples : List ℕ) (taken : ℕ → List Mark)
      (told : (j : ℕ) → j < length parents → ToldOn Ended at_end (whole_of outs_of setups j) (near j) (input_at outs_of (nodes_of setups parents) [] j) (input_at outs_of (nodes_of setups parents) samples j) (λ more. input_at outs_of (nodes_of setups parents) (samples ++ more) j) (feeds j) (taken j)) where
    notes_at : (j : ℕ) → j < length parents → (outs : List Out) → slice_get (given outs_of samples made_nodes) j ≡ Some outs → notes_in (taken j) ≡ notes_of outs
    notes_at j within outs at =
        let whole = whole_of outs_of setups j in
        let now = input_at outs_of (nodes_of setups parents) samples j in
        told_notes at_end whole (near j) (input_at outs_of (nodes_of setups parents) [] j) now (λ more. input_at outs_of (nodes_of setups parents) (samples ++ more) j) (feeds j) (taken j) (told j within)
        (ap whole (reads_nothing outs_of setups parents forest as_many nothing j within) ∙ nothing j within)
        ∙ ap notes_of (same_some (whole now) outs (sym (given_at outs_of setups parents forest as_many samples j within) ∙ ap (λ (nodes : List (Node Setup)). slice_get (given outs_of samples nodes) j) nodes_are ∙ at))

    module _ (seed count : ℕ) (few : count ≤ 1000000) (are : samples ≡ made seed count) (taker : TallyTaker) (counted : Counted taker taken) where
      -- the notes of the bus and of the line
      abbrev bus : List Note
      bus = notes_of (outs_of bus_setup (map Sample (made seed count)))

      abbrev line : List Note
      line = notes_of (outs_of line_setup (map Sample (made seed count)))

      two : length parents ≡ 2
      two = ap length parents_are

      bus_is : taker.bus ≡ tally_of bus
      bus_is =
          counted.bus ∙ ap word_tally (notes_at 0 (omega (arith, two)) (outs_of bus_setup (map Sample samples)) refl)
          ∙ ap (λ (l : List ℕ). word_tally (notes_of (outs_of bus_setup (map Sample l)))) are
          ∙ word_is bus _ (bus_tally seed count few) (omega (arith, few))

      line_is : taker.line ≡ tally_of line
      line_is =
          counted.line ∙ ap word_tally (notes_at 1 (omega (arith, two)) (outs_of line_setup (map Sample samples)) refl)
          ∙ ap (λ (l : List ℕ). word_tally (notes_of (outs_of line_setup (map Sample l)))) are
          ∙ word_is line _ (line_tally seed count few) (omega (arith, few))

      pub counted_is : summary (120 * count) taker.bus taker.line ≡ made_listing seed count
      counted_is = λ i. summary (sym (made_length seed count) i) (bus_is i) (line_is i)
