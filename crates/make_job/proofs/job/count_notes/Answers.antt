use Rattle.std.proofs.Common.{◌≡◌, ◌++◌, ℕ, List, [], map, refl, sym, ◌∙◌, ap, subst, arith, All}
use Rattle.std.proofs.lemmas.List.{append-nil, length-map}
use Rattle.capture_make.specs.Kept.{left_in}
use Rattle.capture_make.specs.Made.{made}
use Rattle.decoder_set.specs.Opening.{HasConsumed, setup_of}
use Rattle.decoder_set.specs.Setups.{near_of, outs_of}
use Rattle.decoder_set.specs.declared.any.AnyDecoder.{AnyDecoder}
use Rattle.tree_runs.specs.Machines as at
use Rattle.tree_runs.specs.Runs.{feeds_on, samples_in}
use Rattle.tree_runs.proofs.Fresh.{fresh}
use Rattle.make_job.proofs.Tallying.{as_many, counted_is, forest, machines_stand, nothing}
use Rattle.make_job.proofs.job.count_notes.Goals as goal

pub returns : goal.returns
returns c =
    let machines = c.deref_mut.result.now in
    let parents = c.deref.result.now in
    let setups = map setup_of machines in
    let tree = c.requires.tree in
    let setups_are = ap (map setup_of) c.deref_mut.ensures.value ∙ tree.setups in
    let parents_are = c.deref.ensures.value ∙ tree.parents in
    let run = c.in-Ended.ensures.runs in
    let lists = run.tree.lists in
    let marks = run.tree.marks in
    let feed = c.run_direct.new.feed in
    let gave = run.tree.gave [] c.new-feed.ensures.gave in
    let samples : samples_in lists ≡ made c.args.seed c.args.count =
    sym (append-nil (samples_in lists)) ∙ ap (λ (l : List ℕ). samples_in lists ++ l) (sym (gave.ended (run.reads.at_end refl)))
    ∙ sym gave.split ∙ ap (λ f. left_in f.value) run.reads.origin ∙ c.new-feed.ensures.made in
    let counted = run.tree.took (λ _. []) marks c.new-taker.ensures (λ j. refl) in
    let new = subst (λ (l : List AnyDecoder). All (λ (machine : AnyDecoder). HasConsumed machine []) l) (sym c.deref_mut.ensures.value) tree.consumed in
    let many = as_many setups parents setups_are parents_are in
    let stand = fresh outs_of setups parents (forest setups parents setups_are parents_are) many (nothing setups parents setups_are parents_are) (at.Stand HasConsumed machines)
    (λ j within. machines_stand machines new j (omega (arith, within, many, length-map machines setup_of))) in
    counted_is setups parents setups_are parents_are (at.near_of near_of setups) (feeds_on outs_of setups parents [] lists) _ (samples_in lists) marks (run.tree.told [] stand) c.args.seed c.args.count c.requires.count samples c.run_direct.new.take counted
