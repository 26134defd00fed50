use Rattle.std.proofs.Common.{◌≡◌, ◌≤◌, [], length, rules, arith, refl, ap, sym, subst, ◌∙◌}
use Rattle.tree_runs.specs.Taking.{IsTree}
use Rattle.note_lister.specs.Taking.{instances_of, stack_of}
use Rattle.stack_words.specs.declared.stack.Stack.{Stack}
use Rattle.decode_job.specs.Asking.{WantsOf}
use Rattle.decode_job.specs.Parting.{room_behind}
use Rattle.decode_job.specs.UpTo.{count_of, most_of}
use Rattle.decode_job.proofs.Flushing.{relation_moved}
use Rattle.decode_job.proofs.Parted.{parted}
use Rattle.decode_job.proofs.Parting.{parts_moved}
use Rattle.decode_job.proofs.part_job.list_part.Goals as goal

pub returns-clause-lists : goal.returns-clause-lists
returns-clause-lists g c =
    let m = g.M.Machine in
    let s = g.S.Source in
    let k = g.K.Sink in
    let captured = c.new-captured.ensures in
    let limit = c.new-feed in
    let lister = c.over-lister in
    let run = c.run_direct in
    let runs = run.ensures.runs.tree in
    let feed = run.new.feed in
    let gave = runs.gave [] limit.ensures.gave in
    let took = runs.took (λ _. []) runs.marks lister.ensures.took (λ j. refl) in
    let stack_is : stack_of run.new.take ≡ c.args.start.now.stack.now = ap (λ o. o.0.now) run.ensures.runs.takes.origin ∙ lister.ensures.stack in
    let count_is = run.ensures.runs.takes.instances ∙ lister.ensures.instances in
    let most : most_of feed ≡ room_behind c.args.start.now.earlier = ap (λ o. o.1) run.ensures.runs.reads.origin ∙ (limit.ensures.room ∙ search rules) in
    let few : count_of feed ≤ most_of feed = gave.within in
    let tree : IsTree c.args.start.now.parents.now (length c.args.machines.now) (instances_of run.new.take) = subst (IsTree c.args.start.now.parents.now (length c.args.machines.now)) (sym count_is) c.requires.lists.tree in
    let wanted : WantsOf (stack_of run.new.take) (length c.args.start.now.parents.now) = subst (λ (st : Stack). WantsOf st (length c.args.start.now.parents.now)) (sym stack_is) c.requires.lists.wanted in
    parts_moved m s k c.args.machines.now run.new.machines c.args.start.now.parents.now c.args.start.now.earlier
    stack_is (ap (λ o. o.0.0.value.now) run.ensures.runs.reads.origin ∙ (ap (λ f. f.first_capture.value.now) limit.ensures.feed ∙ captured.capture)) (ap (λ o. o.0.1.value.now) run.ensures.runs.reads.origin ∙ (ap (λ f. f.first_source.value.now) limit.ensures.feed ∙ captured.source))
    (search rules) (ap (λ o. o.1.value.now) run.ensures.runs.takes.origin ∙ lister.ensures.first) (search rules) (sym c.end_of_part-end.ensures) refl
    (parted m s k g.W.Watch.saw c.args.machines.now run.new.machines c.args.start.now.parents.now c.args.start.now.earlier limit.result feed lister.result run.new.take run.result runs gave took run.ensures.runs.reads.at_end (run.ensures.runs.takes.going lister.ensures.goes) most few c.machines_are_a_tree.ensures tree wanted)

pub returns-clause-goes_on : goal.returns-clause-goes_on
returns-clause-goes_on g c =
    let lister = c.over-lister in
    let run = c.run_direct in
    let took = run.ensures.runs.tree.took (λ _. []) run.ensures.runs.tree.marks lister.ensures.took (λ j. refl) in
    relation_moved g.K.Sink.goes_on (ap (λ o. o.1.value.now) run.ensures.runs.takes.origin ∙ lister.ensures.first) (search rules) took.goes_on_is

pub returns-clause-fits : goal.returns-clause-fits
returns-clause-fits g c =
    let limit = c.new-feed in
    let run = c.run_direct in
    let gave = run.ensures.runs.tree.gave [] limit.ensures.gave in
    let most : most_of run.new.feed ≡ room_behind c.args.start.now.earlier = ap (λ o. o.1) run.ensures.runs.reads.origin ∙ (limit.ensures.room ∙ search rules) in
    let within = gave.within in
    omega (arith, within, most)
