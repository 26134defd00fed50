use Rattle.std.proofs.Common.{◌≡◌, [], length, map, rules, sym, subst, ◌∙◌}
use Rattle.tree_runs.specs.Machines.{defined}
use Rattle.tree_runs.specs.Taking.{IsTree}
use Rattle.stack_laws.specs.Laws.{IsLawful}
use Rattle.stack_words.specs.declared.stack.Stack.{Stack}
use Rattle.decode_job.specs.Asking.{WantsOf}
use Rattle.decode_job.specs.Decoding.{DecodesOn}
use Rattle.decode_job.specs.Ending.{end_behind}
use Rattle.decode_job.proofs.Closing.{Rested}
use Rattle.stack_threads.proofs.Origins.{same_origins}
use Rattle.decode_job.proofs.Coming.{decodes_moved, ok_follows, ran_decodes}
use Rattle.decode_job.proofs.job.list_here.Goals as goal

pub returns : goal.returns
returns g c =
    let m = g.M.Machine in
    let s = g.S.Source in
    let k = g.K.Sink in
    let w = g.W.Watch in
    let tree = c.args.tree in
    let feed = c.new-feed in
    let lister = c.over-lister in
    let gave = feed.ensures in
    let took = lister.ensures in
    let run = c.run_alone-ran in
    let to = run.ensures in
    let apart = c.apart-read in
    let same : c.deref.result.now ≡ tree.machines.items = search rules in
    let lawful = subst (λ machines. IsLawful tree.parents.now (defined m.outputs m.near (map m.setup machines))) same c.machines_are_a_tree.ensures in
    let rested : Rested s k w.saw feed.result lister.result = record { gave = gave.gave; took = took.took; source = gave.source_now ∙ sym gave.source; sink = took.now ∙ sym took.first; unseen = subst (λ watch. w.saw watch []) (sym took.watch) c.requires.unseen; goes = took.goes } in
    let stays = same_origins _ _ _ _ _ _ _ _ _ run.result to.runs to.none in
    let over = ran_decodes m s k w.saw w.origin tree.machines.items tree.parents.now feed.result run.new.feed lister.result run.new.take rested run.result
    (ok_follows _ _ run.result to.runs (λ end one. one.tree)) (ok_follows _ _ run.result to.runs (λ end one. one.reads.at_end)) (ok_follows _ _ run.result to.runs (λ end one. one.takes.going)) to.none stays.0 stays.1 stays.2
    lawful (subst (IsTree tree.parents.now (length tree.machines.items)) (sym took.instances) c.requires.lists.tree) (subst (λ (stack : Stack). WantsOf stack (length tree.parents.now)) (sym took.stack) c.requires.lists.wanted) in
    let same_source = apart.ensures.same_source ∙ (over.same_source ∙ gave.first_source) in
    let same_sink = apart.ensures.same_sink ∙ (over.same_sink ∙ took.same) in
    subst (DecodesOn m s k tree.stack.now tree.machines.items tree.parents.now w.saw w.origin c.args.capture.now c.args.source.now _ c.args.sink.now _ c.args.watch _) (sym c.end_behind-end.ensures)
    (decodes_moved m s k tree.machines.items tree.parents.now w.saw w.origin (end_behind run.result run.new.take.cause run.new.feed.end) took.stack gave.capture gave.source (sym apart.ensures.source ∙ search rules) took.first (sym apart.ensures.sink ∙ search rules) took.watch (sym apart.ensures.watch) over.decodes)
