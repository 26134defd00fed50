use Rattle.std.proofs.Common.{◌∙◌, map}
use Rattle.std.proofs.lemmas.List.{length-map}
use Rattle.stack_laws.proofs.Trees.{is_lawful}
use Rattle.stack_threads.proofs.Exact.{exact_runs, inputs_grow}
use Rattle.stack_threads.proofs.laws.exact_runs_are_runs.Goals as goal

pub returns-clause-tree : goal.returns-clause-tree
returns-clause-tree g c = λ result run.
    let m = g.M.Machine in
    let laws = g.met.M.Machine in
    let ms = c.args.before.value.items in
    let parents = c.args.parents.now in
    exact_runs
    (inputs_grow m.outputs m.near (map m.setup ms) parents c.requires.forest (length-map ms m.setup ∙ c.requires.each) (is_lawful m.setup m.outputs m.near laws.nothing laws.prefix ms parents c.requires.forest))
    run

pub returns-clause-whole : goal.returns-clause-whole
returns-clause-whole g c = λ result run.
    record {
      tree = returns-clause-tree g c result run.tree;
      reads = run.reads;
      takes = run.takes;
    }
