use Rattle.std.proofs.Common.{ℕ, List, length, sym, subst}
use Rattle.tree_runs.specs.Machines.{Stand}
use Rattle.tree_runs.specs.Runs.{RunsOn}
use Rattle.check_point.specs.Checks.{AllSave}
use Rattle.check_point.specs.laws.EntryLaws.{one_word}
use Rattle.check_laws.proofs.Resumes.{loaded_setups, loaded_stand, never_refused}
use Rattle.check_laws.proofs.resuming.resume.Goals as goal

pub returns-in-Ok : goal.returns-in-Ok
returns-in-Ok g c = record {
  resumes = λ earlier b.
      let m = g.M.Machine in
      let saves = g.M.Keep.saves in
      let old = c.args.machines.now in
      let mid = c.read_check.new.machines in
      let read = c.in-Ok.ensures in
      let one = one_word c.args.word.now c.args.kinds.now c.in-Ok.samples (length earlier) read.0 b.on.check.all read.1 (b.bytes, b.word_is, b.on.check.check) in
      let setups = loaded_setups m.setup m.outputs m.consumed saves c.args.kinds.now c.args.parents.now old mid c.requires.count c.requires.tree.each read.0 read.2 in
      let stands = loaded_stand m.setup m.outputs m.consumed saves c.args.kinds.now c.args.parents.now old mid c.requires.count c.requires.tree.each read.0 read.2 b.on.machines
      (subst (λ (l : List (List ℕ)). AllSave saves b.on.machines l) (sym one.1) b.on.check.save) b.on.setups_are earlier b.on.stand in
      let runs = subst (λ (s : List g.row.M-Setup.Denot). RunsOn m.outputs m.near s c.args.parents.now (Stand m.consumed mid) (Stand m.consumed c.run_direct.new.machines) (g.F.RunFeed.gave c.args.feed.now) (g.F.RunFeed.gave c.run_direct.new.feed)
      (g.G.MarkTake.took c.args.take.now) (g.G.MarkTake.took c.run_direct.new.take) (g.F.RunFeed.at_end c.run_direct.new.feed) c.run_direct.result) setups c.run_direct.ensures.runs.tree in
      record {
        number = one.0;
        lists = runs.lists;
        marks = runs.marks;
        gave = runs.gave;
        took = runs.took;
        told = λ j below. runs.told earlier stands j below;
        rested = λ k some way. runs.rested earlier stands k some way;
        stopped = λ stopped. runs.stopped stopped earlier stands;
        stand = λ ended. runs.stand ended earlier stands;
      };
}

pub returns-in-Err : goal.returns-in-Err
returns-in-Err g c = record {
  resumes = λ earlier b.
      let m = g.M.Machine in
      never_refused m.setup m.outputs m.consumed g.M.Keep.saves c.args.kinds.now c.args.parents.now c.args.machines.now c.read_check.new.machines c.requires.count c.requires.tree.each
      c.args.word.now c.in-Err.fault.instance c.in-Err.fault.why c.in-Err.ensures earlier b;
}
