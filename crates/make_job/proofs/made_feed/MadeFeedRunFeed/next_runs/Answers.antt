use Rattle.std.proofs.Common.{take, refl}
use Rattle.make_job.proofs.MadeGiving.{gave_few, gave_runs}
use Rattle.make_job.proofs.made_feed.MadeFeedRunFeed.next_runs.Goals as goal

pub returns-clause-gives : goal.returns-clause-gives
returns-clause-gives c = record {
  gave = λ lists gave. gave_runs c.args.self.now _ refl lists gave (take c.in-Ok.count c.read.new.buf) c.put_runs.ensures c.in-Ok.ensures.bytes.0 refl;
  few = λ all gave. gave_few _ all gave;
}
