use Rattle.make_job.proofs.MadeGiving.{made_left_few}
use Rattle.make_job.proofs.made_feed.MadeFeed.new.Goals as goal

pub invariant_of-result : goal.invariant_of-result
invariant_of-result c = record { few = made_left_few c.args.seed c.args.count c.new-source.result c.requires.count c.new-source.ensures.left }
