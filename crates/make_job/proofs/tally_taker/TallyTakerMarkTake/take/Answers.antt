use Rattle.std.proofs.Common.{refl, arith}
use Rattle.make_job.proofs.Counting.{counts_none, counts_note, no_note}
use Rattle.make_job.proofs.tally_taker.TallyTakerMarkTake.take.Goals as goal

pub returns-in-Note-clause-adds : goal.returns-in-Note-clause-adds
returns-in-Note-clause-adds c = λ before after had adds.
    counts_note before after c.args.instance c.args.mark adds c.in-Note.note c.in-Note.is c.requires c.args.self.now c.count.new.self c.count.ensures.bus c.count.ensures.line had

pub returns-in-Piece : goal.returns-in-Piece
returns-in-Piece c = record {
  adds = λ before after had adds. counts_none before after c.args.instance c.args.mark adds (no_note before after c.args.instance c.args.mark adds c.in-Piece.is) c.args.self.now had;
  instances = refl;
  cause = record { later = omega arith; kept = refl; failed = tt };
  going = λ _. refl;
  origin = refl;
}
