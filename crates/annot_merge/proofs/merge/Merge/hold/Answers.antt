use Rattle.std.proofs.lemmas.Result.{on_ok_weaker}
use Rattle.annot_merge.specs.Held.{held_in}
use Rattle.annot_merge.specs.Queues.{listing_of}
use Rattle.annot_merge.proofs.MergeLemmas.{takes_note}
use Rattle.annot_merge.proofs.merge.Merge.hold.Goals as goal

pub returns-clause-holds : goal.returns-clause-holds
returns-clause-holds c =
    let m = c.args.self.now in
    on_ok_weaker c.put.result (λ puts. takes_note m.count m.bounds.items m.limit (held_in m) (listing_of c.put.new.self.queues.items) c.args.instance c.args.note c.requires (λ ordered. puts)) c.put.ensures.puts
