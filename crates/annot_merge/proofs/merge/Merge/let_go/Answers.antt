use Rattle.std.proofs.Common.{◌≡◌, ◌++◌, List, subst}
use Rattle.note_order.specs.declared.entry.Entry.{Entry}
use Rattle.annot_merge.specs.Held.{StandsFor, held_in}
use Rattle.annot_merge.specs.Queues.{listing_of}
use Rattle.annot_merge.proofs.GivingLemmas.{gives_many}
use Rattle.annot_merge.proofs.merge.Merge.let_go.Goals as goal

pub returns-clause-gives : goal.returns-clause-gives
returns-clause-gives c = λ notes len ready.
    let m = c.args.self.now in
    let first : held_in m ≡ notes ++ listing_of c.let_go.new.self.queues.items = c.let_go.ensures.rest notes len ready.run in
    record {
      first = first;
      stands = λ marks given s. gives_many m.count m.bounds.items m.limit notes (listing_of c.let_go.new.self.queues.items) ready.within marks given
          (subst (λ (l : List Entry). StandsFor m.count m.bounds.items m.limit l marks given) first s);
    }
