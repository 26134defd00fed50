use Rattle.std.proofs.Common.{[], refl, sym, ap, subst, MutBor}
use Rattle.stack_words.specs.Stacks.{stack_meaning}
use Rattle.note_lister.specs.Taking.{WritesAll}
use Rattle.note_lister.proofs.TakingLemmas.{nothing_taken}
use Rattle.note_lister.proofs.lister.Lister.over.Goals as goal

pub returns-clause-took : goal.returns-clause-took
returns-clause-took g c =
    let accepted = stack_meaning c.args.stack.now in
    let k = g.K.Sink in
    let saw = g.W.Watch.saw c.args.watch in
    let is = sym c.of-first.ensures in
    let all = subst (λ (r : MutBor g.row.K.Denot). WritesAll accepted accepted.binary c.args.merge saw (k.written r.now) (k.written c.args.sink.now) (λ _. [])) is
    (nothing_taken accepted accepted.binary c.args.merge saw (k.written c.args.sink.now) c.requires.unseen c.requires.stands c.requires.none) in
    record {
      same_sink = ap (λ (r : MutBor g.row.K.Denot). r.ghost_name) is;
      goes_on_is = subst (λ (r : MutBor g.row.K.Denot). k.goes_on r.now c.args.sink.now) is (g.met.K.Sink.goes_on_still c.args.sink.now);
      writes = (
        refl,
        ap (λ (r : MutBor g.row.K.Denot). k.faults r.now) is,
        all,
      );
      at_pause = λ _. all;
      at_stop = λ is. absurd cc;
      holds_none = λ _. c.requires.none;
    }
