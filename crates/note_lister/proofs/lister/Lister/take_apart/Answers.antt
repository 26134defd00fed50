use Rattle.std.proofs.Common.{◌≡◌, ◌≢◌, ◌<◌, inl, inr, [], ◌∷◌, refl, sym, arith}
use Rattle.std.specs.Prelude.{IsSome}
use Rattle.std.proofs.lemmas.Bool.{cases_eq}
use Rattle.stack_words.specs.Stacks.{stack_meaning}
use Rattle.note_lister.specs.Taking.{first_sink, sink_of}
use Rattle.note_lister.proofs.TakingLemmas.{cut_first, stopped_again}
use Rattle.note_lister.proofs.lister.Lister.take_apart.Goals as goal

pub returns-then-is_some-clause-adds : goal.returns-then-is_some-clause-adds
returns-then-is_some-clause-adds g c = λ before after took adds.
    let k = g.K.Sink in
    let old = c.args.self.now in
    let accepted = stack_meaning old.stack.now in
    let saw = g.W.Watch.saw old.watch in
    let s = c.stop_again.ensures in
    let some : IsSome old.cause = sym c.if-is_some.ensures in
    let f = s.first in
    let a = s.again in
    let rises : c.stop_again.new.stops ≢ 0 = λ is. elim (cases_eq old.stops 0) [ inl none ↦ (let one : c.stop_again.new.stops ≡ 1 = f none in omega (arith, is, one)) | inr more ↦ (let two : 1 < c.stop_again.new.stops = a more in omega (arith, is, two)) ] in
    record {
      same_sink = took.same_sink;
      goes_on_is = took.goes_on_is;
      writes = stopped_again accepted before after c.args.instance (c.args.mark ∷ []) adds old.merge old.cause old.stops c.stop_again.new.stops saw (k.written (first_sink old)) (k.written (sink_of old))
          (k.faults (first_sink old)) (k.faults (sink_of old)) some rises took.writes;
      at_pause = λ is. absurd (rises is);
      at_stop = λ is. cut_first accepted before after c.args.instance c.args.mark adds accepted.binary refl old.merge saw (k.written (first_sink old)) (k.written (sink_of old)) c.requires.within (took.at_pause (elim (cases_eq old.stops 0) [ inl none ↦ none | inr more ↦ (let two : 1 < c.stop_again.new.stops = a more in absurd (omega (arith, is, two))) ]));
      holds_none = took.holds_none;
    }
