use Rattle.std.proofs.Common.{[], ◌∷◌, Option, refl, sym, subst}
use Rattle.la_base.specs.declared.wires.Mark.{Mark}
use Rattle.tree_io.specs.Feeds.{TakesMarks}
use Rattle.tree_io.proofs.Taking.{takes_nothing}
use Rattle.note_lister.specs.Pushing.{list_of}
use Rattle.note_lister.specs.Taking.{Took}
use Rattle.note_lister.proofs.lister.Lister.some_apart.Goals as goal

pub returns-in-Some-clause-adds : goal.returns-in-Some-clause-adds
returns-in-Some-clause-adds g c =
    let k = g.K.Sink in
    let w = g.W.Watch in
    subst (λ (o : Option Mark). TakesMarks (Took k.written k.faults k.goes_on w.saw c.args.self.now) (Took k.written k.faults k.goes_on w.saw c.take_apart.new.self) c.args.instance (list_of o)) (sym c.in-Some.is) c.take_apart.ensures.adds

pub returns-in-None-clause-adds : goal.returns-in-None-clause-adds
returns-in-None-clause-adds g c =
    let k = g.K.Sink in
    let w = g.W.Watch in
    subst (λ (o : Option Mark). TakesMarks (Took k.written k.faults k.goes_on w.saw c.args.self.now) (Took k.written k.faults k.goes_on w.saw c.args.self.now) c.args.instance (list_of o)) (sym c.in-None.is) (takes_nothing (Took k.written k.faults k.goes_on w.saw c.args.self.now) c.args.instance)
