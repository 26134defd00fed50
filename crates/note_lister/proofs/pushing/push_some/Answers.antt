use Rattle.std.proofs.Common.{[], Option, refl, sym, subst}
use Rattle.la_base.specs.declared.wires.Mark.{Mark}
use Rattle.note_lister.specs.Pushing.{PushesFront, PushesMarks, list_of}
use Rattle.note_lister.proofs.PushLemmas.{pushes_nothing}
use Rattle.note_lister.proofs.TakingLemmas.{none_pushed, one_pushed}
use Rattle.note_lister.proofs.pushing.push_some.Goals as goal

pub returns-in-Ok-clause-pushes : goal.returns-in-Ok-clause-pushes
returns-in-Ok-clause-pushes c =
    let old = c.args.merge.now in
    let new = c.push.new.self in
    subst (λ (o : Option Mark). PushesMarks old new c.args.instance (list_of o)) (sym c.in-Some.is) (one_pushed old new c.args.instance c.in-Some.mark c.in-Ok.ensures.takes)

pub returns-in-Err-clause-front : goal.returns-in-Err-clause-front
returns-in-Err-clause-front c =
    let old = c.args.merge.now in
    let new = c.push.new.self in
    subst (λ (o : Option Mark). PushesFront old new c.args.instance (list_of o)) (sym c.in-Some.is)
    (record { first = []; refused = c.in-Some.mark; rest = []; front = refl; pushes = none_pushed old new c.args.instance c.in-Err.ensures.kept.1 })

pub returns-in-None-clause-pushes : goal.returns-in-None-clause-pushes
returns-in-None-clause-pushes c =
    let old = c.args.merge.now in
    subst (λ (o : Option Mark). PushesMarks old old c.args.instance (list_of o)) (sym c.in-None.is) (pushes_nothing old c.args.instance)
