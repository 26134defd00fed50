use Rattle.std.proofs.Common.{◌∙◌, map, refl, sym, ap, subst, arith}
use Rattle.std.proofs.lemmas.List.{length-map}
use Rattle.stack_laws.specs.Moves.{TellOut}
use Rattle.stage_run.specs.Sendings.{MaySendAll, sends_all}
use Rattle.stage_run.specs.Stages.{Means, Telling, near_at, whole_at}
use Rattle.stage_run.proofs.Making.{links_given}
use Rattle.stage_run.proofs.Moving.{kinds_all, told_all}
use Rattle.stage_run.proofs.stage.Stage.give_marks.Goals as goal

pub returns-clause-goes : goal.returns-clause-goes
returns-clause-goes g c =
    let m = g.M.Machine in
    let s = c.args.self.now in
    let e = c.give_marks.ensures in
    let marks = e.gives.0 in
    let sends = e.gives.2 in
    record {
      links = links_given s.inbox.input s.outbox c.give_marks.new.self e.links;
      setup = refl;
      moves = λ start view v.
          let told = told_all (whole_at m start s) (near_at m start s) marks view (subst (MaySendAll marks) (sym v.marks) sends.may) in (
            map TellOut marks,
            omega (arith, length-map marks TellOut, e.gives.1),
            kinds_all TellOut Telling (λ mark. refl) marks,
            record {
              may = told.0;
              means = subst (Means m start _) (sym told.1) (record {
                received = v.received;
                stands = v.stands;
                left = v.left;
                over = v.over;
                above = v.above;
                lies = v.lies;
                told = v.told;
                children = v.children ∙ sym e.children;
                marks = ap (sends_all marks) v.marks ∙ sym sends.is;
                closed = v.closed;
              });
            },
          );
    }
