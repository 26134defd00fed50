use Rattle.std.proofs.Common.{◌∙◌, map, refl, sym, ap, subst, arith}
use Rattle.std.proofs.lemmas.List.{length-map}
use Rattle.stack_laws.specs.Moves.{GiveTo}
use Rattle.stage_run.specs.Sendings.{MayGiveAll, gives_all}
use Rattle.stage_run.specs.Stages.{Giving, Means, near_at, whole_at}
use Rattle.stage_run.proofs.Making.{links_given}
use Rattle.stage_run.proofs.Moving.{given_all, kinds_all}
use Rattle.stage_run.proofs.stage.Stage.give_feeds.Goals as goal

pub returns-clause-goes : goal.returns-clause-goes
returns-clause-goes g c =
    let m = g.M.Machine in
    let s = c.args.self.now in
    let e = c.give_feeds.ensures in
    let place = e.gives.0 in
    let feeds = e.gives.1 in
    let gives = e.gives.3 in
    record {
      links = links_given s.inbox.input s.outbox c.give_feeds.new.self e.links;
      setup = refl;
      moves = λ start view v.
          let given = given_all (whole_at m start s) (near_at m start s) place feeds view (subst (MayGiveAll place feeds) (sym v.children) gives.may) in (
            map (GiveTo place) feeds,
            omega (arith, length-map feeds (GiveTo place), e.gives.2),
            kinds_all (GiveTo place) Giving (λ feed. refl) feeds,
            record {
              may = given.0;
              means = subst (Means m start _) (sym given.1) (record {
                received = v.received;
                stands = v.stands;
                left = v.left;
                over = v.over;
                above = v.above;
                lies = v.lies;
                told = v.told;
                children = ap (gives_all place feeds) v.children ∙ sym gives.is;
                marks = v.marks ∙ sym e.told;
                closed = v.closed;
              });
            },
          );
    }
