use Rattle.std.proofs.Common.{length, ◌≡◌, ◌∙◌, ◌++◌, List, map, refl, sym, ap, subst, arith}
use Rattle.std.proofs.lemmas.List.{append-nil, length-map}
use Rattle.la_base.specs.declared.wires.Feed.{Feed}
use Rattle.decoder_core.specs.Inputs.{Item}
use Rattle.stack_laws.specs.Feeds.{items_in}
use Rattle.stack_laws.specs.Moves.{TakeIn}
use Rattle.stage_run.specs.Stages.{Means, Taking, near_at, whole_at}
use Rattle.stage_run.proofs.Coming.{came_end, idle_waits}
use Rattle.stage_run.proofs.Lists.{items-append}
use Rattle.stage_run.proofs.Moving.{kinds_all, took_all}
use Rattle.stage_run.proofs.Making.{links_to}
use Rattle.stage_run.proofs.Lying.{received_above, received_lies}
use Rattle.stage_run.proofs.stage.Stage.receive.Goals as goal

pub returns-else-count-eq0-clause-goes : goal.returns-else-count-eq0-clause-goes
returns-else-count-eq0-clause-goes g c =
    let m = g.M.Machine in
    let s = c.args.self.now in
    let e = c.receive-count.ensures in
    let more = e.came.0 in
    record {
      links = links_to s.inbox.input _ s.outbox e.link.0 e.link.1;
      setup = refl;
      moves = λ start view v.
          let took = took_all (whole_at m start s) (near_at m start s) more view (v.closed ∙ c.requires.going) (v.told ∙ c.requires.told) in
          let all : items_in view.received ≡ view.consumed = v.left ∙ ap (λ (l : List Item). view.consumed ++ l) (idle_waits s.inbox c.requires.done) ∙ append-nil view.consumed in (
            map TakeIn more,
            omega (arith, length-map more TakeIn, e.came.1),
            kinds_all TakeIn Taking (λ feed. refl) more,
            record {
              may = took.0;
              means = subst (Means m start _) (sym took.1) (record {
                received = ap (λ (l : List Feed). l ++ more) v.received ∙ sym e.came.2;
                stands = v.stands;
                left = items-append view.received more ∙ ap (λ (l : List Item). l ++ items_in more) all ∙ ap (λ (l : List Item). view.consumed ++ l) (sym e.came.3);
                over = λ over. came_end view.received more (e.came.4 over);
                above = received_above view.received more s.above (length view.consumed) v.above;
                lies = received_lies view.received more view.consumed _ _ all e.came.5;
                told = v.told;
                children = v.children;
                marks = v.marks;
                closed = v.closed;
              });
            },
          );
    }

pub returns-then-count-eq0-clause-goes : goal.returns-then-count-eq0-clause-goes
returns-then-count-eq0-clause-goes g c =
    let m = g.M.Machine in
    let s = c.args.self.now in
    let e = c.receive-count.ensures in
    let more = e.came.0 in
    record {
      links = links_to s.inbox.input _ s.outbox e.link.0 e.link.1;
      setup = refl;
      moves = λ start view v.
          let took = took_all (whole_at m start s) (near_at m start s) more view (v.closed ∙ c.requires.going) (v.told ∙ c.requires.told) in
          let all : items_in view.received ≡ view.consumed = v.left ∙ ap (λ (l : List Item). view.consumed ++ l) (idle_waits s.inbox c.requires.done) ∙ append-nil view.consumed in (
            map TakeIn more,
            omega (arith, length-map more TakeIn, e.came.1),
            kinds_all TakeIn Taking (λ feed. refl) more,
            record {
              may = took.0;
              means = subst (Means m start _) (sym took.1) (record {
                received = ap (λ (l : List Feed). l ++ more) v.received ∙ sym e.came.2;
                stands = v.stands;
                left = items-append view.received more ∙ ap (λ (l : List Item). l ++ items_in more) all ∙ ap (λ (l : List Item). view.consumed ++ l) (sym e.came.3);
                over = λ over. came_end view.received more (e.came.4 over);
                above = received_above view.received more s.above (length view.consumed) v.above;
                lies = received_lies view.received more view.consumed _ _ all e.came.5;
                told = v.told;
                children = v.children;
                marks = v.marks;
                closed = v.closed;
              });
            },
          );
    }
