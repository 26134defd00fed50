use Rattle.std.proofs.Common.{◌≡◌, ◌∙◌, ◌++◌, ◌∷◌, [], List, true, map, refl, sym, ap, arith}
use Rattle.std.proofs.lemmas.List.{append-nil}
use Rattle.la_base.specs.declared.wires.Feed.TheVariants.{End as EndFeed}
use Rattle.la_base.specs.declared.wires.Mark.TheVariants.{End as EndMark}
use Rattle.decoder_core.specs.Inputs.{Item}
use Rattle.stack_laws.specs.Feeds.{items_in}
use Rattle.stack_laws.specs.Moves.{CloseUp, makes}
use Rattle.stage_run.proofs.Coming.{idle_waits}
use Rattle.stage_run.proofs.Lessening.{less_closed}
use Rattle.stage_run.proofs.Making.{links_kept, one_of}
use Rattle.stage_run.proofs.stage.Stage.close.Goals as goal

pub returns-clause-goes : goal.returns-clause-goes
returns-clause-goes g c =
    let m = g.M.Machine in
    let s = c.args.self.now in
    let e = c.end.ensures in
    record {
      links = links_kept s.inbox.input s.outbox c.end.new.self e.same;
      setup = refl;
      moves = λ start view v.
          let all : view.consumed ≡ items_in view.received = sym (v.left ∙ ap (λ (l : List Item). view.consumed ++ l) (idle_waits s.inbox c.requires.done) ∙ append-nil view.consumed) in (
            CloseUp ∷ [],
            omega arith,
            one_of CloseUp,
            record {
              may = ((v.over c.requires.over, all, v.told ∙ c.requires.told, v.closed ∙ c.requires.going), tt);
              means = record {
                received = v.received;
                stands = v.stands;
                left = v.left;
                over = v.over;
                above = v.above;
                lies = v.lies;
                told = v.told;
                children = ap (map (makes (EndFeed ∷ []))) v.children ∙ sym e.children;
                marks = ap (makes (EndMark ∷ [])) v.marks ∙ sym e.told;
                closed = refl;
              };
            },
          );
    }

pub returns-clause-less : goal.returns-clause-less
returns-clause-less g c = less_closed c.args.self.now (record c.args.self.now { outbox = c.end.new.self; closed = true }) refl refl c.requires.going refl
