use Rattle.std.proofs.Common.{◌≡◌, ◌≤◌, ◌+◌, ◌∙◌, ◌++◌, ◌∷◌, [], List, ℕ, Some, length, map, max, refl, sym, ap, subst, arith}
use Rattle.std.proofs.lemmas.List.{append-nil}
use Rattle.la_base.specs.Runs.{samples_of}
use Rattle.la_base.specs.declared.wires.Feed.TheVariants.{From as FromFeed}
use Rattle.la_base.specs.declared.wires.Mark.TheVariants.{Floor as FloorMark}
use Rattle.decoder_core.specs.Inputs.{Item}
use Rattle.stack_laws.specs.Feeds.{items_in}
use Rattle.stack_laws.specs.Moves.{MayTell, StepOn, makes}
use Rattle.decoder_core.specs.Packets.{IsFloorOver}
use Rattle.stack_laws.specs.Heeding.{above_in}
use Rattle.stack_laws.proofs.Heeding.{floor_later, floor_max}
use Rattle.stage_run.specs.Boxes.{LieIn, waiting_of}
use Rattle.stage_run.specs.Rows.{waiting}
use Rattle.stage_run.specs.Stages.{near_at, whole_at}
use Rattle.stage_run.proofs.Behind.{behind_nothing, behind_told}
use Rattle.stage_run.proofs.Making.{links_kept, one_of}
use Rattle.stage_run.proofs.stage.Stage.tell_floor.Goals as goal

same_floor : {a b : ℕ} → Some a ≡ Some b → a ≡ b
same_floor is = cc

pub returns-clause-goes : goal.returns-clause-goes
returns-clause-goes g c =
    let m = g.M.Machine in
    let s = c.args.self.now in
    let own = c.floor-own.result in
    let over = c.floor-over.result in
    let floor = c.max.result in
    record {
      links = links_kept s.inbox.input s.outbox c.tell.new.self c.tell.ensures.same;
      setup = refl;
      moves = λ start view v.
          let whole = m.outputs (m.setup s.machine) in
          let prefix = g.met.M.Machine.prefix s.machine in
          let before = start ++ view.consumed in
          let above = above_in view.received (length view.consumed) in
          let larger : max own over ≡ floor = sym c.max.ensures in
          let low : IsFloorOver above whole before floor =
          subst (IsFloorOver above whole before) larger (floor_max above whole before own over (c.floor-own.ensures.floor before v.stands) (floor_later s.above above whole before over v.above (c.floor-over.ensures.floor before v.stands))) in
          let near = c.floor-own.ensures.near before v.stands in
          let told = behind_told whole prefix start view.consumed view.received (λ input. m.near (m.setup s.machine) input 0) floor low (omega (arith, near, larger)) in
          let nothing = append-nil view.consumed in
          let left : items_in view.received ≡ (view.consumed ++ []) ++ waiting_of s.inbox = v.left ∙ ap (λ (l : List Item). l ++ waiting_of s.inbox) (sym nothing) in (
            StepOn [] [] (Some floor) ∷ [],
            omega arith,
            one_of (StepOn [] [] (Some floor)),
            record {
              may = ((v.closed ∙ c.requires.going, (waiting_of s.inbox, left), behind_nothing whole prefix start view.consumed, λ start_at is. subst (MayTell (above_in view.received (length (view.consumed ++ []))) (whole_at m start s) (near_at m start s) (view.consumed ++ [])) (same_floor is) told), tt);
              means = record {
                received = v.received;
                stands = subst (λ (l : List Item). m.consumed s.machine (start ++ l)) (sym nothing) v.stands;
                left = left;
                over = v.over;
                above = subst (λ (l : List Item). s.above ≤ above_in view.received (length l)) (sym nothing) v.above;
                lies = subst (λ (l : List Item). LieIn view.received (length l + length (samples_of (waiting s.inbox.runs))) (waiting s.inbox.feeds)) (sym nothing) v.lies;
                told = refl;
                children = ap (map (makes (FromFeed floor ∷ []))) v.children ∙ sym c.tell.ensures.children;
                marks = ap (makes (FloorMark floor ∷ [])) v.marks ∙ sym c.tell.ensures.told;
                closed = v.closed;
              };
            },
          );
    }
