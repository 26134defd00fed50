use Rattle.std.proofs.Common.{◌∙◌}
use Rattle.stage_run.proofs.Ending.{empty_children, empty_told, is_closed, is_emptied}
use Rattle.stage_run.proofs.stage.Stage.into_parts.Goals as goal

pub returns-clause-means : goal.returns-clause-means
returns-clause-means g c = λ start view v.
    let s = c.args.self in
    let empty = is_emptied s.closed s.outbox c.requires in
    record {
      received = v.received;
      stands = v.stands;
      children = v.children ∙ empty_children s.outbox empty;
      marks = v.marks ∙ empty_told s.outbox empty;
      closed = v.closed ∙ is_closed s.closed s.outbox c.requires;
    }
