use Rattle.std.proofs.Common.{◌≡◌, ◌∙◌, ◌+◌, [], length, false, true, refl, sym, ap, subst, arith}
use Rattle.std.proofs.lemmas.List.{append-nil}
use Rattle.la_base.specs.Runs.{samples_of}
use Rattle.stage_run.specs.Inputs.{came}
use Rattle.stage_run.specs.Rows.{waiting}
use Rattle.stage_run.proofs.Coming.{none_came}
use Rattle.stage_run.proofs.Ending.{opened_children, opened_told}
use Rattle.stage_run.proofs.Lying.{opened_lies}
use Rattle.stage_run.proofs.stage.Stage.«open».Goals as goal

pub returns-clause-means : goal.returns-clause-means
returns-clause-means g c = λ start stands. record {
  received = sym (ap came c.new.ensures.input ∙ (none_came c.args.input c.requires.ends.0).0);
  stands = subst (g.M.Machine.consumed c.args.machine) (sym (append-nil start)) stands;
  left = sym c.new.ensures.none;
  above = omega arith;
  lies = opened_lies [] (0 + length (samples_of (waiting c.new.result.runs))) (waiting c.new.result.feeds) [] c.new.ensures.waits refl;
  over = λ over. let no : false ≡ true = sym c.new.ensures.«open» ∙ over in absurd cc;
  told = refl;
  children = opened_children c.new-2.result c.new-2.ensures.empty c.args.children.items (ap (λ v. v.items) c.new-2.ensures.links.0) c.requires.ends.2;
  marks = opened_told c.new-2.result c.new-2.ensures.empty c.args.marks c.new-2.ensures.links.1 c.requires.ends.1;
  closed = refl;
}
