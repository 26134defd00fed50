-- How a stage goes on.
use Rattle.std.specs.Prelude.{◌≡◌}
use Rattle.std.proofs.Common.{refl, ◌∙◌}
use Rattle.decoder_core.specs.declared.machine.Machine.{Ghosts as MachineGhosts}
use Rattle.stage_run.specs.Stages.{KeepsOn, links}
use Rattle.stage_run.specs.declared.stage.Stage.{Stage}

module _ {M S : Type 0} (m : MachineGhosts M S) where
  -- it has the ends of the same links and a machine of the same setup; and where what it has is
  -- what its machine gives on what it has consumed, it still is
  pub record StageGoesOn (old new : Stage M) : Type 0 where
    pub same_links : links new ≡ links old
    pub setup : m.setup new.machine ≡ m.setup old.machine
    pub keeps : KeepsOn m old new

module _ {M S : Type 0} {m : MachineGhosts M S} where
  -- what does nothing goes on
  pub stage_still : (one : Stage M) → StageGoesOn m one one
  stage_still one = record {
    same_links = refl;
    setup = refl;
    keeps = λ start view means had. (view, means, had);
  }

  -- what goes on from what goes on goes on
  pub stage_further : (one two three : Stage M) → StageGoesOn m one two → StageGoesOn m two three
      → StageGoesOn m one three
  stage_further one two three a b = record {
    same_links = b.same_links ∙ a.same_links;
    setup = b.setup ∙ a.setup;
    keeps = λ start view means had.
        let mid = a.keeps start view means had in
        b.keeps start mid.0 mid.1 mid.2;
  }
