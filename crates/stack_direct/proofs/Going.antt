-- Marks taken behind marks.
use Rattle.std.proofs.Common.{ℕ, Bool, Result, Ok, Err, refl, ◌∙◌, subst, arith}
use Rattle.la_io.specs.Causes.{HasCause}
use Rattle.tree_io.specs.declared.feeds.MarkTake.{Ghosts as TakeGhosts}
use Rattle.decoder_core.specs.declared.end.RunEnd.TheVariants.{Ended, Stopped}
use Rattle.tree_runs.specs.Taking.{GoesOn, KeepsOn}
use Rattle.tree_runs.specs.Trees.{TakesRun}
use Rattle.stack_direct.specs.Trees.{TakesOn}

module _ {A O : Type 0} (instances : A → ℕ) (origin : A → O) (stops : A → ℕ)
    (going : A → Bool → Type 0) where
  -- none yet
  pub goes_nowhere : (now : A) → KeepsOn instances origin stops going now now
  goes_nowhere now = record {
    instances = refl;
    origin = refl;
    cause = record { later = omega arith; kept = refl; failed = tt };
    going = λ g. g;
  }

  -- whatever the answer is, where it is Ok
  pub goes_ok : {R E : Type 0} {old new : A} {done : R} → GoesOn {E = E} instances origin stops going old new (Ok done) → KeepsOn instances origin stops going old new
  goes_ok p = record {
    instances = p.instances;
    origin = p.origin;
    cause = record { later = p.cause.later; kept = p.cause.kept; failed = tt };
    going = p.going;
  }

  -- marks behind marks at which it didn't stop
  pub goes_then : {R E T F : Type 0} {old mid new : A} {done : R} {result : Result T F}
      → GoesOn {E = E} instances origin stops going old mid (Ok done) → GoesOn instances origin stops going mid new result
      → GoesOn instances origin stops going old new result
  goes_then {old = old} {mid = mid} {new = new} {result = result} p q = record {
    instances = q.instances ∙ p.instances;
    origin = q.origin ∙ p.origin;
    cause = subst (λ (n : ℕ). HasCause n (stops new) result) p.cause.kept q.cause;
    going = λ g. q.going (p.going g);
  }

module _ {A O R E : Type 0} (g : TakeGhosts A O) {old new : A} where
  -- those of a run that ended
  pub runs_out : {done : R} → TakesOn g {E = E} old new (Ok done) → TakesRun g Ended old new
  runs_out p = record { instances = p.instances; origin = p.origin; ended = λ _. p.cause.kept; stopped = λ is. absurd cc; going = p.going }

  -- those of a run that was stopped
  pub runs_until : {why : E} → TakesOn g {R = R} old new (Err why) → TakesRun g Stopped old new
  runs_until p = record { instances = p.instances; origin = p.origin; ended = λ is. absurd cc; stopped = λ _. p.cause.failed; going = p.going }
