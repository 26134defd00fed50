-- Marks handed to what takes them, one behind another.
use Rattle.std.proofs.Common.{◌≡◌, ◌∙◌, ℕ, Bool, true, false, not, Result, Ok, Err, refl, sym, subst}
use Rattle.std.specs.Result.{is_ok}
use Rattle.la_io.specs.Causes.{Rose}
use Rattle.tree_io.specs.declared.feeds.MarkTake.{Ghosts as TakeGhosts}
use Rattle.decoder_core.specs.declared.end.RunEnd.{RunEnd}
use Rattle.decoder_core.specs.declared.end.RunEnd.TheVariants.{Ended, Stopped}
use Rattle.tree_runs.specs.Runs.{is_ended}
use Rattle.tree_runs.specs.Trees.{TakesRun}
use Rattle.stage_crew.specs.Gathering.{TakesOne, TakesUntil}
use Rattle.stage_crew.proofs.Common.{not_before, not_true}

-- a count rose where it was stopped, now or before
rose_on : (mid now : Bool) (a b c : ℕ) → (mid ≡ false → b ≡ a) → (mid ≡ true → Rose a b) → (mid ≡ true → c ≡ b) → (mid ≡ false → now ≡ true → Rose b c) → now ≡ true → Rose a c
rose_on true now a b c quiet rose still later is = subst (λ (n : ℕ). Rose a n) (sym (still refl)) (rose refl)
rose_on false now a b c quiet rose still later is = subst (λ (n : ℕ). Rose n c) (quiet refl) (later refl is)

module _ {A O : Type 0} (g : TakeGhosts A O) where
  -- none was taken
  pub takes_none : (stopped : Bool) (now : A) → TakesUntil g stopped stopped now now
  takes_none stopped now = record {
    instances = refl;
    origin = refl;
    stays = λ is. is;
    quiet = λ is. refl;
    still = λ is. refl;
    rose = λ is other. absurd (not_true is other);
    going = λ h. h;
  }

  -- one was
  pub takes_one : {R E : Type 0} {old new : A} (result : Result R E) → TakesOne g old new result → TakesUntil g false (not (is_ok result)) old new
  takes_one (Ok done) p = record {
    instances = p.instances;
    origin = p.origin;
    stays = λ is. is;
    quiet = λ is. p.cause.kept;
    still = λ is. absurd (not_true refl is);
    rose = λ is other. absurd (not_true is other);
    going = p.going;
  }
  takes_one (Err stop) p = record {
    instances = p.instances;
    origin = p.origin;
    stays = λ is. absurd (not_true refl is);
    quiet = λ is. absurd (not_true is refl);
    still = λ is. absurd (not_true refl is);
    rose = λ is other. p.cause.failed;
    going = p.going;
  }

  -- more were
  pub takes_then : {s0 s1 s2 : Bool} {a b c : A} → TakesUntil g s0 s1 a b → TakesUntil g s1 s2 b c → TakesUntil g s0 s2 a c
  takes_then {s0} {s1} {s2} p q = record {
    instances = q.instances ∙ p.instances;
    origin = q.origin ∙ p.origin;
    stays = λ is. q.stays (p.stays is);
    quiet = λ is. q.quiet is ∙ p.quiet (not_before s1 s2 q.stays is);
    still = λ is. q.still (p.stays is) ∙ p.still is;
    rose = λ is other. rose_on s1 s2 _ _ _ p.quiet (p.rose is) q.still q.rose other;
    going = λ h. q.going (p.going h);
  }

  -- a whole run
  pub takes_on : {a b : A} (result : RunEnd) → TakesUntil g false (not (is_ended result)) a b → TakesRun g result a b
  takes_on Ended p = record { instances = p.instances; origin = p.origin; ended = λ is. p.quiet refl; stopped = λ is. absurd cc; going = p.going }
  takes_on Stopped p = record { instances = p.instances; origin = p.origin; ended = λ is. absurd cc; stopped = λ is. p.rose refl refl; going = p.going }
