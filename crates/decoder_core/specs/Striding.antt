-- What a decoder of samples does on its walk over many stops, while it waits for a time alone or for
-- the fall of lines alone.
use Rattle.std.specs.Prelude.{ℕ, ◌≡◌, ◌≢◌, List, [], ◌++◌}
use Rattle.la_base.specs.declared.wires.Out.{Out}
use Rattle.wait_cond.specs.Conds.{IsFall, IsTimer}
use Rattle.wait_cond.specs.Walks.{IsTimeLeft}
use Rattle.wait_cond.specs.declared.alt.Alt.{Alt}
use Rattle.wait_cond.specs.declared.walk.Walk.{Walk}
use Rattle.decoder_core.specs.Treading.{OnWalk}

-- a time alone is waited for, and so many samples come before the one at which it has passed
pub record Timed (alts : List Alt) (walk : Walk) (left : ℕ) : Type 0 where
  pub skip : ℕ
  pub timer : IsTimer alts skip
  pub left_is : IsTimeLeft walk skip left

-- a time alone is waited for, or the fall of lines alone: those of `falls`, where there are some
pub record Awaits (alts : List Alt) (walk : Walk) (falls left : ℕ) : Type 0 where
  pub timed : falls ≡ 0 → Timed alts walk left
  pub falling : falls ≢ 0 → IsFall alts falls

-- a machine that stood for samples on a walk, behind which these outputs were given, stands for
-- more samples, and these are given then
abbrev pub Strides : {L : Type 0} → (List ℕ → List Out) → (L → List ℕ → Type 0) → (L → List Alt)
    → L → L → Walk → Walk → List Out → List Out → List ℕ → Type 0
Strides outs stands alts old new walk_old walk_new given into more =
    (list all : List ℕ) → OnWalk outs stands (alts old) old walk_old list all given
    → OnWalk outs stands (alts new) new walk_new list (all ++ more) into

-- the same over the samples of some runs, but for what is left of the last
pub record StridesOver {L : Type 0} (outs : List ℕ → List Out) (stands : L → List ℕ → Type 0)
    (alts : L → List Alt) (old new : L) (walk_old walk_new : Walk) (into : List Out)
    (samples rest : List ℕ) : Type 0 where
  pub more : List ℕ
  pub split : samples ≡ more ++ rest
  pub strides : Strides outs stands alts old new walk_old walk_new [] into more

-- a walk goes on from the end of `before` to the end of `after`, which begins with it: the machine
-- stands there as it is, and gives nothing
pub record PassesOver {L : Type 0} (outs : List ℕ → List Out) (stands : L → List ℕ → Type 0)
    (alts : L → List Alt) (machine : L) (walk_old walk_new : Walk) (before after : List ℕ) : Type 0 where
  pub more : List ℕ
  pub split : after ≡ before ++ more
  pub strides : (given : List Out)
      → Strides outs stands alts machine machine walk_old walk_new given given more
