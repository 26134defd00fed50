-- The stack that reads a made capture can be bound.
use Rattle.std.proofs.Common.{◌≡◌, ◌≤◌, ℕ, List, [], ◌∷◌, map, Ok, refl, sym, ◌∙◌, ap}
use Rattle.std.proofs.Props.{props}
use Rattle.la_base.specs.declared.samples.Rate.{Rate}
use Rattle.la_base.specs.declared.samples.TheConstants.{MOST_PINS}
use Rattle.stack_spec.specs.Binding.{BoundInstance, bound_of}
use Rattle.stack_spec.specs.BindSteps.{IsBound}
use Rattle.stack_words.specs.Instances.{Instance}
use Rattle.stack_spec.specs.declared.bound.Bound.{Bound}
use Rattle.make_job.specs.Making.{bus_setup, line_setup, made_rate}
use Rattle.make_job.specs.MadeTrees.{IsMadeTree, made_instances, made_names}

-- what it is bound to
abbrev made_bounds : List BoundInstance
made_bounds = record { setup = bus_setup; uses = 0 ∷ 1 ∷ [] } ∷ record { setup = line_setup; uses = 2 ∷ [] } ∷ []

made_bound : bound_of MOST_PINS made_names made_rate made_instances ≡ Ok made_bounds
made_bound = refl

-- a million samples a second are one rate, however it is known to be above zero
pub one_made_rate : (p q : (1 ≤ 1000000) × (1 ≤ 1)) → ◌≡◌ {A = Rate} (record { num = 1000000; den = 1; above_zero = p }) (record { num = 1000000; den = 1; above_zero = q })
one_made_rate p q = let prop : IsProp ((1 ≤ 1000000) × (1 ≤ 1)) = hlevel props in λ i. record { num = 1000000; den = 1; above_zero = prop p q i }

module _ (names : List (List ℕ)) (rate : Rate) (instances : List Instance) (named : names ≡ made_names) (rated : rate ≡ made_rate) (are : instances ≡ made_instances) where
  bound : bound_of MOST_PINS names rate instances ≡ Ok made_bounds
  bound = (λ i. bound_of MOST_PINS (named i) (rated i) (are i)) ∙ made_bound

  pub the_tree : (its : Bound) → IsBound MOST_PINS names rate instances its → IsMadeTree its
  the_tree its is = record {
    setups = is.setups ∙ ap (map (λ (b : BoundInstance). b.setup)) read;
    parents = is.parents ∙ ap (map (λ (instance : Instance). instance.parent)) are;
    consumed = is.consumed;
  } where
    read : is.read ≡ made_bounds
    read = let both = sym is.reads ∙ bound in cc
