-- Stops that are gathered sample by sample.
use Rattle.std.proofs.Common.{◌≡◌, ◌≢◌, inl, inr, ℕ, ◌+◌, ◌<◌, ◌≤◌, List, [], ◌∷◌, ◌++◌, length, sym, subst, arith}
use Rattle.std.proofs.lemmas.Bool.{cases_eq}
use Rattle.wait_cond.specs.declared.alt.Alt.{Alt}
use Rattle.wait_cond.specs.Stops.{MetIn, NoneMet, Stop, Chain}
use Rattle.wait_cond.proofs.ChainLemmas.{chain_more}

-- these are the stops before place `at`, and the wait behind them begins at `from`
pub record Gathered (samples : List ℕ) (alts : List Alt) (stops : List Stop) (from at : ℕ) : Type 0 where
  pub early : from ≤ at
  pub chain : Chain samples alts 0 stops from
  pub none : NoneMet samples alts from at

module _ (samples : List ℕ) (alts : List Alt) (stops : List Stop) (from at met : ℕ) (so_far : Gathered samples alts stops from at) (set : MetIn samples alts from at met) where
  -- one more sample, that meets none
  pub gathered_none : met ≡ 0 → Gathered samples alts stops from (at + 1)
  gathered_none is = record {
    early = omega (arith, so_far.early);
    chain = so_far.chain;
    none = λ q after below.
        elim (cases_eq q at) [
          | inl here ↦ subst (λ (n : ℕ). MetIn samples alts from n 0) (sym here) (subst (λ (m : ℕ). MetIn samples alts from at m) is set)
          | inr other ↦ so_far.none q after (omega (arith, below, other))
        ];
  }

  -- one more sample, that is a stop
  pub gathered_stop : at < length samples → met ≢ 0 → Gathered samples alts (stops ++ (at, met) ∷ []) (at + 1) (at + 1)
  gathered_stop within some = record {
    early = omega arith;
    chain = chain_more samples alts 0 from stops at met so_far.chain (record { after = so_far.early; within = within; set = set; some = some; first = so_far.none });
    none = λ q after below. absurd (omega (arith, after, below));
  }
