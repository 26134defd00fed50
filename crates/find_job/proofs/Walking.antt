-- The writing of the stops of runs on a walk, as it goes on.
use Rattle.std.proofs.Common.{◌≡◌, ℕ, ◌+◌, List, [], ◌∷◌, ◌++◌, Option, sym, subst, append_assoc}
use Rattle.std.specs.Io.KnownBytes.{Appends}
use Rattle.std.proofs.lemmas.List.{append-nil}
use Rattle.la_io.specs.Causes.{AppendsFront}
use Rattle.la_io.specs.Grown.{appends_nothing, appends_on}
use Rattle.la_io.proofs.Fronts.{front_on}
use Rattle.wait_cond.specs.Stops.{Stop, Chain, IsStop}
use Rattle.wait_cond.specs.Walks.{Walks, walk_from}
use Rattle.wait_cond.specs.declared.alt.Alt.{Alt}
use Rattle.wait_cond.specs.declared.walk.Walk.{Walk}
use Rattle.wait_cond.proofs.ChainLemmas.{chain_longer, chain_more}
use Rattle.listing_out.specs.StopLines.{line_of, lines_of}
use Rattle.find_job.specs.Stopping.{CutOff}
use Rattle.find_job.proofs.Fronts.{lines_more}

-- the walk stands for these samples, and the lines of their stops behind the first ones were appended
pub record Walking (alts : List Alt) (all : List ℕ) (stops : List Stop) (walk : Walk) (old now : Option (List ℕ)) : Type 0 where
  pub more : List Stop
  pub waits : Walks alts walk all
  pub chain : Chain all alts 0 (stops ++ more) (walk_from walk)
  pub written : Appends old now (lines_of more)

pub walking_starts : (alts : List Alt) (list : List ℕ) (stops : List Stop) (walk : Walk) (old : Option (List ℕ)) → Walks alts walk list → Chain list alts 0 stops (walk_from walk) → Walking alts (list ++ []) stops walk old old
walking_starts alts list stops walk old waits chain = record {
  more = [];
  waits = subst (λ (l : List ℕ). Walks alts walk l) (sym (append-nil list)) waits;
  chain = subst (λ (l : List ℕ). Chain l alts 0 (stops ++ []) (walk_from walk)) (sym (append-nil list)) (subst (λ (s : List Stop). Chain list alts 0 s (walk_from walk)) (sym (append-nil stops)) chain);
  written = appends_nothing old;
}

module _ (alts : List Alt) (all more : List ℕ) (stops : List Stop) (walk next : Walk) (old now : Option (List ℕ)) (walking : Walking alts all stops walk old now) where
  longer : Chain (all ++ more) alts 0 (stops ++ walking.more) (walk_from walk)
  longer = chain_longer all more alts 0 (walk_from walk) (stops ++ walking.more) walking.chain

  -- a run without a stop
  pub walking_passed : Walks alts next (all ++ more) → walk_from next ≡ walk_from walk → Walking alts (all ++ more) stops next old now
  walking_passed waits from = record {
    more = walking.more;
    waits = waits;
    chain = subst (λ (n : ℕ). Chain (all ++ more) alts 0 (stops ++ walking.more) n) (sym from) longer;
    written = walking.written;
  }

  module _ (at met : ℕ) (stop : IsStop (all ++ more) alts (walk_from walk) at met) where
    one_more : Chain (all ++ more) alts 0 (stops ++ (walking.more ++ (at, met) ∷ [])) (at + 1)
    one_more = subst (λ (l : List Stop). Chain (all ++ more) alts 0 l (at + 1)) (append_assoc stops walking.more ((at, met) ∷ [])) (chain_more (all ++ more) alts 0 (walk_from walk) (stops ++ walking.more) at met longer stop)

    -- a stop, whose line is written
    pub walking_stopped : (new : Option (List ℕ)) → Appends now new (line_of (at, met)) → Walks alts next (all ++ more) → walk_from next ≡ at + 1 → Walking alts (all ++ more) stops next old new
    walking_stopped new line waits from = record {
      more = walking.more ++ (at, met) ∷ [];
      waits = waits;
      chain = subst (λ (n : ℕ). Chain (all ++ more) alts 0 (stops ++ (walking.more ++ (at, met) ∷ [])) n) (sym from) one_more;
      written = appends_on old now new (lines_of walking.more) (line_of (at, met)) (lines_of (walking.more ++ (at, met) ∷ [])) walking.written line (sym (lines_more walking.more (at, met)));
    }

    -- a stop, of whose line a front is written
    pub walking_cut : (rest : List ℕ) (new : Option (List ℕ)) → AppendsFront now new (line_of (at, met)) → CutOff alts ((all ++ more) ++ rest) stops old new
    walking_cut rest new line = record {
      more = walking.more ++ (at, met) ∷ [];
      to = at + 1;
      chain = chain_longer (all ++ more) rest alts 0 (at + 1) (stops ++ (walking.more ++ (at, met) ∷ [])) one_more;
      written = subst (λ (l : List ℕ). AppendsFront old new l) (sym (lines_more walking.more (at, met))) (front_on old now new (lines_of walking.more) (line_of (at, met)) walking.written line);
    }
