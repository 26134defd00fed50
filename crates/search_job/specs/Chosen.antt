-- The condition and the pins that alternatives give.
use Rattle.std.specs.Prelude.{ℕ, ◌≡◌, List, [], map, Result, Ok, Err}
use Rattle.std.specs.String.{string_bytes}
use Rattle.la_base.specs.declared.samples.TheConstants.{MOST_PINS}
use Rattle.text_parts.specs.declared.chain.ChainWord.{ChainWord}
use Rattle.cond_words.specs.Binding.{Bound, IsBound, bind_terms}
use Rattle.wait_cond.specs.Conds.{cond_alts}
use Rattle.cond_words.specs.Grammar.{terms_of}
use Rattle.cond_words.specs.Words.{Meaning}
use Rattle.wait_cond.specs.declared.alt.Alt.{Alt}
use Rattle.cond_words.specs.declared.faults.BindError.{BindError}
use Rattle.cond_words.specs.declared.faults.BindError.TheVariants.{Fault, NoMemory}
use Rattle.run_asks.specs.Asking.{EachAsks, bind_all, in_entry, search_pins}
use Rattle.search_job.specs.declared.alternatives.Wanted.{Wanted}

-- these are the terms of the alternatives
abbrev pub AreTerms : List ChainWord → List (List Meaning) → Type 0
AreTerms chains alternatives =
    map (λ chain. terms_of (string_bytes chain.text)) chains ≡ map (λ terms. Ok terms) alternatives

-- what binding one alternative with its number means, behind these pins
abbrev pub ChoosesOne : List (List ℕ) → ℕ → List ℕ → List ℕ → List Meaning → Result Alt BindError
    → Type 0
ChoosesOne names entry old new terms (Ok alt) = IsBound MOST_PINS names old new terms alt
ChoosesOne names entry old new terms (Err (Fault fault)) =
    in_entry entry (bind_terms MOST_PINS names old terms) ≡ Err fault
ChoosesOne names entry old new terms (Err NoMemory) = Unit {0}

-- the alternatives are bound to these pins, and each asks its terms of them
pub record Chosen (names : List (List ℕ)) (alternatives : List (List Meaning)) (pins : List ℕ)
    (alts : List Alt) : Type 0 where
  pub bounds : List (List Bound)
  pub bound : bind_all names 0 [] alternatives ≡ Ok bounds
  pub pins_are : pins ≡ search_pins [] bounds
  pub asks : EachAsks [] bounds alts

-- what an answer means, where these are the alternatives
abbrev pub Chooses : List (List ℕ) → List (List Meaning) → Result Wanted BindError → Type 0
Chooses names alternatives (Ok wanted) =
    Chosen names alternatives wanted.pins.items (cond_alts wanted.cond)
Chooses names alternatives (Err (Fault fault)) = bind_all names 0 [] alternatives ≡ Err fault
Chooses names alternatives (Err NoMemory) = Unit {0}
