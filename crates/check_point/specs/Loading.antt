-- What loading does to machines, place by place.
use Rattle.std.specs.Prelude.{ℕ, ◌≡◌, ◌≤◌, ◌<◌, List, [], length, get_or, Result, Ok, Err}
use Rattle.check_point.specs.Checks.{IsWord}
use Rattle.check_point.specs.declared.faults.CheckFault.{CheckFault}
use Rattle.check_point.specs.declared.faults.CheckWhy.{CheckWhy}
use Rattle.check_point.specs.declared.faults.CheckWhy.TheVariants.{Many, Form, Fit}
use Rattle.decoder_core.specs.Keeping.{StandsAs}

module _ {M S I : Type 0} (setup : M → S) (consumed : M → I → Type 0)
    (saves : M → List ℕ → Type 0) where
  -- a machine was loaded from bytes
  pub record IsLoaded (old new : M) (bytes : List ℕ) : Type 0 where
    pub same : setup new ≡ setup old
    pub its : saves new bytes
    pub stands : StandsAs setup consumed saves new bytes

  -- the first n machines were loaded, and the others are as before
  pub record LoadedTo (old new : List M) (all : List (List ℕ)) (n : ℕ) : Type 0 where
    pub count : length new ≡ length old
    pub loaded : (j : ℕ) (d : M) → j < n
        → IsLoaded (get_or old j d) (get_or new j d) (get_or all j [])
    pub others : (j : ℕ) (d : M) → n ≤ j → get_or new j d ≡ get_or old j d

  -- no machine of the setup of this one saves these bytes
  abbrev pub NoneSaves : M → List ℕ → Type 0
  NoneSaves machine bytes = (other : M) → setup other ≡ setup machine → ¬ saves other bytes

  -- the answer to a word: it was one, and all machines are loaded; it wasn't, and none has changed;
  -- or it was, and this machine is the first that refuses its bytes
  abbrev pub RefusedAs : List ℕ → List ℕ → List M → List M → ℕ → CheckWhy → Type 0
  RefusedAs word kinds old new instance Many = ⊥
  RefusedAs word kinds old new instance Form = (instance ≡ 0) × (new ≡ old)
      × ((samples : ℕ) (all : List (List ℕ)) → ¬ IsWord word samples kinds all)
  RefusedAs word kinds old new instance Fit =
      (samples : ℕ) × (all : List (List ℕ)) × IsWord word samples kinds all
      × (instance < length kinds) × LoadedTo old new all instance
      × ((d : M) → NoneSaves (get_or old instance d) (get_or all instance []))

  abbrev pub Reads : List ℕ → List ℕ → List M → List M → Result ℕ CheckFault → Type 0
  Reads word kinds old new (Ok samples) = (all : List (List ℕ)) × IsWord word samples kinds all
      × LoadedTo old new all (length kinds)
  Reads word kinds old new (Err fault) = RefusedAs word kinds old new fault.instance fault.why
