-- What is asked of the decoders of a part, and of the checkpoint that it goes on behind.
use Rattle.std.specs.Prelude.{ℕ, ◌≡◌, ◌≤◌, ◌<◌, ◌^◌, ◌⊎◌, List, [], length, map, get_or, slice_get}
use Rattle.std.specs.Prelude.{Option, Some, None, Ok}
use Rattle.check_point.specs.Checks.{IsWord}
use Rattle.check_point.specs.Loading.{Reads}
use Rattle.check_point.specs.declared.faults.CheckFault.{CheckFault}
use Rattle.check_point.specs.declared.faults.CheckWhy.{CheckWhy}
use Rattle.check_point.specs.declared.faults.CheckWhy.TheVariants.{Many, Form, Fit}
use Rattle.decoder_set.specs.Opening.{HasConsumed, setup_of}
use Rattle.decoder_set.specs.declared.any.AnyDecoder.{AnyDecoder}
use Rattle.kind_table.specs.Kinds.{place_of}
use Rattle.decoder_set.specs.declared.setup.Setup.{Setup}

-- which bytes a decoder saves
abbrev pub Saves : Type 1
Saves = AnyDecoder → List ℕ → Type 0

-- the places of the kinds of decoders
abbrev pub places_of : List Setup → List ℕ
places_of setups = map (λ setup. place_of setup.kind) setups

-- the most samples that parts may have together
abbrev pub most_samples : ℕ
most_samples = 2 ^ 59

module _ (saves : Saves) (setups : List Setup) where
  -- some decoder of this setup saves these bytes
  abbrev pub CanSave : Setup → List ℕ → Type 0
  CanSave setup bytes = (decoder : AnyDecoder) × (setup_of decoder ≡ setup) × saves decoder bytes

  -- each of the first n setups has a decoder that saves its bytes
  abbrev pub AreSaved : List (List ℕ) → ℕ → Type 0
  AreSaved all n = (j : ℕ) (setup : Setup) → j < n → slice_get setups j ≡ Some setup
      → CanSave setup (get_or all j [])

  -- a word is that of a checkpoint of decoders of these setups, behind so many samples
  abbrev pub IsTaken : List ℕ → ℕ → Type 0
  IsTaken word samples = (all : List (List ℕ)) × IsWord word samples (places_of setups) all
      × AreSaved all (length setups)

  -- a word is refused: it isn't that of a checkpoint of their kinds; or it is, and this is the
  -- first setup of which no decoder saves its bytes
  abbrev pub IsRefused : List ℕ → ℕ → CheckWhy → Type 0
  IsRefused word instance Many = ⊥
  IsRefused word instance Form = (instance ≡ 0)
      × ((samples : ℕ) (all : List (List ℕ)) → ¬ IsWord word samples (places_of setups) all)
  IsRefused word instance Fit =
      (samples : ℕ) × (all : List (List ℕ)) × IsWord word samples (places_of setups) all
      × AreSaved all instance × (setup : Setup) × (slice_get setups instance ≡ Some setup)
      × ¬ CanSave setup (get_or all instance [])

  -- a part of these decoders goes on behind so many samples: behind none where no word is given
  abbrev pub BeginsBehind : Option (List ℕ) → ℕ → Type 0
  BeginsBehind None samples = samples ≡ 0
  BeginsBehind (Some word) samples = IsTaken word samples

  -- the word that is given is refused
  abbrev pub FromRefused : Option (List ℕ) → CheckFault → Type 0
  FromRefused None fault = ⊥
  FromRefused (Some word) fault = IsRefused word fault.instance fault.why

  -- a part can begin, behind so many samples
  abbrev pub CanBegin : Option (List ℕ) → ℕ → Type 0
  CanBegin from samples = (length setups ≤ 8) × BeginsBehind from samples

  -- a part can't begin: it has more decoders than a checkpoint can have, or its word is refused
  abbrev pub CantBegin : Option (List ℕ) → CheckFault → Type 0
  CantBegin from fault =
      ((8 < length setups) × (fault ≡ record { instance = 8; why = Many }))
      ⊎ ((length setups ≤ 8) × FromRefused from fault)

-- decoders went on from these, behind so many samples: they are the same, and nothing came before,
-- where no word is given; else they were loaded from the word
abbrev pub Begun : Saves → List AnyDecoder → List AnyDecoder → Option (List ℕ) → ℕ → Type 0
Begun saves old new None samples = (new ≡ old) × (samples ≡ 0)
Begun saves old new (Some word) samples =
    Reads setup_of HasConsumed saves word (places_of (map setup_of old)) old new (Ok samples)
