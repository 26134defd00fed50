-- How a part begins: what reading a checkpoint says of the setups of its decoders, and that it says one thing alone.
use Rattle.std.proofs.Common.{◌≡◌, ℕ, zero, suc, ◌<◌, ◌≤◌, inr, List, [], ◌∷◌, ◌++◌, length, map, take, get_or, Option, Some, None, Result, Ok, Err, refl, sym, ◌∙◌, ap, subst, arith}
use Rattle.std.specs.Prelude.{IfErr, IfOk, option_map, slice_get}
use Rattle.std.proofs.lemmas.List.{length-map}
use Rattle.check_point.specs.Checks.{AllSave, IsWord}
use Rattle.check_point.specs.Loading.{LoadedTo, Reads, RefusedAs}
use Rattle.check_point.specs.declared.faults.CheckFault.{CheckFault}
use Rattle.check_point.specs.declared.faults.CheckWhy.{CheckWhy}
use Rattle.check_point.specs.declared.faults.CheckWhy.TheVariants.{Many, Form, Fit}
use Rattle.check_point.specs.laws.EntryLaws.{one_word}
use Rattle.decoder_set.specs.Opening.{HasConsumed, setup_of}
use Rattle.decoder_set.specs.declared.any.AnyDecoder.{AnyDecoder}
use Rattle.kind_table.specs.declared.kinds.Kind.{Kind}
use Rattle.decoder_set.specs.declared.setup.Setup.{Setup}
use Rattle.stack_words.specs.Instances.{Instance}
use Rattle.std.proofs.Math.Path.{transport}
use Rattle.check_laws.proofs.Resumes.{loaded_setups, loaded_stand}
use Rattle.check_laws.specs.Resuming.{IsCheckBehind}
use Rattle.decoder_set.specs.Setups.{outs_of}
use Rattle.tree_runs.specs.Machines.{Stand}
use Rattle.tree_runs.specs.Runs.{StandOn, nodes_of}
use Rattle.kind_table.specs.Kinds.{place_of}
use Rattle.run_asks.specs.Parting.{AreSaved, Begun, CanBegin, CantBegin, IsRefused, Saves, most_samples, places_of}
use Rattle.ldecode.specs.Parts.{CameBefore, parents_on, setups_on}

-- the decoder at a place has the setup at that place
setup_at : (machines : List AnyDecoder) (j : ℕ) (setup : Setup) → slice_get (map setup_of machines) j ≡ Some setup → (decoder : AnyDecoder) × (setup_of decoder ≡ setup) × ((d : AnyDecoder) → get_or machines j d ≡ decoder)
setup_at [] j setup at = absurd cc
setup_at (m ∷ machines) zero setup at = (m, cc, λ d. refl)
setup_at (m ∷ machines) (suc j) setup at = setup_at machines j setup at

some_setup : (machines : List AnyDecoder) (j : ℕ) → j < length machines → (decoder : AnyDecoder) × (slice_get (map setup_of machines) j ≡ Some (setup_of decoder)) × ((d : AnyDecoder) → get_or machines j d ≡ decoder)
some_setup [] j less = absurd (omega (arith, less))
some_setup (m ∷ machines) zero less = (m, refl, λ d. refl)
some_setup (m ∷ machines) (suc j) less = some_setup machines j (omega (arith, less))

-- the places of one more instance's kind
pub places_more : (instances : List Instance) (i : ℕ) (kind : Kind) → i < length instances → option_map (λ (instance : Instance). instance.kind) (slice_get instances i) ≡ Some kind
    → map (λ (instance : Instance). place_of instance.kind) (take (suc i) instances) ≡ map (λ (instance : Instance). place_of instance.kind) (take i instances) ++ place_of kind ∷ []
places_more [] i kind within at = absurd (omega (arith, within))
places_more (x ∷ instances) zero kind within at = let same : x.kind ≡ kind = cc in ap (λ (k : Kind). place_of k ∷ []) same
places_more (x ∷ instances) (suc i) kind within at = ap (λ (l : List ℕ). place_of x.kind ∷ l) (places_more instances i kind (omega (arith, within)) at)

-- the places of their kinds are those of the stack's instances
module _ (machines : List AnyDecoder) (instances : List Instance) (kinds : map (λ (decoder : AnyDecoder). (setup_of decoder).kind) machines ≡ map (λ (instance : Instance). instance.kind) instances) where
  places_at : (list : List AnyDecoder) → places_of (map setup_of list) ≡ map place_of (map (λ (decoder : AnyDecoder). (setup_of decoder).kind) list)
  places_at [] = refl
  places_at (d ∷ list) = ap (λ (l : List ℕ). place_of (setup_of d).kind ∷ l) (places_at list)

  places_in : (list : List Instance) → map place_of (map (λ (instance : Instance). instance.kind) list) ≡ map (λ (instance : Instance). place_of instance.kind) list
  places_in [] = refl
  places_in (i ∷ list) = ap (λ (l : List ℕ). place_of i.kind ∷ l) (places_in list)

  pub places_same : places_of (map setup_of machines) ≡ map (λ (instance : Instance). place_of instance.kind) instances
  places_same = places_at machines ∙ ap (map place_of) kinds ∙ places_in instances

  pub as_many_setups : length (map setup_of machines) ≡ length instances
  as_many_setups = length-map machines setup_of ∙ sym (length-map machines (λ (decoder : AnyDecoder). (setup_of decoder).kind)) ∙ ap length kinds ∙ length-map instances (λ (instance : Instance). instance.kind)

module _ (saves : Saves) (old new : List AnyDecoder) (word kinds : List ℕ) (are : kinds ≡ places_of (map setup_of old)) (few : length (map setup_of old) ≤ 8) where
  -- those that were loaded save their bytes
  loaded_save : (all : List (List ℕ)) (n : ℕ) → LoadedTo setup_of HasConsumed saves old new all n → AreSaved saves (map setup_of old) all n
  loaded_save all n loaded = λ j setup less at.
      let found = setup_at old j setup at in
      let one = loaded.loaded j found.0 less in
      (get_or new j found.0, one.same ∙ ap setup_of (found.2 found.0) ∙ found.1, one.its)

  as_many : length kinds ≡ length old
  as_many = ap length are ∙ length-map (map setup_of old) (λ (setup : Setup). place_of setup.kind) ∙ length-map old setup_of

  at_places : (samples : ℕ) (all : List (List ℕ)) → IsWord word samples kinds all → IsWord word samples (places_of (map setup_of old)) all
  at_places samples all is = subst (λ (l : List ℕ). IsWord word samples l all) are is

  read_begun : (result : Result ℕ CheckFault) → Reads setup_of HasConsumed saves word kinds old new result → IfOk result (Begun saves old new (Some word))
  read_begun (Ok samples) reads = subst (λ (l : List ℕ). Reads setup_of HasConsumed saves word l old new (Ok samples)) are reads
  read_begun (Err fault) reads = tt

  read_begins : (result : Result ℕ CheckFault) → Reads setup_of HasConsumed saves word kinds old new result → IfOk result (CanBegin saves (map setup_of old) (Some word))
  read_begins (Ok samples) reads = (few, (reads.0, at_places samples reads.0 reads.1, subst (AreSaved saves (map setup_of old) reads.0) (as_many ∙ sym (length-map old setup_of)) (loaded_save reads.0 (length kinds) reads.2)))
  read_begins (Err fault) reads = tt

  refusal : (instance : ℕ) (why : CheckWhy) → RefusedAs setup_of HasConsumed saves word kinds old new instance why → IsRefused saves (map setup_of old) word instance why
  refusal instance Many refused = refused
  refusal instance Form refused = (refused.0, λ samples all is. refused.2 samples all (subst (λ (l : List ℕ). IsWord word samples l all) (sym are) is))
  refusal instance Fit (samples, all, is, less, loaded, none) =
      let found = some_setup old instance (omega (arith, less, as_many)) in
      (samples, all, at_places samples all is, loaded_save all instance loaded, setup_of found.0, found.1, λ can. none found.0 can.0 (can.1 ∙ sym (ap setup_of (found.2 found.0))) can.2)

  read_refuses : (result : Result ℕ CheckFault) → Reads setup_of HasConsumed saves word kinds old new result → IfErr result (CantBegin saves (map setup_of old) (Some word))
  read_refuses (Ok samples) reads = tt
  read_refuses (Err fault) reads = inr (few, refusal fault.instance fault.why reads)

  -- where this is the word that is asked for
  module _ (asked : Option (List ℕ)) (same : asked ≡ Some word) (result : Result ℕ CheckFault) (reads : Reads setup_of HasConsumed saves word kinds old new result) where
    pub asked_begun : IfOk result (Begun saves old new asked)
    asked_begun = subst (λ (a : Option (List ℕ)). IfOk result (Begun saves old new a)) (sym same) (read_begun result reads)

    pub asked_begins : IfOk result (CanBegin saves (map setup_of old) asked)
    asked_begins = subst (λ (a : Option (List ℕ)). IfOk result (CanBegin saves (map setup_of old) a)) (sym same) (read_begins result reads)

    pub asked_refuses : IfErr result (CantBegin saves (map setup_of old) asked)
    asked_refuses = subst (λ (a : Option (List ℕ)). IfErr result (CantBegin saves (map setup_of old) a)) (sym same) (read_refuses result reads)

-- a tree has the setups and the parents that it was made of
pub setups_of_nodes : (setups : List Setup) (parents : List (Option ℕ)) → length setups ≡ length parents → setups_on (nodes_of setups parents) ≡ setups
setups_of_nodes [] parents count = refl
setups_of_nodes (s ∷ setups) [] count = absurd (omega (arith, count))
setups_of_nodes (s ∷ setups) (p ∷ parents) count = ap (λ (l : List Setup). s ∷ l) (setups_of_nodes setups parents (omega (arith, count)))

pub parents_of_nodes : (setups : List Setup) (parents : List (Option ℕ)) → length setups ≡ length parents → parents_on (nodes_of setups parents) ≡ parents
parents_of_nodes [] [] count = refl
parents_of_nodes [] (p ∷ parents) count = absurd (omega (arith, count))
parents_of_nodes (s ∷ setups) [] count = absurd (omega (arith, count))
parents_of_nodes (s ∷ setups) (p ∷ parents) count = ap (λ (l : List (Option ℕ)). p ∷ l) (parents_of_nodes setups parents (omega (arith, count)))

-- decoders that went on have the setups that they had, and stand on what came before
module _ (saves : Saves) (old new : List AnyDecoder) (parents : List (Option ℕ)) (each : length old ≡ length parents) where
  abbrev kinds_of : List ℕ
  kinds_of = places_of (map setup_of old)

  as_many_kinds : length kinds_of ≡ length old
  as_many_kinds = length-map (map setup_of old) (λ (setup : Setup). place_of setup.kind) ∙ length-map old setup_of

  pub begun_setups : (from : Option (List ℕ)) (count : ℕ) → Begun saves old new from count → map setup_of new ≡ map setup_of old
  begun_setups None count begun = ap (map setup_of) begun.0
  begun_setups (Some word) count begun = loaded_setups setup_of outs_of HasConsumed saves kinds_of parents old new as_many_kinds each begun.0 begun.2

  pub begun_few : (from : Option (List ℕ)) (count : ℕ) → Begun saves old new from count → count ≤ most_samples
  begun_few None count begun = let none = begun.1 in omega (arith, none)
  begun_few (Some word) count begun = begun.1.2.few

  module _ (fresh : StandOn outs_of (map setup_of old) parents (Stand HasConsumed old) []) (earlier : List ℕ) where
    abbrev StandsNow : ℕ → Type 0
    StandsNow count = (length earlier ≡ count) × StandOn outs_of (map setup_of new) parents (Stand HasConsumed new) earlier

    pub begun_behind : (from : Option (List ℕ)) (count : ℕ) → Begun saves old new from count → CameBefore saves (nodes_of (map setup_of old) parents) from earlier → StandsNow count
    begun_behind None count begun none =
        (ap length none ∙ sym begun.1, subst (λ (l : List ℕ). StandOn outs_of (map setup_of new) parents (Stand HasConsumed new) l) (sym none) (subst (λ (l : List AnyDecoder). StandOn outs_of (map setup_of l) parents (Stand HasConsumed l) []) (sym begun.0) fresh))
    begun_behind (Some word) count begun came =
        let b = check_on came in
        let one = one_word word kinds_of count (length earlier) begun.0 b.on.check.all begun.1 (b.bytes, b.word_is, b.on.check.check) in
        let stands = loaded_stand setup_of outs_of HasConsumed saves kinds_of parents old new as_many_kinds each begun.0 begun.2 b.on.machines
        (subst (λ (l : List (List ℕ)). AllSave saves b.on.machines l) (sym one.1) b.on.check.save) b.on.setups_are earlier b.on.stand in
        (sym one.0, subst (λ (l : List Setup). StandOn outs_of l parents (Stand HasConsumed new) earlier) (sym (begun_setups (Some word) count begun)) stands)
      where
        count_is : length (map setup_of old) ≡ length parents
        count_is = length-map old setup_of ∙ each

        check_on : CameBefore saves (nodes_of (map setup_of old) parents) (Some word) earlier → IsCheckBehind setup_of outs_of HasConsumed saves kinds_of parents (map setup_of old) word earlier
        check_on = transport (λ i. IsCheckBehind setup_of outs_of HasConsumed saves (places_of (setups_of_nodes (map setup_of old) parents count_is i)) (parents_of_nodes (map setup_of old) parents count_is i) (setups_of_nodes (map setup_of old) parents count_is i) word earlier)
