-- A part begins behind one number of samples, or has one refusal, and not both.
use Rattle.std.proofs.Common.{◌≡◌, ℕ, zero, suc, ◌<◌, inl, inr, List, [], ◌∷◌, length, get_or, Option, Some, None, refl, sym, ◌∙◌, subst, arith}
use Rattle.std.specs.Prelude.{slice_get}
use Rattle.check_point.specs.declared.faults.CheckFault.{CheckFault}
use Rattle.check_point.specs.declared.faults.CheckWhy.{CheckWhy}
use Rattle.check_point.specs.declared.faults.CheckWhy.TheVariants.{Many, Form, Fit}
use Rattle.check_point.specs.laws.EntryLaws.{one_word}
use Rattle.decoder_set.specs.Opening.{setup_of}
use Rattle.decoder_set.specs.declared.any.AnyDecoder.{AnyDecoder}
use Rattle.decoder_set.specs.declared.setup.Setup.{Setup}
use Rattle.run_asks.specs.Parting.{CanBegin, CantBegin, IsRefused, IsTaken, Saves, places_of}

module _ (saves : Saves) (setups : List Setup) where
  in_range : (list : List Setup) (j : ℕ) (setup : Setup) → slice_get list j ≡ Some setup → j < length list
  in_range [] j setup at = absurd cc
  in_range (s ∷ list) zero setup at = omega (arith)
  in_range (s ∷ list) (suc j) setup at = omega (arith, in_range list j setup at)

  taken_or_refused : (word : List ℕ) (samples : ℕ) → IsTaken saves setups word samples → (instance : ℕ) (why : CheckWhy) → IsRefused saves setups word instance why → ⊥
  taken_or_refused word samples taken instance Many refused = refused
  taken_or_refused word samples taken instance Form refused = refused.1 samples taken.0 taken.1
  taken_or_refused word samples (all, is, saved) instance Fit (number, others, is_too, before, setup, at, none) =
      let same = one_word word (places_of setups) number samples others all is_too is in
      none (subst (λ (l : List (List ℕ)). (decoder : AnyDecoder) × (setup_of decoder ≡ setup) × saves decoder (get_or l instance [])) (sym same.1) (saved instance setup (in_range setups instance setup at) at))

  pub can_or_cant : (from : Option (List ℕ)) (samples : ℕ) (fault : CheckFault) → CanBegin saves setups from samples → CantBegin saves setups from fault → ⊥
  can_or_cant from samples fault can (inl many) = let few = can.0 in let more = many.0 in omega (arith, few, more)
  can_or_cant None samples fault can (inr refused) = refused.1
  can_or_cant (Some word) samples fault can (inr refused) = taken_or_refused word samples can.1 fault.instance fault.why refused.1

  pub one_beginning : (from : Option (List ℕ)) (one other : ℕ) → CanBegin saves setups from one → CanBegin saves setups from other → one ≡ other
  one_beginning None one other a b = a.1 ∙ sym b.1
  one_beginning (Some word) one other a b = (one_word word (places_of setups) one other a.1.0 b.1.0 a.1.1 b.1.1).0

  -- of two refusals of one word by what it saves, neither comes before the other
  not_before : (word : List ℕ) (one other : ℕ) → IsRefused saves setups word one Fit → IsRefused saves setups word other Fit → one < other → ⊥
  not_before word one other (samples, all, is, before, setup, at, none) (number, others, is_too, before_too, setup_too, at_too, none_too) less =
      let same = one_word word (places_of setups) number samples others all is_too is in
      none (subst (λ (l : List (List ℕ)). (decoder : AnyDecoder) × (setup_of decoder ≡ setup) × saves decoder (get_or l one [])) same.1 (before_too one setup less at))

  same_fault : (one other : CheckFault) → one.instance ≡ other.instance → one.why ≡ other.why → one ≡ other
  same_fault one other instances whys = λ i. record { instance = instances i; why = whys i }

  one_refusal_of : (word : List ℕ) (one other : CheckFault) → IsRefused saves setups word one.instance one.why → IsRefused saves setups word other.instance other.why → one ≡ other
  one_refusal_of word one other a b = by one.instance one.why other.instance other.why refl refl refl refl a b
    where
      by : (i : ℕ) (w : CheckWhy) (j : ℕ) (v : CheckWhy) → one.instance ≡ i → one.why ≡ w → other.instance ≡ j → other.why ≡ v → IsRefused saves setups word i w → IsRefused saves setups word j v → one ≡ other
      by i Many j v oi ow ji jv a b = absurd a
      by i w j Many oi ow ji jv a b = absurd b
      by i Form j Form oi ow ji jv a b = same_fault one other (oi ∙ a.0 ∙ sym b.0 ∙ sym ji) (ow ∙ sym jv)
      by i Form j Fit oi ow ji jv a b = absurd (a.1 b.0 b.1 b.2)
      by i Fit j Form oi ow ji jv a b = absurd (b.1 a.0 a.1 a.2)
      by i Fit j Fit oi ow ji jv a b =
          let same : i ≡ j = omega (arith, not_before word i j a b, not_before word j i b a) in
          same_fault one other (oi ∙ same ∙ sym ji) (ow ∙ sym jv)

  pub one_cant : (from : Option (List ℕ)) (one other : CheckFault) → CantBegin saves setups from one → CantBegin saves setups from other → one ≡ other
  one_cant from one other (inl a) (inl b) = a.1 ∙ sym b.1
  one_cant from one other (inl a) (inr b) = absurd (let few = b.0 in let more = a.0 in omega (arith, few, more))
  one_cant from one other (inr a) (inl b) = absurd (let few = a.0 in let more = b.0 in omega (arith, few, more))
  one_cant None one other (inr a) (inr b) = absurd a.1
  one_cant (Some word) one other (inr a) (inr b) = one_refusal_of word one other a.1 b.1
