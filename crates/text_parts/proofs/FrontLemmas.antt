-- Values up to the first fault, of parts and of more parts.
use Rattle.std.proofs.lemmas.List.{append-nil}
use Rattle.std.proofs.Common.{append_assoc, ◌≡◌, List, [], ◌∷◌, ◌++◌, refl, sym, ◌∙◌, Option, Some, None, Result, Ok, Err}
use Rattle.text_parts.specs.Reading.{after_one, read_front}

module _ {P V F : Type 0} (judge : List V → P → Result V F) where
  abbrev Fronts : List V → List P → List V × Option F
  Fronts before parts = read_front judge before parts

  -- a fault stays
  pub front_some : (before : List V) (parts more : List P) (fault : F) → (read_front judge before parts).1 ≡ Some fault → read_front judge before (parts ++ more) ≡ read_front judge before parts
  front_some before [] more fault is = cc
  front_some before (part ∷ parts) more fault is = by_judge (judge before part) (λ v e. front_some (before ++ v ∷ []) parts more fault e) is where
    by_judge : (r : Result V F) → ((v : V) → (Fronts (before ++ v ∷ []) parts).1 ≡ Some fault → Fronts (before ++ v ∷ []) (parts ++ more) ≡ Fronts (before ++ v ∷ []) parts)
        → (after_one Fronts before parts r).1 ≡ Some fault → after_one Fronts before (parts ++ more) r ≡ after_one Fronts before parts r
    by_judge (Ok v) next e = next v e
    by_judge (Err f) next e = refl

  -- where there is none, more parts go on
  pub front_none : (before : List V) (parts more : List P) → (read_front judge before parts).1 ≡ None → read_front judge before (parts ++ more) ≡ read_front judge (read_front judge before parts).0 more
  front_none before [] more is = refl
  front_none before (part ∷ parts) more is = by_judge (judge before part) (λ v e. front_none (before ++ v ∷ []) parts more e) is where
    by_judge : (r : Result V F) → ((v : V) → (Fronts (before ++ v ∷ []) parts).1 ≡ None → Fronts (before ++ v ∷ []) (parts ++ more) ≡ Fronts (Fronts (before ++ v ∷ []) parts).0 more)
        → (after_one Fronts before parts r).1 ≡ None → after_one Fronts before (parts ++ more) r ≡ Fronts (after_one Fronts before parts r).0 more
    by_judge (Ok v) next e = next v e
    by_judge (Err f) next e = cc

  -- the values before stay
  pub front_keeps : (before : List V) (parts : List P) → (rest : List V) × ((read_front judge before parts).0 ≡ before ++ rest)
  front_keeps before [] = ([], sym (append-nil before))
  front_keeps before (part ∷ parts) = by_judge (judge before part) (λ v. front_keeps (before ++ v ∷ []) parts) where
    by_judge : (r : Result V F) → ((v : V) → (rest : List V) × ((Fronts (before ++ v ∷ []) parts).0 ≡ (before ++ v ∷ []) ++ rest)) → (rest : List V) × ((after_one Fronts before parts r).0 ≡ before ++ rest)
    by_judge (Ok v) next = (v ∷ (next v).0, (next v).1 ∙ append_assoc before (v ∷ []) (next v).0)
    by_judge (Err f) next = ([], sym (append-nil before))
