-- How the stretches of packets go on with one more.
use Rattle.std.proofs.Common.{◌≡◌, Bool, true, false, cond, List, [], ◌∷◌, ◌++◌, refl, sym, ◌∙◌, ap}
use Rattle.std.proofs.Common.{append_assoc}
use Rattle.std.proofs.lemmas.List.{append-nil}
use Rattle.la_base.specs.declared.wires.Out.{Out}
use Rattle.la_base.specs.declared.wires.Packet.{Packet}
use Rattle.list_cuts.specs.Parts.{before_mark, parts, grow_last}
use Rattle.list_cuts.proofs.PartLaws.{before_mark_mark, parts_mark, parts_join}
use Rattle.packet_walks.specs.Transactions.{Device, from_first, last_stretch, closed_outs}
use Rattle.packet_walks.specs.Transactions.{ended_outs}

-- a stretch behind the others
pub last_new : (stretch : List Packet) (others : List (List Packet)) (more : List Packet)
    → last_stretch stretch (others ++ more ∷ []) ≡ more
last_new stretch [] more = refl
last_new stretch (next ∷ others) more = last_new next others more

module _ (y : Packet) where
  -- the first stretch with one more packet, where it is the last
  abbrev pub joined : List Packet → List (List Packet) → List Packet
  joined stretch [] = stretch ++ y ∷ []
  joined stretch (next ∷ others) = stretch

  -- what begins with one more, if nothing has begun
  abbrev pub grown_first : List Packet → Bool → List Packet
  grown_first [] begins = cond begins (y ∷ []) []
  grown_first (x ∷ xs) begins = x ∷ xs ++ y ∷ []

  pub last_joins : (stretch : List Packet) (others : List (List Packet))
      → last_stretch (joined stretch others) (grow_last others y)
      ≡ last_stretch stretch others ++ y ∷ []
  last_joins stretch [] = refl
  last_joins stretch (next ∷ []) = refl
  last_joins stretch (next ∷ third ∷ others) = last_joins next (third ∷ others)

  module _ (ends : Packet → Bool) (is : ends y ≡ false) where
    -- one more that ends nothing joins the last stretch
    before_joins : (xs : List Packet)
        → before_mark ends (xs ++ y ∷ []) ≡ joined (before_mark ends xs) (parts ends xs)
    before_joins [] = ap (λ (t : Bool). cond t [] (y ∷ [])) is
    before_joins (x ∷ xs) =
        ap (λ (l : List Packet). cond (ends x) [] (x ∷ l)) (before_joins xs)
        ∙ by (ends x) (parts ends xs)
      where
        by : (t : Bool) (ps : List (List Packet))
            → cond t [] (x ∷ joined (before_mark ends xs) ps)
            ≡ joined (cond t [] (x ∷ before_mark ends xs))
            (cond t ((x ∷ before_mark ends xs) ∷ ps) ps)
        by true ps = refl
        by false [] = refl
        by false (p ∷ ps) = refl

  -- from the first on that passes, with one more behind
  pub first_push : (test : Packet → Bool) (xs : List Packet)
      → from_first test (xs ++ y ∷ []) ≡ grown_first (from_first test xs) (test y)
  first_push test [] = by (test y)
    where
      by : (t : Bool) → cond t (y ∷ []) [] ≡ grown_first [] t
      by true = refl
      by false = refl
  first_push test (x ∷ xs) = by (test x) (first_push test xs)
    where
      by : (t : Bool) → from_first test (xs ++ y ∷ []) ≡ grown_first (from_first test xs) (test y)
          → cond t (x ∷ xs ++ y ∷ []) (from_first test (xs ++ y ∷ []))
          ≡ grown_first (cond t (x ∷ xs) (from_first test xs)) (test y)
      by true more = refl
      by false more = more

module _ (device : Device) where
  -- what the stretches give that have been ended, and the last one
  abbrev pub ended_of : List Packet → List Out
  ended_of packets = ended_outs device (before_mark device.ends packets) (parts device.ends packets)

  abbrev pub last_of : List Packet → List Packet
  last_of packets = last_stretch (before_mark device.ends packets) (parts device.ends packets)

  ended_new : (stretch : List Packet) (others : List (List Packet)) (more : List Packet)
      → ended_outs device stretch (others ++ more ∷ [])
      ≡ ended_outs device stretch others
      ++ closed_outs device (from_first device.begins (last_stretch stretch others))
  ended_new stretch [] more = append-nil (closed_outs device (from_first device.begins stretch))
  ended_new stretch (next ∷ others) more =
      let first = closed_outs device (from_first device.begins stretch) in
      ap (λ (l : List Out). first ++ l) (ended_new next others more)
      ∙ sym (append_assoc first (ended_outs device next others)
      (closed_outs device (from_first device.begins (last_stretch next others))))

  module _ (y : Packet) where
    ended_joins : (stretch : List Packet) (others : List (List Packet))
        → ended_outs device (joined y stretch others) (grow_last others y)
        ≡ ended_outs device stretch others
    ended_joins stretch [] = refl
    ended_joins stretch (next ∷ []) = refl
    ended_joins stretch (next ∷ third ∷ others) =
        ap (λ (l : List Out). closed_outs device (from_first device.begins stretch) ++ l)
        (ended_joins next (third ∷ others))

    module _ (xs : List Packet) where
      -- a packet that ends nothing joins the last stretch
      module _ (is : device.ends y ≡ false) where
        pub ended_stay : ended_of (xs ++ y ∷ []) ≡ ended_of xs
        ended_stay =
            (λ i. ended_outs device (before_joins y device.ends is xs i)
            (parts_join device.ends xs y is i))
            ∙ ended_joins (before_mark device.ends xs) (parts device.ends xs)

        pub last_grows : last_of (xs ++ y ∷ []) ≡ last_of xs ++ y ∷ []
        last_grows =
            (λ i. last_stretch (before_joins y device.ends is xs i)
            (parts_join device.ends xs y is i))
            ∙ last_joins y (before_mark device.ends xs) (parts device.ends xs)

      -- one that ends a transaction ends the last stretch and begins the next
      module _ (is : device.ends y ≡ true) where
        pub ended_grow : ended_of (xs ++ y ∷ [])
            ≡ ended_of xs ++ closed_outs device (from_first device.begins (last_of xs))
        ended_grow =
            (λ i. ended_outs device (before_mark_mark device.ends xs y is i)
            (parts_mark device.ends xs y is i))
            ∙ ended_new (before_mark device.ends xs) (parts device.ends xs) (y ∷ [])

        pub last_begins : last_of (xs ++ y ∷ []) ≡ y ∷ []
        last_begins =
            (λ i. last_stretch (before_mark_mark device.ends xs y is i)
            (parts_mark device.ends xs y is i))
            ∙ last_new (before_mark device.ends xs) (parts device.ends xs) (y ∷ [])
