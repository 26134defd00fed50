-- One more packet, to a device on an I2C bus.
use Rattle.std.proofs.Common.{◌≡◌, ◌⊎◌, inl, inr, ℕ, ◌≤◌, ◌==◌, ◌&&◌, Bool, true, false}
use Rattle.std.proofs.Common.{if◌then◌else◌, cond, List, [], ◌∷◌, ◌++◌, length, map, Option, Some}
use Rattle.std.proofs.Common.{None, refl, sym, ◌∙◌, ap, subst, append_assoc, arith, length-append}
use Rattle.std.specs.List.{flat_map}
use Rattle.std.proofs.lemmas.List.{append-nil, map-append}
use Rattle.std.proofs.lemmas.List.Elements.{filter-append}
use Rattle.std.proofs.lemmas.Grind.{flat_map-append}
use Rattle.la_base.specs.declared.wires.Out.{Out}
use Rattle.la_base.specs.declared.wires.Packet.{Packet}
use Rattle.la_base.specs.declared.wires.PacketKind.{PacketKind}
use Rattle.la_base.specs.declared.wires.Wire.{Wire}
use Rattle.decoder_core.specs.Promises.{KeepsFront, AddsFew, PacketsOn}
use Rattle.decoder_core.specs.laws.OutLaws.{PacketsOn-append}
use Rattle.list_cuts.specs.Along.{along, along_from}
use Rattle.list_cuts.proofs.AlongLaws.{along_push}
use Rattle.list_cuts.specs.Parts.{parts, grow_last}
use Rattle.list_cuts.proofs.PartLaws.{parts_mark, parts_join, grow_last_at}
use Rattle.i2c_phases.specs.Devices.{Adds, ByByte, Each}
use Rattle.i2c_phases.specs.Phases.{is_start, is_address, is_ack, is_data, is_mark, phase_in}
use Rattle.i2c_phases.specs.Phases.{Behind, first_of, when_acked, with_ack, acknowledged, data_in}
use Rattle.i2c_phases.specs.Phases.{is_reset, Meaning, Nothing, Writes, Reads, Reset, meaning}
use Rattle.i2c_phases.specs.Phases.{meaning_by, meanings}

pub adds_none : (P : List Out → Type 0) → P [] → (old now : List Out) → now ≡ old → Adds P old now
adds_none P none old now same = ([], same ∙ sym (append-nil old), none)

abbrev more : Behind → Packet → Behind
more b p = record { packet = b.packet; others = b.others ++ p ∷ [] }

abbrev FirstCase : Option Behind → Option Behind → Bool → Packet → Type 0
FirstCase old now test p =
    ((b : Behind) × (old ≡ Some b) × (now ≡ Some (more b p)))
    ⊎ ((old ≡ None) × (now ≡ (if test then Some (record { packet = p; others = [] }) else None)))

first_cases : (test : PacketKind → Bool) (xs : List Packet) (p : Packet)
    → FirstCase (first_of test xs) (first_of test (xs ++ p ∷ [])) (test p.kind) p
first_cases test [] p = inr (refl, refl)
first_cases test (x ∷ xs) p = by (test x.kind) (first_cases test xs p)
  where
    by : (t : Bool) → FirstCase (first_of test xs) (first_of test (xs ++ p ∷ [])) (test p.kind) p
        → FirstCase (if t then Some (record { packet = x; others = xs }) else first_of test xs)
        (if t then Some (record { packet = x; others = xs ++ p ∷ [] })
        else first_of test (xs ++ p ∷ [])) (test p.kind) p
    by true rest = inl (record { packet = x; others = xs }, refl, refl)
    by false rest = rest

abbrev AckCase : Option Behind → Option Behind → Packet → Type 0
AckCase old now p =
    ((old ≡ None) × (now ≡ None))
    ⊎ (((b : Behind) × (old ≡ Some b) × (now ≡ Some (more b p)))
    ⊎ ((b : Behind) × (old ≡ None) × (b.others ≡ []) × (now ≡ Some b)))

acked_cases : (address : Packet) (old now : Option Behind) (p : Packet)
    → FirstCase old now (is_ack p.kind) p
    → AckCase (when_acked address old) (when_acked address now) p
acked_cases address old now p (inl found) =
    subst (λ (o : Option Behind). AckCase (when_acked address o) (when_acked address now) p)
    (sym found.1)
    (subst (λ (o : Option Behind). AckCase (when_acked address (Some found.0))
    (when_acked address o) p) (sym found.2) (by (found.0.packet.a == 0)))
  where
    by : (t : Bool) → AckCase
        (if t then Some (record { packet = address; others = found.0.others }) else None)
        (if t then Some (record { packet = address; others = found.0.others ++ p ∷ [] }) else None)
        p
    by true = inr (inl (record { packet = address; others = found.0.others }, refl, refl))
    by false = inl (refl, refl)
acked_cases address old now p (inr none) =
    subst (λ (o : Option Behind). AckCase (when_acked address o) (when_acked address now) p)
    (sym none.0)
    (subst (λ (o : Option Behind). AckCase None (when_acked address o) p) (sym none.1)
    (by (is_ack p.kind) (p.a == 0) refl))
  where
    by : (t u : Bool) → (p.a == 0) ≡ u → AckCase None
        (when_acked address (if t then Some (record { packet = p; others = [] }) else None)) p
    by true true is =
        inr (inr (
          record { packet = address; others = [] },
          refl,
          refl,
          ap
              (λ (b : Bool). if b then Some (record { packet = address; others = [] }) else None)
              is,
        ))
    by true false is =
        inl (
          refl,
          ap
              (λ (b : Bool). if b then Some (record { packet = address; others = [] }) else None)
              is,
        )
    by false u is = inl (refl, refl)

ack_cases : (xs : List Packet) (p : Packet)
    → AckCase (acknowledged xs) (acknowledged (xs ++ p ∷ [])) p
ack_cases xs p =
    by (first_of is_address xs) (first_of is_address (xs ++ p ∷ [])) (first_cases is_address xs p)
  where
    none : (t : Bool)
        → with_ack (if t then Some (record { packet = p; others = [] }) else None) ≡ None
    none true = refl
    none false = refl

    by : (old now : Option Behind) → FirstCase old now (is_address p.kind) p
        → AckCase (with_ack old) (with_ack now) p
    by old now (inl found) =
        subst (λ (o : Option Behind). AckCase (with_ack o) (with_ack now) p) (sym found.1)
        (subst (λ (o : Option Behind). AckCase (with_ack (Some found.0)) (with_ack o) p)
        (sym found.2)
        (acked_cases found.0.packet (first_of is_ack found.0.others)
        (first_of is_ack (found.0.others ++ p ∷ [])) p (first_cases is_ack found.0.others p)))
    by old now (inr missed) =
        inl (ap with_ack missed.0, ap with_ack missed.1 ∙ none (is_address p.kind))

module _ (Q : Packet → Type 0) where
  first_each : (test : PacketKind → Bool) (xs : List Packet) (b : Behind) → Each Q xs
      → first_of test xs ≡ Some b → Each Q b.others
  first_each test [] b all is = absurd cc
  first_each test (x ∷ xs) b all is = by (test x.kind) is (λ e. first_each test xs b all.1 e)
    where
      by : (t : Bool) → (if t then Some (record { packet = x; others = xs }) else first_of test xs)
          ≡ Some b → (first_of test xs ≡ Some b → Each Q b.others) → Each Q b.others
      by true e rest = let same : (record { packet = x; others = xs }) ≡ b = cc in
          subst (λ (c : Behind). Each Q c.others) same all.1
      by false e rest = rest e

  acked_each : (address : Packet) (o : Option Behind) (b : Behind)
      → ((k : Behind) → o ≡ Some k → Each Q k.others) → when_acked address o ≡ Some b
      → Each Q b.others
  acked_each address None b all is = absurd cc
  acked_each address (Some k) b all is = by (k.packet.a == 0) is
    where
      by : (t : Bool) → (if t then Some (record { packet = address; others = k.others }) else None)
          ≡ Some b → Each Q b.others
      by true e = let same : (record { packet = address; others = k.others }) ≡ b = cc in
          subst (λ (c : Behind). Each Q c.others) same (all k refl)
      by false e = absurd cc

  behind_each : (xs : List Packet) (b : Behind) → Each Q xs → acknowledged xs ≡ Some b
      → Each Q b.others
  behind_each xs b all is = by (first_of is_address xs) refl is
    where
      by : (o : Option Behind) → first_of is_address xs ≡ o → with_ack o ≡ Some b → Each Q b.others
      by None first e = absurd cc
      by (Some address) first e =
          acked_each address.packet (first_of is_ack address.others) b
          (λ k found. first_each is_ack address.others k
          (first_each is_address xs address all first) found) e

  data_each : (xs : List Packet) → Each Q xs → Each Q (data_in xs)
  data_each [] all = tt
  data_each (x ∷ xs) all = by (is_data x.kind) (data_each xs all.1)
    where
      by : (t : Bool) → Each Q (data_in xs) → Each Q (cond t (x ∷ data_in xs) (data_in xs))
      by true rest = (all.0, rest)
      by false rest = rest

module _ (device : ℕ) (resets : Bool) (P : List Out → Type 0) (Q : Packet → Type 0)
    (out : Meaning → List Out) (laws : ByByte P Q out) where
  empty : (r : Bool) → out (if r then Reset else Nothing) ≡ []
  empty true = laws.reset
  empty false = laws.nothing

  same : (old now : List Out) → now ≡ old → Adds P old now
  same old now is = adds_none P laws.none old now is

  data_more : (xs : List Packet) (p : Packet)
      → data_in (xs ++ p ∷ []) ≡ data_in xs ++ (if is_data p.kind then p ∷ [] else [])
  data_more xs p = filter-append (λ packet. is_data packet.kind) xs (p ∷ [])

  -- one more byte, or none
  grown : (kind : List Packet → Meaning)
      → ((bytes : List Packet) (byte : Packet) → Each Q bytes → Q byte
      → Adds P (out (kind bytes)) (out (kind (bytes ++ byte ∷ []))))
      → (xs : List Packet) (p : Packet) → Each Q xs → Q p
      → Adds P (out (kind (data_in xs))) (out (kind (data_in (xs ++ p ∷ []))))
  grown kind law xs p all here =
      subst (λ (l : List Packet). Adds P (out (kind (data_in xs))) (out (kind l)))
      (sym (data_more xs p)) (by (is_data p.kind))
    where
      by : (t : Bool) → Adds P (out (kind (data_in xs)))
          (out (kind (data_in xs ++ (if t then p ∷ [] else []))))
      by true = law (data_in xs) p (data_each Q xs all) here
      by false = same _ _ (ap (λ (l : List Packet). out (kind l)) (append-nil (data_in xs)))

  pub phase_more : (phase : List Packet) (p : Packet) → Each Q phase → Q p
      → Adds P (out (meaning device resets phase)) (out (meaning device resets (phase ++ p ∷ [])))
  phase_more phase p all here =
      by (acknowledged phase) (acknowledged (phase ++ p ∷ []))
      (λ b is. behind_each Q phase b all is) (ack_cases phase p)
    where
      both : (b : Behind) → Each Q b.others → (t u r s : Bool)
          → Adds P (out
          (if t then Writes (data_in b.others)
          else (if u then Reads (data_in b.others) else (if r then Reset else Nothing))))
          (out (if t then Writes (data_in (b.others ++ p ∷ []))
          else (if u then Reads (data_in (b.others ++ p ∷ []))
          else (if s then Reset else Nothing))))
      both b each true u r s = grown Writes laws.write b.others p each here
      both b each false true r s = grown Reads laws.read b.others p each here
      both b each false false r s = same _ _ (empty s ∙ sym (empty r))

      fresh : (b : Behind) (bytes : List Packet) → bytes ≡ [] → (t u r : Bool)
          → out (if t then Writes bytes
          else (if u then Reads bytes else (if r then Reset else Nothing))) ≡ []
      fresh b bytes none true u r = ap (λ (l : List Packet). out (Writes l)) none ∙ laws.no_write
      fresh b bytes none false true r = ap (λ (l : List Packet). out (Reads l)) none ∙ laws.no_read
      fresh b bytes none false false r = empty r

      by : (old now : Option Behind) → ((b : Behind) → old ≡ Some b → Each Q b.others)
          → AckCase old now p → Adds P (out (meaning_by device resets phase old))
          (out (meaning_by device resets (phase ++ p ∷ []) now))
      by old now each (inl neither) =
          subst (λ (o : Option Behind). Adds P (out (meaning_by device resets phase o))
          (out (meaning_by device resets (phase ++ p ∷ []) now))) (sym neither.0)
          (subst (λ (o : Option Behind). Adds P (out Nothing)
          (out (meaning_by device resets (phase ++ p ∷ []) o))) (sym neither.1) (same _ _ refl))
      by old now each (inr (inl found)) =
          subst (λ (o : Option Behind). Adds P (out (meaning_by device resets phase o))
          (out (meaning_by device resets (phase ++ p ∷ []) now))) (sym found.1)
          (subst (λ (o : Option Behind). Adds P
          (out (meaning_by device resets phase (Some found.0)))
          (out (meaning_by device resets (phase ++ p ∷ []) o))) (sym found.2)
          (both found.0 (each found.0 found.1) (found.0.packet.a == device && found.0.packet.b == 0)
          (found.0.packet.a == device && found.0.packet.b == 1) (resets && is_reset phase found.0)
          (resets && is_reset (phase ++ p ∷ []) (more found.0 p))))
      by old now each (inr (inr first)) =
          subst (λ (o : Option Behind). Adds P (out (meaning_by device resets phase o))
          (out (meaning_by device resets (phase ++ p ∷ []) now))) (sym first.1)
          (subst (λ (o : Option Behind). Adds P (out Nothing)
          (out (meaning_by device resets (phase ++ p ∷ []) o))) (sym first.3)
          (same _ _
          (fresh first.0 (data_in first.0.others) (ap data_in first.2)
          (first.0.packet.a == device && first.0.packet.b == 0)
          (first.0.packet.a == device && first.0.packet.b == 1)
          (resets && is_reset (phase ++ p ∷ []) first.0) ∙ sym laws.nothing)))

-- where a part is a phase, each of its packets passes
abbrev pub PartEach : (Packet → Type 0) → List Packet → Type 0
PartEach Q [] = Unit {0}
PartEach Q (packet ∷ packets) = is_start packet.kind ≡ true → Each Q packets

-- so it is of the last part
abbrev pub LastEach : (Packet → Type 0) → List (List Packet) → Type 0
LastEach Q [] = Unit {0}
LastEach Q (part ∷ []) = PartEach Q part
LastEach Q (part ∷ next ∷ parts) = LastEach Q (next ∷ parts)

last_each : (Q : Packet → Type 0) (qs : List (List Packet)) (q : List Packet)
    → LastEach Q (qs ++ q ∷ []) → PartEach Q q
last_each Q [] q all = all
last_each Q (x ∷ []) q all = all
last_each Q (x ∷ y ∷ qs) q all = last_each Q (y ∷ qs) q all

each_last : (Q : Packet → Type 0) (qs : List (List Packet)) (q : List Packet) → PartEach Q q
    → LastEach Q (qs ++ q ∷ [])
each_last Q [] q all = all
each_last Q (x ∷ []) q all = all
each_last Q (x ∷ y ∷ qs) q all = each_last Q (y ∷ qs) q all

pub each_push : (Q : Packet → Type 0) (xs : List Packet) (p : Packet) → Each Q xs → Q p
    → Each Q (xs ++ p ∷ [])
each_push Q [] p all here = (here, tt)
each_push Q (x ∷ xs) p all here = (all.0, each_push Q xs p all.1 here)

part_push : (Q : Packet → Type 0) (xs : List Packet) (p : Packet) → PartEach Q xs → Q p
    → PartEach Q (xs ++ p ∷ [])
part_push Q [] p all here = λ e. tt
part_push Q (x ∷ xs) p all here = λ e. each_push Q xs p (all e) here

-- what passes by one test passes by a weaker one
pub by_weaker : (P R : List Out → Type 0) (Q : Packet → Type 0) (out : Meaning → List Out)
    → ((l : List Out) → P l → R l) → ByByte P Q out → ByByte R Q out
by_weaker P R Q out f laws = record {
  none = f [] laws.none;
  nothing = laws.nothing;
  reset = laws.reset;
  no_write = laws.no_write;
  no_read = laws.no_read;
  write = λ bytes byte all here. let a = laws.write bytes byte all here in (a.0, a.1, f a.0 a.2);
  read = λ bytes byte all here. let a = laws.read bytes byte all here in (a.0, a.1, f a.0 a.2);
}

-- the meanings of all phases, with one more packet: the same, one more phase that means nothing
-- yet, or a longer last phase
abbrev MeaningCase : (Packet → Type 0) → (List Packet → Meaning) → List Meaning → List Meaning
    → Packet → Type 0
MeaningCase Q m old now p =
    (now ≡ old)
    ⊎ ((now ≡ old ++ m [] ∷ [])
    ⊎ ((before : List Meaning) × (phase : List Packet) × Each Q phase
    × (old ≡ before ++ m phase ∷ []) × (now ≡ before ++ m (phase ++ p ∷ []) ∷ [])))

pub back : {X : Type 0} (xs : List X)
    → (xs ≡ []) ⊎ ((front : List X) × (last : X) × (xs ≡ front ++ last ∷ []))
back [] = inl refl
back (x ∷ xs) = elim (back xs) [
  | inl none ↦ inr ([], x, ap (λ l. x ∷ l) none)
  | inr some ↦ inr (x ∷ some.0, some.1, ap (λ l. x ∷ l) some.2)
]

module _ (Q : Packet → Type 0) (m : List Packet → Meaning) where
  abbrev of_parts : List (List Packet) → List Meaning
  of_parts ps = map m (flat_map phase_in ps)

  of_last : (qs : List (List Packet)) (q : List Packet)
      → of_parts (qs ++ q ∷ []) ≡ of_parts qs ++ map m (phase_in q)
  of_last qs q =
      ap (map m)
      (flat_map-append phase_in qs (q ∷ []) ∙ ap (λ l. flat_map phase_in qs ++ l)
      (append-nil (phase_in q))) ∙ map-append m (flat_map phase_in qs) (phase_in q)

  meaning_cases : (xs : List Packet) (p : Packet) → LastEach Q (parts is_mark xs)
      → MeaningCase Q m (of_parts (parts is_mark xs)) (of_parts (parts is_mark (xs ++ p ∷ []))) p
  meaning_cases xs p last = by (is_mark p) refl
    where
      starts : (t : Bool) → MeaningCase Q m (of_parts (parts is_mark xs))
          (of_parts (parts is_mark xs) ++ map m (if t then [] ∷ [] else [])) p
      starts true = inr (inl refl)
      starts false = inl (append-nil (of_parts (parts is_mark xs)))

      longer : (qs : List (List Packet)) (q : List Packet) → PartEach Q q
          → MeaningCase Q m (of_parts qs ++ map m (phase_in q))
          (of_parts qs ++ map m (phase_in (q ++ p ∷ []))) p
      longer qs [] all = fresh (is_start p.kind)
        where
          fresh : (t : Bool) → MeaningCase Q m (of_parts qs ++ [])
              (of_parts qs ++ map m (if t then [] ∷ [] else [])) p
          fresh true =
              inr (inl (ap (λ (l : List Meaning). l ++ m [] ∷ []) (sym (append-nil (of_parts qs)))))
          fresh false = inl refl
      longer qs (x ∷ q) all = go (is_start x.kind) refl
        where
          go : (t : Bool) → is_start x.kind ≡ t → MeaningCase Q m
              (of_parts qs ++ map m (if t then q ∷ [] else []))
              (of_parts qs ++ map m (if t then (q ++ p ∷ []) ∷ [] else [])) p
          go true e = inr (inr (of_parts qs, q, all e, refl, refl))
          go false e = inl refl

      joins : (ps : List (List Packet)) → LastEach Q ps
          → (ps ≡ [])
          ⊎ ((front : List (List Packet)) × (last : List Packet) × (ps ≡ front ++ last ∷ []))
          → MeaningCase Q m (of_parts ps) (of_parts (grow_last ps p)) p
      joins ps all (inl none) =
          subst (λ (l : List (List Packet)). MeaningCase Q m (of_parts l)
          (of_parts (grow_last l p)) p) (sym none) (inl refl)
      joins ps all (inr some) =
          subst (λ (l : List (List Packet)). MeaningCase Q m (of_parts l)
          (of_parts (grow_last l p)) p) (sym some.2)
          (subst (λ (l : List (List Packet)). MeaningCase Q m (of_parts (some.0 ++ some.1 ∷ []))
          (of_parts l) p) (sym (grow_last_at some.0 some.1 p))
          (subst (λ (l : List Meaning). MeaningCase Q m l
          (of_parts (some.0 ++ (some.1 ++ p ∷ []) ∷ [])) p) (sym (of_last some.0 some.1))
          (subst (λ (l : List Meaning). MeaningCase Q m
          (of_parts some.0 ++ map m (phase_in some.1)) l p)
          (sym (of_last some.0 (some.1 ++ p ∷ [])))
          (longer some.0 some.1 (last_each Q some.0 some.1 (subst (LastEach Q) some.2 all))))))

      by : (t : Bool) → is_mark p ≡ t → MeaningCase Q m (of_parts (parts is_mark xs))
          (of_parts (parts is_mark (xs ++ p ∷ []))) p
      by true is =
          subst (λ (l : List Meaning). MeaningCase Q m (of_parts (parts is_mark xs)) l p)
          (sym (ap of_parts (parts_mark is_mark xs p is) ∙ of_last (parts is_mark xs) (p ∷ [])))
          (starts (is_start p.kind))
      by false is =
          subst (λ (l : List (List Packet)). MeaningCase Q m (of_parts (parts is_mark xs))
          (of_parts l) p) (sym (parts_join is_mark xs p is))
          (joins (parts is_mark xs) last (back (parts is_mark xs)))

-- where the last part's packets pass and one more does, those of the last part pass
pub last_more : (Q : Packet → Type 0) (xs : List Packet) (p : Packet)
    → LastEach Q (parts is_mark xs) → Q p → LastEach Q (parts is_mark (xs ++ p ∷ []))
last_more Q xs p last here = by (is_mark p) refl
  where
    joins : (ps : List (List Packet)) → LastEach Q ps
        → (ps ≡ [])
        ⊎ ((front : List (List Packet)) × (last : List Packet) × (ps ≡ front ++ last ∷ []))
        → LastEach Q (grow_last ps p)
    joins ps all (inl none) =
        subst (λ (l : List (List Packet)). LastEach Q (grow_last l p)) (sym none) tt
    joins ps all (inr some) =
        subst (λ (l : List (List Packet)). LastEach Q (grow_last l p)) (sym some.2)
        (subst (LastEach Q) (sym (grow_last_at some.0 some.1 p))
        (each_last Q some.0 (some.1 ++ p ∷ [])
        (part_push Q some.1 p (last_each Q some.0 some.1 (subst (LastEach Q) some.2 all)) here)))

    by : (t : Bool) → is_mark p ≡ t → LastEach Q (parts is_mark (xs ++ p ∷ []))
    by true is =
        subst (LastEach Q) (sym (parts_mark is_mark xs p is))
        (each_last Q (parts is_mark xs) (p ∷ []) (λ e. tt))
    by false is =
        subst (LastEach Q) (sym (parts_join is_mark xs p is))
        (joins (parts is_mark xs) last (back (parts is_mark xs)))

module _ (device : ℕ) (resets : Bool) (P : List Out → Type 0) (Q : Packet → Type 0)
    (step : List Meaning → Meaning → List Out)
    (laws : (before : List Meaning) → ByByte P Q (step before)) where
  abbrev outs : List Packet → List Out
  outs packets = along step (meanings device resets packets)

  -- one more packet adds what passes
  pub packet_more : (xs : List Packet) (p : Packet) → LastEach Q (parts is_mark xs) → Q p
      → Adds P (outs xs) (outs (xs ++ p ∷ []))
  packet_more xs p last here =
      by (meanings device resets xs) (meanings device resets (xs ++ p ∷ []))
      (meaning_cases Q (meaning device resets) xs p last)
    where
      none : (old now : List Out) → now ≡ old → Adds P old now
      none old now is = adds_none P (laws []).none old now is

      by : (old now : List Meaning) → MeaningCase Q (meaning device resets) old now p
          → Adds P (along step old) (along step now)
      by old now (inl same) = none _ _ (ap (along step) same)
      by old now (inr (inl one)) =
          none _ _ (ap (along step) one ∙ along_push step old Nothing
          ∙ ap (λ (l : List Out). along step old ++ l) (laws old).nothing
          ∙ append-nil (along step old))
      by old now (inr (inr longer)) =
          let before = longer.0 in
          let phase = longer.1 in
          let new =
          phase_more device resets P Q (step before) (laws before) phase p longer.2 here in (
            new.0,
            ap (along step) longer.4 ∙ along_push step before
                (meaning device resets (phase ++ p ∷ []))
                ∙ ap (λ (l : List Out). along step before ++ l) new.1
                ∙ sym (append_assoc (along step before) (step before (meaning device resets phase))
                new.0) ∙ ap (λ (l : List Out). l ++ new.0)
                (sym (ap (along step) longer.3
                ∙ along_push step before (meaning device resets phase))),
            new.2,
          )

  -- more packets add what passes, where what passes may stand behind what passes
  pub packets_more : ((xs ys : List Out) → P xs → P ys → P (xs ++ ys)) → (xs ps : List Packet)
      → LastEach Q (parts is_mark xs) → Each Q ps → Adds P (outs xs) (outs (xs ++ ps))
  packets_more join xs [] last all =
      ([], ap outs (append-nil xs) ∙ sym (append-nil (outs xs)), (laws []).none)
  packets_more join xs (p ∷ ps) last all =
      let one = packet_more xs p last all.0 in
      let rest = packets_more join (xs ++ p ∷ []) ps (last_more Q xs p last all.0) all.1 in (
        one.0 ++ rest.0,
        ap outs (sym (append_assoc xs (p ∷ []) ps)) ∙ rest.1
            ∙ ap (λ (l : List Out). l ++ rest.0) one.1
            ∙ append_assoc (outs xs) one.0 rest.0,
        join one.0 rest.0 one.2 rest.2,
      )

-- where every packet passes
module _ (Q : Packet → Type 0) (any : (p : Packet) → Q p) where
  any_each : (xs : List Packet) → Each Q xs
  any_each [] = tt
  any_each (x ∷ xs) = (any x, any_each xs)

  any_last : (ps : List (List Packet)) → LastEach Q ps
  any_last [] = tt
  any_last ([] ∷ []) = tt
  any_last ((x ∷ xs) ∷ []) = λ e. any_each xs
  any_last (p ∷ q ∷ ps) = any_last (q ∷ ps)

module _ (device : ℕ) (resets : Bool) (P : List Out → Type 0) (Q : Packet → Type 0)
    (step : List Meaning → Meaning → List Out)
    (laws : (before : List Meaning) → ByByte P Q (step before)) (any : (p : Packet) → Q p) where
  abbrev all_outs : List Packet → List Out
  all_outs packets = along step (meanings device resets packets)

  one_more : (xs : List Packet) (p : Packet) → Adds P (all_outs xs) (all_outs (xs ++ p ∷ []))
  one_more xs p =
      packet_more device resets P Q step laws xs p (any_last Q any (parts is_mark xs)) (any p)

  pub keeps_front : KeepsFront all_outs
  keeps_front xs [] = ([], ap all_outs (append-nil xs) ∙ sym (append-nil (all_outs xs)))
  keeps_front xs (p ∷ ps) =
      let one = one_more xs p in
      let rest = keeps_front (xs ++ p ∷ []) ps in (
        one.0 ++ rest.0,
        ap all_outs (sym (append_assoc xs (p ∷ []) ps)) ∙ rest.1
            ∙ ap (λ (l : List Out). l ++ rest.0) one.1 ∙ append_assoc (all_outs xs) one.0 rest.0,
      )

  pub adds_few : ((new : List Out) → P new → length new ≤ 16) → AddsFew all_outs
  adds_few low xs p =
      let one = one_more xs p in
      let few = low one.0 one.2 in
      let is : length (all_outs (xs ++ p ∷ [])) ≡ length (all_outs xs ++ one.0) = ap length one.1 in
      omega (arith, is, few, length-append (all_outs xs) one.0)

-- where no phase puts a packet of another wire out, none is
pub along_on : (wire : Wire) (step : List Meaning → Meaning → List Out)
    → ((before : List Meaning) (m : Meaning) → PacketsOn wire (step before m))
    → (before ms : List Meaning) → PacketsOn wire (along_from step before ms)
along_on wire step each before [] = tt
along_on wire step each before (m ∷ ms) =
    PacketsOn-append wire (step before m) (along_from step (before ++ m ∷ []) ms) (each before m)
    (along_on wire step each (before ++ m ∷ []) ms)
