-- What a follower stands for.
use Rattle.std.proofs.Common.{◌≡◌, ◌<◌, ℕ, true, false, List, [], ◌∷◌, ◌++◌, length, map, None, refl, sym, ◌∙◌, ap, subst, arith}
use Rattle.std.proofs.lemmas.List.{append-nil}
use Rattle.la_base.specs.declared.wires.Feed.{Feed}
use Rattle.la_base.specs.declared.wires.Packet.{Packet}
use Rattle.la_base.specs.declared.wires.Out.{Out}
use Rattle.la_base.specs.declared.wires.Wire.{Wire}
use Rattle.decoder_core.specs.Driving.{ReachesStop, Steps, StopsFirst}
use Rattle.decoder_core.specs.Inputs.{Item, Pack, Sample, items_of}
use Rattle.decoder_core.specs.Packets.{AllCount, Follows, NoneCount, counted_packets, counting, counts, last_start}
use Rattle.decoder_core.specs.laws.PacketLaws.{counted_on, none_counted, packet_counted, packet_passed, packets_count}

last_start-push : (last : ℕ) (xs : List Packet) (p : Packet) → last_start last (xs ++ p ∷ []) ≡ p.start
last_start-push last [] p = refl
last_start-push last (x ∷ xs) p = last_start-push x.start xs p

module _ {D : Type 0} (stands : D → List Packet → Type 0) (wire : Wire) (outs : List Packet → List Out) (machine : D) (from : ℕ) where
  pub starts : stands machine [] → Follows stands wire machine 0 []
  starts none = record { machine_stands = subst (stands machine) (sym (none_counted wire)) none; last_is = ap (last_start 0) (sym (none_counted wire)) }

  -- what doesn't count is passed over
  pub passed : (input front : List Item) → counted_packets wire (input ++ front) ≡ counted_packets wire input → Follows stands wire machine from input → Follows stands wire machine from (input ++ front)
  passed input front same d = record {
    machine_stands = subst (stands machine) (sym same) d.machine_stands;
    last_is = d.last_is ∙ ap (last_start 0) (sym same);
  }

  pub passes : (feed : Feed) (front : List Item) (into : List Out) → items_of feed ≡ front → into ≡ [] → ((input : List Item) → Follows stands wire machine from input → counted_packets wire (input ++ front) ≡ counted_packets wire input)
      → Steps (Follows stands wire machine from) (Follows stands wire machine from) (λ input. outs (counted_packets wire input)) feed None into
  passes feed front into is empty same = record {
    front = front;
    split = is ∙ sym (append-nil front);
    some = λ some. subst (λ (l : List Item). 0 < length l) is some;
    more = tt;
    consumes = λ input d. passed input front (same input d) d;
    gives = λ input d. ap outs (same input d) ∙ sym (append-nil (outs (counted_packets wire input))) ∙ ap (λ (l : List Out). outs (counted_packets wire input) ++ l) (sym empty);
  }

  pub not_counted : (p : Packet) → counts wire from p ≡ false → (input : List Item) → Follows stands wire machine from input → counted_packets wire (input ++ Pack p ∷ []) ≡ counted_packets wire input
  not_counted p test input d = packet_passed wire input p (ap (λ (n : ℕ). counts wire n p) (sym d.last_is) ∙ test)

  pub followed : (after : D) (feed : Feed) (p : Packet) (into : List Out) → items_of feed ≡ Pack p ∷ [] → counts wire from p ≡ true
      → ((seen : List Packet) → stands machine seen → AllCount wire (seen ++ p ∷ []) → stands after (seen ++ p ∷ []))
      → ((seen : List Packet) → stands machine seen → AllCount wire (seen ++ p ∷ []) → outs (seen ++ p ∷ []) ≡ outs seen ++ into)
      → Steps (Follows stands wire machine from) (Follows stands wire after p.start) (λ input. outs (counted_packets wire input)) feed None into
  followed after feed p into is test stood loud =
      let on = λ (input : List Item) (d : Follows stands wire machine from input). packet_counted wire input p (ap (λ (n : ℕ). counts wire n p) (sym d.last_is) ∙ test) in
      let all = λ (input : List Item) (d : Follows stands wire machine from input). subst (AllCount wire) (on input d) (packets_count wire (input ++ Pack p ∷ [])) in
      record {
        front = Pack p ∷ [];
        split = is;
        some = λ some. subst (λ (l : List Item). 0 < length l) is some;
        more = tt;
        consumes = λ input d. record {
          machine_stands = subst (stands after) (sym (on input d)) (stood (counted_packets wire input) d.machine_stands (all input d));
          last_is = sym (ap (last_start 0) (on input d) ∙ last_start-push 0 (counted_packets wire input) p);
        };
        gives = λ input d. ap outs (on input d) ∙ loud (counted_packets wire input) d.machine_stands (all input d);
      }

-- samples but the last of them don't count
earlier_samples : (wire : Wire) (last : ℕ) (l : List ℕ) (earlier : List Item) (x : Item) → map Sample l ≡ earlier ++ x ∷ [] → counting wire last earlier ≡ []
earlier_samples wire last l [] x is = refl
earlier_samples wire last [] (e ∷ earlier) x is = absurd cc
earlier_samples wire last (v ∷ l) (Pack p ∷ earlier) x is = absurd cc
earlier_samples wire last (v ∷ l) (Sample w ∷ earlier) x is = earlier_samples wire last l earlier x cc

module _ (wire : Wire) (before : List Item → Type 0) (feed : Feed) where
  asleep : (input earlier : List Item) → counting wire (last_start 0 (counted_packets wire input)) earlier ≡ [] → NoneCount wire input earlier
  asleep input earlier none = counted_on wire input earlier ∙ ap (λ (l : List Packet). counted_packets wire input ++ l) none ∙ append-nil (counted_packets wire input)

  -- a feed that is consumed whole, and has no packet before its last item
  pub whole_feed : (front : List Item) → items_of feed ≡ front → ((last : ℕ) (earlier : List Item) (x : Item) → front ≡ earlier ++ x ∷ [] → counting wire last earlier ≡ []) → StopsFirst before (NoneCount wire) feed None
  whole_feed front is none = record {
    front = front;
    split = is ∙ sym (append-nil front);
    none = λ input earlier x b split. asleep input earlier (none (last_start 0 (counted_packets wire input)) earlier x split);
    stop = λ some. absurd (omega (arith, some));
  }

  pub packet_feed : (p : Packet) → items_of feed ≡ Pack p ∷ [] → StopsFirst before (NoneCount wire) feed None
  packet_feed p is = whole_feed (Pack p ∷ []) is none
    where
      none : (last : ℕ) (earlier : List Item) (x : Item) → Pack p ∷ [] ≡ earlier ++ x ∷ [] → counting wire last earlier ≡ []
      none last [] x split = refl
      none last (e ∷ []) x split = absurd cc
      none last (e ∷ f ∷ earlier) x split = absurd cc

  pub run_feed : (l : List ℕ) → items_of feed ≡ map Sample l → StopsFirst before (NoneCount wire) feed None
  run_feed l is = whole_feed (map Sample l) is (λ last earlier x split. earlier_samples wire last l earlier x split)

  pub end_feed : items_of feed ≡ [] → StopsFirst before (NoneCount wire) feed None
  end_feed is = run_feed [] is

  pub reaches : StopsFirst before (NoneCount wire) feed None → ReachesStop before (NoneCount wire) feed None
  reaches first = record { front = first.front; split = first.split; stop = first.stop }
