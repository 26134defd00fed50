-- Stops and chains of stops, as samples go on: what a loop over scans needs.
use Rattle.std.proofs.Common.{◌≡◌, inl, inr, ℕ, zero, suc, ◌+◌, ◌<◌, ◌≤◌, List, [], ◌∷◌, ◌++◌, length, take, drop, slice_index, arith, refl, sym, ◌∙◌, ap, subst, Option, Some, length-append, length-take-le, take-append-drop}
use Rattle.std.specs.Int.{bit_at}
use Rattle.std.proofs.lemmas.List.{get_or_append_left}
use Rattle.std.proofs.lemmas.Nat.Bits.{bit_at-lt, same_from_bits}
use Rattle.std.proofs.lemmas.Bool.{cases_eq, cases_lt}
use Rattle.la_base.specs.Samples.{before_of}
use Rattle.wait_cond.specs.declared.alt.Alt.{Alt}
use Rattle.wait_cond.specs.declared.scan.Waiter.{Waiter}
use Rattle.wait_cond.specs.Stops.{MetSet, MetIn, NoneMet, IsStop, Stop, Chain, AreStops}
use Rattle.la_base.specs.declared.samples.Run.{Run}
use Rattle.wait_cond.specs.declared.scan.Scan.TheVariants.{Met, Through}
use Rattle.wait_cond.specs.Waiting.{Waits, Scanned, rest_samples, alts_of, wait_from}

-- a set of alternatives is one
pub one_set : (alts : List Alt) (before : Option ℕ) (now from q met set : ℕ) → MetSet alts before now from q met → MetSet alts before now from q set → met ≡ set
one_set alts before now from q met set m s = same_from_bits met set at
  where
    in_other : (a b i : ℕ) → MetSet alts before now from q a → MetSet alts before now from q b → bit_at a i ≡ 1 → bit_at b i ≡ 1
    in_other a b i p r one = let e = p.each i one in r.all i e.0 e.1 e.2

    at : (i : ℕ) → bit_at met i ≡ bit_at set i
    at i = elim (cases_eq (bit_at met i) 1) [
      | inl one ↦ one ∙ sym (in_other met set i m s one)
      | inr not ↦ elim (cases_eq (bit_at set i) 1) [
        | inl one ↦ in_other set met i s m one ∙ sym one
        | inr other ↦ omega (arith, bit_at-lt met i, bit_at-lt set i, not, other)
      ]
    ]

before_in_front : (list more : List ℕ) (q : ℕ) → q ≤ length list → before_of (list ++ more) q ≡ before_of list q
before_in_front list more zero within = refl
before_in_front list more (suc q) within = ap (λ (n : ℕ). Some n) (get_or_append_left list more 0 q (omega arith))

module _ (list more : List ℕ) (alts : List Alt) where
  -- what is met in a front of a list is what is met there in the whole
  pub met_longer : (from q met : ℕ) → q < length list → MetIn list alts from q met → MetIn (list ++ more) alts from q met
  met_longer from q met within set =
      subst (λ (b : Option ℕ). MetSet alts b (slice_index (list ++ more) q) from q met) (sym (before_in_front list more q (omega arith)))
      (subst (λ (n : ℕ). MetSet alts (before_of list q) n from q met) (sym (get_or_append_left list more 0 q within)) set)

  pub met_shorter : (from q met : ℕ) → q < length list → MetIn (list ++ more) alts from q met → MetIn list alts from q met
  met_shorter from q met within set =
      subst (λ (b : Option ℕ). MetSet alts b (slice_index list q) from q met) (before_in_front list more q (omega arith))
      (subst (λ (n : ℕ). MetSet alts (before_of (list ++ more) q) n from q met) (get_or_append_left list more 0 q within) set)

  pub none_in_longer : (from end : ℕ) → end ≤ length list → NoneMet list alts from end → NoneMet (list ++ more) alts from end
  none_in_longer from end within none q after before = met_longer from q 0 (omega arith) (none q after before)

  pub none_in_shorter : (from end : ℕ) → end ≤ length list → NoneMet (list ++ more) alts from end → NoneMet list alts from end
  none_in_shorter from end within none q after before = met_shorter from q 0 (omega arith) (none q after before)

  -- a stop is one of every longer list, and of every front that it lies in
  pub stop_longer : (from q met : ℕ) → IsStop list alts from q met → IsStop (list ++ more) alts from q met
  stop_longer from q met s = record {
    after = s.after;
    within = omega (arith, s.within, length-append list more);
    set = met_longer from q met s.within s.set;
    some = s.some;
    first = none_in_longer from q (omega (arith, s.within)) s.first;
  }

  pub stop_shorter : (from q met : ℕ) → q < length list → IsStop (list ++ more) alts from q met → IsStop list alts from q met
  stop_shorter from q met within s = record {
    after = s.after;
    within = within;
    set = met_shorter from q met within s.set;
    some = s.some;
    first = none_in_shorter from q (omega arith) s.first;
  }

  -- so is a chain of them
  pub chain_longer : (from to : ℕ) (stops : List Stop) → Chain list alts from stops to → Chain (list ++ more) alts from stops to
  chain_longer from to [] c = c
  chain_longer from to (s ∷ stops) c = (stop_longer from s.0 s.1 c.0, chain_longer (s.0 + 1) to stops c.1)

  pub chain_shorter : (from to : ℕ) (stops : List Stop) → to ≤ length list → Chain (list ++ more) alts from stops to → Chain list alts from stops to
  chain_shorter from to [] within c = c
  chain_shorter from to (s ∷ stops) within c =
      (stop_shorter from s.0 s.1 (omega (arith, chain_grows (s.0 + 1) to stops c.1)) c.0, chain_shorter (s.0 + 1) to stops within c.1)
    where
      chain_grows : (a b : ℕ) (rest : List Stop) → Chain (list ++ more) alts a rest b → a ≤ b
      chain_grows a b [] c = omega (arith, c)
      chain_grows a b (s ∷ rest) c = omega (arith, c.0.after, chain_grows (s.0 + 1) b rest c.1)

module _ (samples : List ℕ) (alts : List Alt) where
  -- no stop leads from a wait to itself
  pub chain_start : (from : ℕ) → Chain samples alts from [] from
  chain_start from = refl

  -- one more stop
  pub chain_more : (from at : ℕ) (stops : List Stop) (q met : ℕ) → Chain samples alts from stops at → IsStop samples alts at q met → Chain samples alts from (stops ++ (q, met) ∷ []) (q + 1)
  chain_more from at [] q met so_far stop = (subst (λ (n : ℕ). IsStop samples alts n q met) (sym so_far) stop, refl)
  chain_more from at (s ∷ stops) q met so_far stop = (so_far.0, chain_more (s.0 + 1) at stops q met so_far.1 stop)

  -- a wait has one stop
  pub one_stop : (from p q met set : ℕ) → IsStop samples alts from p met → IsStop samples alts from q set → (p ≡ q) × (met ≡ set)
  one_stop from p q met set a b = elim (cases_eq p q) [
    | inl same ↦ (same, one_set alts (before_of samples q) (slice_index samples q) from q met set (subst (λ (n : ℕ). MetIn samples alts from n met) same a.set) b.set)
    | inr other ↦ elim (cases_lt p q) [
      | inl less ↦ absurd (a.some (one_set alts (before_of samples p) (slice_index samples p) from p met 0 a.set (b.first p a.after less)))
      | inr more ↦ absurd (b.some (one_set alts (before_of samples q) (slice_index samples q) from q set 0 b.set (a.first q b.after (omega arith))))
    ]
  ]

  -- where none is met there is no stop
  pub no_stop : (from end q met : ℕ) → NoneMet samples alts from end → q < end → IsStop samples alts from q met → ⊥
  no_stop from end q met none within s = s.some (one_set alts (before_of samples q) (slice_index samples q) from q met 0 s.set (none q s.after within))

  -- all stops of a list are the first of every chain that leads to none
  pub chain_front : (from to end last : ℕ) (stops longer : List Stop) → Chain samples alts from stops to → Chain samples alts from longer last → NoneMet samples alts last end → to ≤ end
      → (new : List Stop) × (longer ≡ stops ++ new)
  chain_front from to end last [] longer a b none within = (longer, refl)
  chain_front from to end last (s ∷ stops) [] a b none within =
      absurd (no_stop from end s.0 s.1 (subst (λ (n : ℕ). NoneMet samples alts n end) (sym b) none) (omega (arith, within, chain_le (s.0 + 1) to stops a.1)) a.0)
    where
      chain_le : (x y : ℕ) (rest : List Stop) → Chain samples alts x rest y → x ≤ y
      chain_le x y [] c = omega (arith, c)
      chain_le x y (s ∷ rest) c = omega (arith, c.0.after, chain_le (s.0 + 1) y rest c.1)
  chain_front from to end last (s ∷ stops) (t ∷ longer) a b none within =
      let same = one_stop from s.0 t.0 s.1 t.1 a.0 b.0 in
      let rest = chain_front (s.0 + 1) to end last stops longer a.1 (subst (λ (n : ℕ). Chain samples alts (n + 1) longer last) (sym same.0) b.1) none within in
      (rest.0, λ i. sym (pair s t same) i ∷ rest.1 i)
    where
      pair : (x y : Stop) → (x.0 ≡ y.0) × (x.1 ≡ y.1) → x ≡ y
      pair x y e = λ i. (e.0 i, e.1 i)

  -- the stop of a chain's end lies within the samples
  pub chain_within : (from to : ℕ) (stops : List Stop) → from ≤ length samples → Chain samples alts from stops to → to ≤ length samples
  chain_within from to [] within c = omega (arith, c)
  chain_within from to (s ∷ stops) within c = chain_within (s.0 + 1) to stops (omega (arith, c.0.within)) c.1

-- the stops of a longer list go on from those of the shorter one
pub stops_go_on : (samples more : List ℕ) (alts : List Alt) (stops longer : List Stop) → AreStops samples alts stops → AreStops (samples ++ more) alts longer → (new : List Stop) × (longer ≡ stops ++ new)
stops_go_on samples more alts stops longer a b =
    chain_front (samples ++ more) alts 0 a.to (length (samples ++ more)) b.to stops longer (chain_longer samples more alts 0 a.to stops a.chain) b.chain b.none
    (let w = chain_within samples alts 0 a.to stops (omega arith) a.chain in omega (arith, w, length-append samples more))

nothing_new : {A : Type 0} (xs ys new other : List A) → ys ≡ xs ++ new → xs ≡ ys ++ other → xs ≡ ys
nothing_new xs ys new other e f = g xs ys new e (omega (arith, ap length e, ap length f, length-append xs new, length-append ys other))
  where
    g : {A : Type 0} (xs ys new : List A) → ys ≡ xs ++ new → length new ≡ 0 → xs ≡ ys
    g xs ys [] e none = sym (e ∙ append_none xs)
      where
        append_none : {A : Type 0} (xs : List A) → xs ++ [] ≡ xs
        append_none [] = refl
        append_none (x ∷ xs) = ap (λ rest. x ∷ rest) (append_none xs)
    g xs ys (n ∷ new) e none = absurd (omega (arith, none))

-- a list of samples has one list of all stops
pub one_list : (samples : List ℕ) (alts : List Alt) (stops others : List Stop) → AreStops samples alts stops → AreStops samples alts others → stops ≡ others
one_list samples alts stops others a b =
    let p = chain_front samples alts 0 a.to (length samples) b.to stops others a.chain b.chain b.none (chain_within samples alts 0 a.to stops (omega arith) a.chain) in
    let q = chain_front samples alts 0 b.to (length samples) a.to others stops b.chain a.chain a.none (chain_within samples alts 0 b.to others (omega arith) b.chain) in
    nothing_new stops others p.0 q.0 p.1 q.1

-- a scan that stopped: one stop more, in the samples up to it
pub chain_met : (list more : List ℕ) (alts : List Alt) (from at met : ℕ) (stops : List Stop) → Chain list alts 0 stops from → IsStop (list ++ more) alts from at met
    → Chain (take (at + 1) (list ++ more)) alts 0 (stops ++ (at, met) ∷ []) (at + 1)
chain_met list more alts from at met stops so_far stop =
    let all = list ++ more in
    let fits : length (take (at + 1) all) ≡ at + 1 = length-take-le (at + 1) all (omega (arith, stop.within)) in
    chain_shorter (take (at + 1) all) (drop (at + 1) all) alts 0 (at + 1) (stops ++ (at, met) ∷ []) (omega (arith, fits))
    (subst (λ (l : List ℕ). Chain l alts 0 (stops ++ (at, met) ∷ []) (at + 1)) (sym (take-append-drop (at + 1) all))
    (chain_more all alts 0 from stops at met (chain_longer list more alts 0 from stops so_far) stop))

-- the stops so far of what a waiter stands for are all
pub waits_stops : (waiter : Waiter) (samples : List ℕ) (stops : List Stop) → Waits waiter samples → Chain samples (alts_of waiter) 0 stops (wait_from waiter) → AreStops samples (alts_of waiter) stops
waits_stops waiter samples stops w chain = record {
  to = wait_from waiter;
  chain = chain;
  none = subst (λ (n : ℕ). NoneMet samples (alts_of waiter) (wait_from waiter) n) (sym w.count) w.none;
}

-- a waiter that scanned through: its stops are the same, in more samples
pub scanned_through : (old new : Waiter) (samples more : List ℕ) (stops : List Stop) → Scanned old new (samples ++ more) Through → alts_of new ≡ alts_of old
    → Chain samples (alts_of old) 0 stops (wait_from old) → Waits new (samples ++ more) × Chain (samples ++ more) (alts_of new) 0 stops (wait_from new)
scanned_through old new samples more stops scanned alts chain = (
  scanned.0,
  subst (λ (l : List Alt). Chain (samples ++ more) l 0 stops (wait_from new)) (sym alts)
      (subst (λ (n : ℕ). Chain (samples ++ more) (alts_of old) 0 stops n) (sym scanned.1) (chain_longer samples more (alts_of old) 0 (wait_from old) stops chain)),
)

-- a waiter that stopped: one stop more, in the samples up to it
pub scanned_met : (old new : Waiter) (samples more : List ℕ) (stops : List Stop) (at value met : ℕ) (rest : Option Run) → Scanned old new (samples ++ more) (Met at value met rest) → alts_of new ≡ alts_of old
    → Chain samples (alts_of old) 0 stops (wait_from old)
    → Waits new (take (at + 1) (samples ++ more)) × Chain (take (at + 1) (samples ++ more)) (alts_of new) 0 (stops ++ (at, met) ∷ []) (wait_from new) × (samples ++ more ≡ take (at + 1) (samples ++ more) ++ rest_samples rest)
scanned_met old new samples more stops at value met rest scanned alts chain = (
  scanned.3,
  subst (λ (l : List Alt). Chain (take (at + 1) (samples ++ more)) l 0 (stops ++ (at, met) ∷ []) (wait_from new)) (sym alts)
      (subst (λ (n : ℕ). Chain (take (at + 1) (samples ++ more)) (alts_of old) 0 (stops ++ (at, met) ∷ []) n) (sym scanned.4) (chain_met samples more (alts_of old) (wait_from old) at met stops chain scanned.0)),
  scanned.2,
)
