-- The pulses of a line, with one more sample.
use Rattle.std.proofs.Common.{◌≡◌, inl, inr, ℕ, suc, ◌+◌, ◌≤◌, ◌<◌, Bool, true, false, List, [], ◌∷◌, ◌++◌, length, slice_index, Option, Some, None, refl, sym, ◌∙◌, ap, subst, arith, append_assoc, length-append}
use Rattle.std.specs.Prelude.{not}
use Rattle.std.proofs.Math.Seq.{get_or-append_seam}
use Rattle.std.proofs.lemmas.Bool.{true≢false, cases_lt}
use Rattle.std.proofs.lemmas.List.{append-nil, get_or_append_left}
use Rattle.la_base.specs.Samples.{is_high, before_of}
use Rattle.list_cuts.specs.Neighbours.{last_of}
use Rattle.list_cuts.proofs.NeighbourLaws.{at_neighbours_push, last_from_push}
use Rattle.sample_walks.specs.laws.WalkLaws.{last_before}
use Rattle.dec_onewire.specs.Link.{Edge, To, Pulse, edge_by, edge_at, edges, pulse_at, pulses}
use Rattle.dec_onewire.specs.Shapes.{IsPulse, StandsIn, ArePulses}

-- what stands in a longer list
in_longer : (pulse : Pulse) (list more : List Pulse) → StandsIn pulse list → StandsIn pulse (list ++ more)
in_longer pulse list more at = (at.0, at.1 ++ more, ap (λ (l : List Pulse). l ++ more) at.2 ∙ append_assoc at.0 (pulse ∷ at.1) more)

-- a pulse that stands in a list with one more is in the list, or is that one
data Where (pulse last : Pulse) (list : List Pulse) : Type 0 where
  Among : StandsIn pulse list → Where pulse last list
  TheLast : last ≡ pulse → Where pulse last list

head_or : Pulse → List Pulse → Pulse
head_or other [] = other
head_or other (p ∷ ps) = p

tail_of : List Pulse → List Pulse
tail_of [] = []
tail_of (p ∷ ps) = ps

where_is : (list : List Pulse) (pulse last : Pulse) (front back : List Pulse) → list ++ last ∷ [] ≡ front ++ pulse ∷ back → Where pulse last list
unfolding head_or tail_of
where_is [] pulse last [] back is = TheLast (ap (head_or last) is)
where_is [] pulse last (f ∷ front) back is = absurd (none front (ap tail_of is))
  where
    none : (front : List Pulse) → [] ≡ front ++ pulse ∷ back → ⊥
    none [] e = absurd cc
    none (g ∷ front) e = absurd cc
where_is (p ∷ list) pulse last [] back is = Among ([], list, ap (λ (q : Pulse). q ∷ list) (ap (head_or last) is))
where_is (p ∷ list) pulse last (f ∷ front) back is = by (where_is list pulse last front back (ap tail_of is))
  where
    by : Where pulse last list → Where pulse last (p ∷ list)
    by (Among at) = Among (p ∷ at.0, at.1, ap (λ (l : List Pulse). p ∷ l) at.2)
    by (TheLast same) = TheLast same

module _ (line : ℕ) where
  abbrev high_at : List ℕ → ℕ → Bool
  high_at samples k = is_high (slice_index samples k) line

  -- what is known of the line behind its last edge
  abbrev Level : List ℕ → Option Edge → Type 0
  Level samples None = (k j : ℕ) → k < length samples → j < length samples → high_at samples k ≡ high_at samples j
  Level samples (Some (To e level)) =
      (last : ℕ) × (e ≡ suc last) × (e < length samples) × (high_at samples last ≡ not level) × ((k : ℕ) → e ≤ k → k < length samples → high_at samples k ≡ level)

  record Seen (samples : List ℕ) (last : Option Edge) (list : List Pulse) : Type 0 where
    pub level : Level samples last
    pub are : ArePulses line samples list

  module _ (samples : List ℕ) (now : ℕ) where
    abbrev longer : List ℕ
    longer = samples ++ now ∷ []

    abbrev n : ℕ
    n = length samples

    len : length longer ≡ length samples + 1
    len = length-append samples (now ∷ [])

    same_at : (k : ℕ) → k < n → high_at longer k ≡ high_at samples k
    same_at k within = ap (λ (v : ℕ). is_high v line) (get_or_append_left samples (now ∷ []) 0 k within)

    now_at : high_at longer n ≡ is_high now line
    now_at = ap (λ (v : ℕ). is_high v line) (get_or-append_seam samples now [] 0)

    -- a pulse goes on to be one, and is one of the front if it ends there
    stays : (pulse : Pulse) → IsPulse line samples pulse → IsPulse line longer pulse
    stays pulse is = record {
      last_high = is.last_high;
      follows = is.follows;
      falls = same_at is.last_high (omega (arith, is.follows, is.some, is.within)) ∙ is.falls;
      some = is.some;
      low = λ k after before. same_at k (omega (arith, before, is.within)) ∙ is.low k after before;
      rises = same_at pulse.rise is.within ∙ is.rises;
      within = omega (arith, is.within, len);
    }

    was : (pulse : Pulse) → IsPulse line longer pulse → pulse.rise < n → IsPulse line samples pulse
    was pulse is within = record {
      last_high = is.last_high;
      follows = is.follows;
      falls = sym (same_at is.last_high (omega (arith, is.follows, is.some, within))) ∙ is.falls;
      some = is.some;
      low = λ k after before. sym (same_at k (omega (arith, before, within))) ∙ is.low k after before;
      rises = sym (same_at pulse.rise within) ∙ is.rises;
      within = within;
    }

    -- where no pulse ends at the new sample, the pulses are the same
    no_more : (list : List Pulse) → ArePulses line samples list → ((pulse : Pulse) → IsPulse line longer pulse → pulse.rise ≡ n → ⊥) → ArePulses line longer list
    no_more list are none = (
      λ pulse at. stays pulse (are.0 pulse at),
      λ pulse is. elim (cases_lt pulse.rise n) [
        | inl within ↦ are.1 pulse (was pulse is within)
        | inr last ↦ absurd (none pulse is (omega (arith, last, is.within, len)))
      ],
    )

    -- the sample before it, if a pulse ends at the new one: it is low
    module _ (pulse : Pulse) (is : IsPulse line longer pulse) (ends : pulse.rise ≡ n) where
      now_high : is_high now line ≡ true
      now_high = sym now_at ∙ ap (λ (k : ℕ). high_at longer k) (sym ends) ∙ is.rises

      before_low : (k : ℕ) → pulse.fall ≤ k → k < n → high_at samples k ≡ false
      before_low k after within = sym (same_at k within) ∙ is.low k after (omega (arith, within, ends))

      high_before : high_at samples is.last_high ≡ true
      high_before = sym (same_at is.last_high (omega (arith, is.follows, is.some, ends))) ∙ is.falls

    -- with a sample before it
    module _ (k : ℕ) (some : n ≡ suc k) (b : Bool) (b_is : is_high now line ≡ b) where
      abbrev before : Bool
      before = high_at samples k

      -- no edge
      module _ (same : high_at samples k ≡ b) where
        level_stays : (last : Option Edge) → Level samples last → Level longer last
        level_stays None level = λ i j i_in j_in. to_k i i_in ∙ sym (to_k j j_in)
          where
            to_k : (i : ℕ) → i < length longer → high_at longer i ≡ high_at samples k
            to_k i i_in = elim (cases_lt i n) [
              | inl within ↦ same_at i within ∙ level i k within (omega (arith, some))
              | inr last ↦ (let is : i ≡ n = omega (arith, last, i_in, len) in ap (λ (j : ℕ). high_at longer j) is ∙ now_at ∙ b_is ∙ sym same)
            ]
        level_stays (Some (To e own)) level = (
          level.0,
          level.1,
          omega (arith, level.2, len),
          same_at level.0 (omega (arith, level.1, level.2)) ∙ level.3,
          λ i after i_in. elim (cases_lt i n) [
            | inl within ↦ same_at i within ∙ level.4 i after within
            | inr last ↦ (let is : i ≡ n = omega (arith, last, i_in, len) in
                ap (λ (j : ℕ). high_at longer j) is ∙ now_at ∙ b_is ∙ sym same ∙ level.4 k (omega (arith, level.2, some)) (omega (arith, some)))
          ],
        )

        none_ends : (pulse : Pulse) → IsPulse line longer pulse → pulse.rise ≡ n → ⊥
        none_ends pulse is ends =
            let low : high_at samples k ≡ false = before_low pulse is ends k (omega (arith, is.some, ends, some)) (omega (arith, some)) in
            true≢false (sym (now_high pulse is ends) ∙ b_is ∙ sym same ∙ low)

      -- an edge
      module _ (other : high_at samples k ≡ not b) where
        level_new : Level longer (Some (To n b))
        level_new = (
          k,
          some,
          omega (arith, len),
          same_at k (omega (arith, some)) ∙ other,
          λ i after i_in. let is : i ≡ n = omega (arith, after, i_in, len) in ap (λ (j : ℕ). high_at longer j) is ∙ now_at ∙ b_is,
        )

  -- a fall ends no pulse
  falling : (place at : ℕ) (last : Option Edge) → pulse_at place last (To at false) ≡ []
  falling place at None = refl
  falling place at (Some (To f true)) = refl
  falling place at (Some (To f false)) = refl

  -- a rise ends the one that is open
  module _ (samples : List ℕ) (now k : ℕ) (some : length samples ≡ suc k) (was_low : high_at samples k ≡ false) (is_now : is_high now line ≡ true) where
    abbrev all : List ℕ
    all = samples ++ now ∷ []

    abbrev size : ℕ
    size = length samples

    module _ (f : ℕ) (level : Level samples (Some (To f false))) where
      abbrev new : Pulse
      new = record { fall = f; rise = size }

      new_is : IsPulse line all new
      new_is = record {
        last_high = level.0;
        follows = level.1;
        falls = same_at samples now level.0 (omega (arith, level.1, level.2)) ∙ level.3;
        some = level.2;
        low = λ i after before. same_at samples now i before ∙ level.4 i after before;
        rises = now_at samples now ∙ is_now;
        within = omega (arith, len samples now);
      }

      -- no other one ends there
      fall_is : (pulse : Pulse) → IsPulse line all pulse → pulse.rise ≡ size → pulse.fall ≡ f
      fall_is pulse is ends = elim (cases_lt pulse.fall f) [
        | inl less ↦ (let low = before_low samples now pulse is ends level.0 (omega (arith, less, level.1)) (omega (arith, level.1, level.2)) in absurd (true≢false (sym level.3 ∙ low)))
        | inr most ↦ elim (cases_lt f pulse.fall) [
          | inl less ↦
              (let low = level.4 is.last_high (omega (arith, less, is.follows)) (omega (arith, is.follows, is.some, ends)) in
              absurd (true≢false (sym (high_before samples now pulse is ends) ∙ low)))
          | inr least ↦ omega (arith, most, least)
        ]
      ]

      one_pulse : (list : List Pulse) → ArePulses line samples list → ArePulses line all (list ++ new ∷ [])
      one_pulse list are = (
        λ pulse at. by pulse (where_is list pulse new at.0 at.1 at.2),
        λ pulse is. elim (cases_lt pulse.rise size) [
          | inl within ↦ in_longer pulse list (new ∷ []) (are.1 pulse (was samples now pulse is within))
          | inr last ↦
              (let ends : pulse.rise ≡ size = omega (arith, last, is.within, len samples now) in
              let fall = fall_is pulse is ends in
              (list, [], λ i. list ++ record { fall = sym fall i; rise = sym ends i } ∷ []))
        ],
      )
        where
          by : (pulse : Pulse) → Where pulse new list → IsPulse line all pulse
          by pulse (Among at) = stays samples now pulse (are.0 pulse at)
          by pulse (TheLast same) = subst (IsPulse line all) same new_is

    rising : (place : ℕ) (last : Option Edge) (list : List Pulse) → Level samples last → ArePulses line samples list → ArePulses line all (list ++ pulse_at place last (To size true))
    rising place None list level are =
        subst (ArePulses line all) (sym (append-nil list))
        (no_more samples now list are (λ pulse is ends.
        let below : is.last_high < size = omega (arith, is.follows, is.some, ends) in
        let here : k < size = omega (arith, some) in
        true≢false (sym (high_before samples now pulse is ends) ∙ level is.last_high k below here ∙ was_low)))
    rising place (Some (To f true)) list level are =
        let after : f ≤ k = omega (arith, level.2, some) in
        let here : k < size = omega (arith, some) in
        absurd (true≢false (sym (level.4 k after here) ∙ was_low))
    rising place (Some (To f false)) list level are = one_pulse f level list are

  none_in : (pulse : Pulse) → StandsIn pulse [] → ⊥
  none_in pulse at = by at.0 at.2
    where
      by : (front : List Pulse) → [] ≡ front ++ pulse ∷ at.1 → ⊥
      by [] is = absurd cc
      by (p ∷ front) is = absurd cc

  abbrev Told : List ℕ → List Edge → Type 0
  Told samples es = Seen samples (last_of es) (pulses es)

  -- one more sample behind others
  module _ (samples : List ℕ) (now k : ℕ) (some : length samples ≡ suc k) (seen : Told samples (edges line samples)) where
    abbrev es : List Edge
    es = edges line samples

    last_is : last_of samples ≡ Some (slice_index samples k)
    last_is = last_before samples [] ∙ (λ i. before_of (append-nil samples i) (some i))

    edges_are : (a b : Bool) → high_at samples k ≡ a → is_high now line ≡ b → edges line (samples ++ now ∷ []) ≡ edges line samples ++ edge_by (length samples) a b
    edges_are a b a_is b_is =
        at_neighbours_push (edge_at line) samples now
        ∙ ap (λ (l : List Edge). edges line samples ++ l)
        (ap (λ (o : Option ℕ). edge_at line (length samples) o now) last_is ∙ (λ i. edge_by (length samples) (a_is i) (b_is i)))

    stay : (b : Bool) → high_at samples k ≡ b → is_high now line ≡ b → Seen (samples ++ now ∷ []) (last_of (edges line samples)) (pulses (edges line samples))
    stay b a_is b_is = record {
      level = level_stays samples now k some b b_is a_is (last_of es) seen.level;
      are = no_more samples now (pulses es) seen.are (none_ends samples now k some b b_is a_is);
    }

    -- an edge is the last one, and may end a pulse
    edge_told : (b : Bool) → high_at samples k ≡ not b → is_high now line ≡ b → ArePulses line (samples ++ now ∷ []) (pulses es ++ pulse_at (length es) (last_of es) (To (length samples) b)) → Told (samples ++ now ∷ []) (es ++ To (length samples) b ∷ [])
    edge_told b a_is b_is are = record {
      level = subst (Level (samples ++ now ∷ [])) (sym (last_from_push es (To (length samples) b) None)) (level_new samples now k some b b_is a_is);
      are = subst (ArePulses line (samples ++ now ∷ [])) (sym (at_neighbours_push pulse_at es (To (length samples) b))) are;
    }

    one_behind : (a b : Bool) → high_at samples k ≡ a → is_high now line ≡ b → Told (samples ++ now ∷ []) (edges line (samples ++ now ∷ []))
    one_behind a b a_is b_is = subst (Told (samples ++ now ∷ [])) (sym (edges_are a b a_is b_is)) (by a b a_is b_is)
      where
        by : (a b : Bool) → high_at samples k ≡ a → is_high now line ≡ b → Told (samples ++ now ∷ []) (edges line samples ++ edge_by (length samples) a b)
        by false false a_is b_is = subst (Told (samples ++ now ∷ [])) (sym (append-nil es)) (stay false a_is b_is)
        by true true a_is b_is = subst (Told (samples ++ now ∷ [])) (sym (append-nil es)) (stay true a_is b_is)
        by true false a_is b_is =
            edge_told false a_is b_is
            (subst (ArePulses line (samples ++ now ∷ [])) (sym (ap (λ (l : List Pulse). pulses es ++ l) (falling (length es) (length samples) (last_of es)) ∙ append-nil (pulses es)))
            (no_more samples now (pulses es) seen.are (λ pulse is ends. true≢false (sym (now_high samples now pulse is ends) ∙ b_is))))
        by false true a_is b_is = edge_told true a_is b_is (rising samples now k some a_is b_is (length es) (last_of es) (pulses es) seen.level seen.are)

  one_more : (samples : List ℕ) (now : ℕ) → Told samples (edges line samples) → Told (samples ++ now ∷ []) (edges line (samples ++ now ∷ []))
  one_more [] now seen = record {
    level = λ i j i_in j_in. let same : i ≡ j = omega (arith, i_in, j_in) in ap (λ (k : ℕ). high_at (now ∷ []) k) same;
    are = (λ pulse at. absurd (none_in pulse at), λ pulse is. absurd (omega (arith, is.within, is.some, is.follows)));
  }
  one_more (x ∷ xs) now seen = one_behind (x ∷ xs) now (length xs) refl seen (high_at (x ∷ xs) (length xs)) (is_high now line) refl refl

  told_more : (more samples : List ℕ) → Told samples (edges line samples) → Told (samples ++ more) (edges line (samples ++ more))
  told_more [] samples seen = subst (λ (l : List ℕ). Told l (edges line l)) (sym (append-nil samples)) seen
  told_more (now ∷ more) samples seen = subst (λ (l : List ℕ). Told l (edges line l)) (append_assoc samples (now ∷ []) more) (told_more more (samples ++ now ∷ []) (one_more samples now seen))

  nothing : Told [] (edges line [])
  nothing = record {
    level = λ i j i_in j_in. absurd (omega (arith, i_in));
    are = (λ pulse at. absurd (none_in pulse at), λ pulse is. absurd (omega (arith, is.within)));
  }

  pub are_pulses : (samples : List ℕ) → ArePulses line samples (pulses (edges line samples))
  are_pulses samples = (told_more samples [] nothing).are
