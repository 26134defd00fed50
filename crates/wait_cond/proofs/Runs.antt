-- A wait over a run of equal samples.
use Rattle.std.proofs.Common.{◌≡◌, ◌≢◌, inl, inr, ℕ, zero, suc, ◌+◌, ◌-◌, ◌≤◌, ◌<◌, List, [], ◌∷◌, ◌++◌, length, take, drop, replicate, get_or, slice_index, Option, Some, None, Bool, false, if◌then◌else◌, ◌==◌, refl, sym, ◌∙◌, ap, subst, arith, length-append, length-take-le, take-append-drop}
use Rattle.std.proofs.lemmas.List.{get_or-take, drop-drop, drop_at, drop-replicate, length-replicate, get_or_append_left, get_or-append-add, get_or-replicate}
use Rattle.std.proofs.lemmas.Bool.{cases_eq, cases_lt}
use Rattle.std.proofs.lemmas.Nat.Bits.{bit_at-zero}
use Rattle.std.proofs.lemmas.Bool.Decides.{nat_tests}
use Rattle.wait_cond.specs.Stops.{MetSet, MetIn, NoneMet, IsStop}
use Rattle.wait_cond.specs.Standing.{FirstStanding}
use Rattle.wait_cond.specs.Watching.{SkipMore}
use Rattle.wait_cond.specs.Waiting.{WaitsAt}
use Rattle.la_base.specs.declared.samples.Run.{Run}
use Rattle.la_base.specs.Samples.{samples, before_of}
use Rattle.wait_cond.specs.declared.alt.Alt.{Alt}

suc_not_zero : (n : ℕ) → (suc n == 0) ≡ false
suc_not_zero n = grind (arith, nat_tests)

-- the sample before the first one of a run that follows a list
before_first : (list more : List ℕ) (last : ℕ) → (0 < length list → slice_index list (length list - 1) ≡ last) → before_of (list ++ more) (length list + 0) ≡ (if length list == 0 then None else Some last)
before_first [] more last last_is = refl
before_first (x ∷ list) more last last_is =
    let next : length (x ∷ list) + 0 ≡ suc (length list) = omega arith in
    let behind : length (x ∷ list) - 1 ≡ length list = omega arith in
    ap (λ (n : ℕ). before_of ((x ∷ list) ++ more) n) next
    ∙ (ap (λ (n : ℕ). Some n) (get_or_append_left (x ∷ list) more 0 (length list) (omega arith) ∙ ap (λ (n : ℕ). slice_index (x ∷ list) n) (sym behind) ∙ last_is (omega arith)))
    ∙ sym (ap (λ (b : Bool). if◌then◌else◌ {A = Option ℕ} b None (Some last)) (suc_not_zero (length list)))

module _ (list more : List ℕ) (value len : ℕ) (is : more ≡ replicate len value) where
  more_len : length more ≡ len
  more_len = ap length is ∙ length-replicate len value

  pub whole_len : length (list ++ more) ≡ length list + len
  whole_len = omega (arith, length-append list more, more_len)

  pub now_is : (k : ℕ) → k < len → slice_index (list ++ more) (length list + k) ≡ value
  now_is k within = get_or-append-add list more k 0 ∙ ap (λ (l : List ℕ). get_or l k 0) is ∙ get_or-replicate len k value 0 within

  -- the sample before sample k of the run
  pub before_is : (k last : ℕ) → k < len → (0 < length list → slice_index list (length list - 1) ≡ last)
      → before_of (list ++ more) (length list + k) ≡ (if k == 0 then (if length list == 0 then None else Some last) else Some value)
  before_is zero last within last_is = before_first list more last last_is
  before_is (suc k) last within last_is =
      let next : length list + suc k ≡ suc (length list + k) = omega arith in
      ap (λ (n : ℕ). before_of (list ++ more) n) next ∙ ap (λ (n : ℕ). Some n) (now_is k (omega arith))
      ∙ sym (ap (λ (b : Bool). if◌then◌else◌ {A = Option ℕ} b (if length list == 0 then None else Some last) (Some value)) (suc_not_zero k))

  -- the same, where the list is that of a waiter
  pub waits_before : (alts : List Alt) (consumed from last k : ℕ) → WaitsAt alts consumed from last list → k < len
      → (if k == 0 then (if consumed == 0 then None else Some last) else Some value) ≡ before_of (list ++ more) (length list + k)
  waits_before alts consumed from last k w within =
      ap (λ (n : ℕ). if◌then◌else◌ {A = Option ℕ} (k == 0) (if◌then◌else◌ {A = Option ℕ} (n == 0) None (Some last)) (Some value)) (sym w.count)
      ∙ sym (before_is k last within (λ _. ap (λ (n : ℕ). slice_index list (n - 1)) w.count ∙ sym w.last_is))

  -- what is met at sample k
  pub met_at : (alts : List Alt) (from k : ℕ) (before : Option ℕ) (met : ℕ) → k < len → before ≡ before_of (list ++ more) (length list + k) → MetSet alts before value from (length list + k) met → MetIn (list ++ more) alts from (length list + k) met
  met_at alts from k before met within same set =
      subst (λ (o : Option ℕ). MetSet alts o (slice_index (list ++ more) (length list + k)) from (length list + k) met) same
      (subst (λ (n : ℕ). MetSet alts before n from (length list + k) met) (sym (now_is k within)) set)

  -- one more sample, at which none is met
  pub none_next : (alts : List Alt) (from k : ℕ) → MetIn (list ++ more) alts from (length list + k) 0 → NoneMet (list ++ more) alts from (length list + k) → NoneMet (list ++ more) alts from (length list + (k + 1))
  none_next alts from k here none q after below =
      elim (cases_eq q (length list + k)) [
        | inl same ↦ subst (λ (n : ℕ). MetIn (list ++ more) alts from n 0) (sym same) here
        | inr other ↦ none q after (omega arith)
      ]

  -- while each alternative skips more samples, none is met
  pub none_skipped : (alts : List Alt) (from end samples : ℕ) → SkipMore samples alts → end ≤ from + samples → NoneMet (list ++ more) alts from end
  none_skipped alts from end samples skips near q after below = record {
    each = λ i one. absurd (omega (arith, one, bit_at-zero i));
    all = λ i alt there meets. let more = skips i alt there in absurd (omega (arith, more, meets.skipped (λ none. omega (arith, more, none)), near, below));
  }

  -- behind the first sample of the run the value stands
  before_standing : (k : ℕ) → k < len → 0 < k → before_of (list ++ more) (length list + k) ≡ Some value
  before_standing zero within some = absurd (omega (arith, some))
  before_standing (suc k) within some =
      let next : length list + suc k ≡ suc (length list + k) = omega arith in
      ap (λ (n : ℕ). before_of (list ++ more) n) next ∙ ap (λ (n : ℕ). Some n) (now_is k (omega arith))

  -- what is met at a sample behind the first one
  pub standing_at : (alts : List Alt) (from at met : ℕ) → length list < at → at < length list + len → MetSet alts (Some value) value from at met → MetIn (list ++ more) alts from at met
  standing_at alts from at met after within set =
      let k = at - length list in
      let place : length list + k ≡ at = omega (arith, after) in
      subst (λ (n : ℕ). MetIn (list ++ more) alts from n met) place
      (met_at alts from k (Some value) met (omega arith) (sym (before_standing k (omega arith) (omega arith))) (subst (λ (n : ℕ). MetSet alts (Some value) value from n met) (sym place) set))

  -- none is met before the first sample at which a standing value meets one
  pub none_standing : (alts : List Alt) (from first : ℕ) → NoneMet (list ++ more) alts from (length list + 1) → FirstStanding alts value from (length list + 1) (length list + len) first
      → NoneMet (list ++ more) alts from first
  none_standing alts from first none standing q after below = elim (cases_lt q (length list + 1)) [
    | inl less ↦ none q after less
    | inr least ↦ standing_at alts from q 0 (omega arith) (omega (arith, below, standing.within)) (record {
      each = λ i one. absurd (omega (arith, one, bit_at-zero i));
      all = λ i alt there meets. absurd (standing.none q least below (i, alt, there, meets));
    })
  ]

  -- the samples behind sample k
  pub rest_is : (k : ℕ) → k < len → (rest : List ℕ) → rest ≡ replicate (len - k - 1) value → list ++ more ≡ take (length list + k + 1) (list ++ more) ++ rest
  rest_is k within rest same =
      let n = length list + k + 1 in
      let cut : n ≡ length list + (k + 1) = omega arith in
      let left : len - k - 1 ≡ len - (k + 1) = omega arith in
      sym (take-append-drop n (list ++ more))
      ∙ ap (λ (l : List ℕ). take n (list ++ more) ++ l)
      (ap (λ (m : ℕ). drop m (list ++ more)) cut ∙ sym (drop-drop (k + 1) (length list) (list ++ more))
      ∙ ap (λ (l : List ℕ). drop (k + 1) l) (drop_at list more (length list) refl)
      ∙ ap (λ (l : List ℕ). drop (k + 1) l) is ∙ drop-replicate (k + 1) len value
      ∙ ap (λ (m : ℕ). replicate m value) (sym left) ∙ sym same)

  -- the whole run was looked at
  pub through : (alts : List Alt) (consumed from last : ℕ) → 0 < len → WaitsAt alts consumed from last list → NoneMet (list ++ more) alts from (length list + len) → WaitsAt alts (consumed + len) from value (list ++ more)
  through alts consumed from last some w none = record {
    count = omega (arith, whole_len, w.count);
    stop = omega (arith, w.stop);
    last_is = sym (ap (λ (n : ℕ). slice_index (list ++ more) n) (last_place w.count) ∙ now_is (len - 1) (omega arith));
    none = subst (λ (n : ℕ). NoneMet (list ++ more) alts from n) (ap (λ (n : ℕ). n + len) w.count) none;
  }
    where
      last_place : length list ≡ consumed → consumed + len - 1 ≡ length list + (len - 1)
      last_place e = omega arith

  -- the wait stopped at sample k
  pub stopped : (alts : List Alt) (consumed from last k met : ℕ) → k < len → WaitsAt alts consumed from last list → NoneMet (list ++ more) alts from (length list + k) → MetIn (list ++ more) alts from (length list + k) met → met ≢ 0
      → IsStop (list ++ more) alts from (length list + k) met × WaitsAt alts (length list + k + 1) (length list + k + 1) value (take (length list + k + 1) (list ++ more))
  stopped alts consumed from last k met within w none set some =
      let n = length list + k + 1 in
      let fits : n ≤ length (list ++ more) = omega (arith, whole_len) in (
        record { after = omega (arith, w.stop, w.count); within = omega (arith, whole_len); set = set; some = some; first = none },
        record {
          count = length-take-le n (list ++ more) fits;
          stop = omega arith;
          last_is = sym (at_last n fits (omega arith));
          none = λ q after below. absurd (omega arith);
        },
      )
    where
      at_last : (n : ℕ) → n ≤ length (list ++ more) → n ≡ length list + k + 1 → slice_index (take n (list ++ more)) (n - 1) ≡ value
      at_last n fits e =
          let place : n - 1 ≡ length list + k = omega arith in
          get_or-take n (list ++ more) (n - 1) 0 (omega arith) ∙ ap (λ (m : ℕ). slice_index (list ++ more) m) place ∙ now_is k within

  -- the same, counted from what was consumed
  pub stop_at : (alts : List Alt) (consumed from last k met : ℕ) → k < len → WaitsAt alts consumed from last list → NoneMet (list ++ more) alts from (length list + k) → MetIn (list ++ more) alts from (length list + k) met → met ≢ 0
      → (rest : List ℕ) → rest ≡ replicate (len - k - 1) value
      → IsStop (list ++ more) alts from (consumed + k) met × (value ≡ slice_index (list ++ more) (consumed + k)) × (list ++ more ≡ take (consumed + k + 1) (list ++ more) ++ rest) × WaitsAt alts (consumed + k + 1) (consumed + k + 1) value (take (consumed + k + 1) (list ++ more)) × (consumed + k + 1 ≡ consumed + k + 1)
  stop_at alts consumed from last k met within w none set some rest is_rest =
      let s = stopped alts consumed from last k met within w none set some in
      subst (λ (n : ℕ). IsStop (list ++ more) alts from (n + k) met × (value ≡ slice_index (list ++ more) (n + k)) × (list ++ more ≡ take (n + k + 1) (list ++ more) ++ rest) × WaitsAt alts (n + k + 1) (n + k + 1) value (take (n + k + 1) (list ++ more)) × (n + k + 1 ≡ n + k + 1)) w.count
      (s.0, sym (now_is k within), rest_is k within rest is_rest, s.1, refl)

pub samples_are : (run : Run) → samples run ≡ replicate run.len run.value
unfolding samples
samples_are run = refl

-- a wait that begins behind a run
pub begun : (list : List ℕ) (run : Run) (alts : List Alt) (before now : ℕ) → length list ≡ before → before + run.len ≡ now → WaitsAt alts now now run.value (list ++ samples run)
begun list run alts before now count is = record {
  count = omega (arith, count, is, whole_len list (samples run) run.value run.len (samples_are run));
  stop = omega arith;
  last_is = sym (ap (λ (n : ℕ). slice_index (list ++ samples run) n) place ∙ now_is list (samples run) run.value run.len (samples_are run) (run.len - 1) (omega (arith, run.not_empty)));
  none = λ q after below. absurd (omega (arith, after, below));
}
  where
    place : now - 1 ≡ length list + (run.len - 1)
    place = omega (arith, count, is, run.not_empty)
