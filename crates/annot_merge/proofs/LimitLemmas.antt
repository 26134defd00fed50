-- The limit of bounds, when one more joins them or one changes.
use Rattle.std.proofs.Common.{◌≡◌, ◌≢◌, ◌⊎◌, inl, inr, ℕ, zero, suc, ◌+◌, ◌≤◌, ◌<◌, List, [], ◌∷◌, ◌++◌, length, set, Option, Some, None, refl, sym, ◌∙◌, ap, subst, arith}
use Rattle.std.specs.List.{slice_get}
use Rattle.std.proofs.lemmas.Bool.{cases_eq, cases_lt}
use Rattle.std.proofs.lemmas.Option.{none-some, same_Some}
use Rattle.std.proofs.lemmas.List.{length-set}
use Rattle.note_order.specs.declared.entry.Entry.{Entry}
use Rattle.annot_merge.specs.Bounds.{Allows}
use Rattle.annot_merge.specs.Limits.{IsBefore, IsBelow, IsLimit, IsNext, IsNone, IsOneOf, Leads, NoOther}
use Rattle.annot_merge.specs.declared.limit.Lead.{Lead}
use Rattle.annot_merge.specs.declared.limit.Limit.{Limit}

-- an element of a list with one more at its end
get_push_cases : {X : Type 0} (xs : List X) (b : X) (j : ℕ) (y : X) → slice_get (xs ++ b ∷ []) j ≡ Some y → (slice_get xs j ≡ Some y) ⊎ ((j ≡ length xs) × (b ≡ y))
get_push_cases [] b zero y is = inr (refl, same_Some b y is)
get_push_cases [] b (suc j) y is = absurd (none-some y is)
get_push_cases (x ∷ xs) b zero y is = inl is
get_push_cases (x ∷ xs) b (suc j) y is = elim (get_push_cases xs b j y is) [
  | inl at ↦ inl at
  | inr last ↦ inr (omega (arith, last.0), last.1)
]

get_front : {X : Type 0} (xs : List X) (b : X) (j : ℕ) (y : X) → slice_get xs j ≡ Some y → slice_get (xs ++ b ∷ []) j ≡ Some y
get_front [] b j y is = absurd (none-some y is)
get_front (x ∷ xs) b zero y is = is
get_front (x ∷ xs) b (suc j) y is = get_front xs b j y is

get_last : {X : Type 0} (xs : List X) (b : X) (j : ℕ) → length xs ≡ j → slice_get (xs ++ b ∷ []) j ≡ Some b
get_last [] b zero is = refl
get_last [] b (suc j) is = absurd (omega (arith, is))
get_last (x ∷ xs) b zero is = absurd (omega (arith, is))
get_last (x ∷ xs) b (suc j) is = get_last xs b j (omega (arith, is))

-- an element behind a write
pub get_set_other : {X : Type 0} (xs : List X) (i : ℕ) (v : X) (j : ℕ) → j ≢ i → slice_get (set xs i v) j ≡ slice_get xs j
get_set_other [] i v j differ = refl
get_set_other (x ∷ xs) zero v zero differ = absurd (differ refl)
get_set_other (x ∷ xs) zero v (suc j) differ = refl
get_set_other (x ∷ xs) (suc i) v zero differ = refl
get_set_other (x ∷ xs) (suc i) v (suc j) differ = get_set_other xs i v j (λ same. differ (omega (arith, same)))

pub get_set_here : {X : Type 0} (xs : List X) (i : ℕ) (v : X) → i < length xs → slice_get (set xs i v) i ≡ Some v
get_set_here [] i v within = absurd (omega (arith, within))
get_set_here (x ∷ xs) zero v within = refl
get_set_here (x ∷ xs) (suc i) v within = get_set_here xs i v (omega (arith, within))

-- what is at a limit or behind it is so for a lower one
pub below_lower : (limit lower : Limit) (bound : Option ℕ) (j : ℕ) → lower.start ≤ limit.start → (lower.start ≡ limit.start → lower.instance < limit.instance) → IsBelow limit bound j → IsBelow lower bound j
below_lower limit lower None j start instance below = tt
below_lower limit lower (Some floor) j start instance below = (omega (arith, start, below.0), λ at. let b = below.1 in let i = instance in omega (arith, at, start, below.0, b, i))

-- one more bound, which is the least
pub nearer_lower : (limit lower : Limit) (bound : Option ℕ) → bound ≡ Some lower.start → lower.start ≤ limit.start → (lower.start ≡ limit.start → lower.instance < limit.instance)
    → (bounds : List (Option ℕ)) → length bounds ≡ lower.instance → IsLimit bounds limit → IsLimit (bounds ++ bound ∷ []) lower
nearer_lower limit lower bound is start instance bounds len was = record {
  within = λ j one at. elim (get_push_cases bounds bound j one at) [
    | inl before ↦ below_lower limit lower one j start instance (was.within j one before)
    | inr last ↦ subst (λ b. IsBelow lower b j) (sym is ∙ last.1) (omega arith, λ _. omega (arith, last.0, len))
  ];
  reached = inl (get_last bounds bound lower.instance len ∙ ap (λ b. Some b) is);
}

-- one more bound, which isn't before the limit
pub nearer_same : (limit : Limit) (bound : Option ℕ) (i : ℕ) → IsBelow limit bound i → (bounds : List (Option ℕ)) → length bounds ≡ i → IsLimit bounds limit → IsLimit (bounds ++ bound ∷ []) limit
nearer_same limit bound i below bounds len was = record {
  within = λ j one at. elim (get_push_cases bounds bound j one at) [
    | inl before ↦ was.within j one before
    | inr last ↦ subst (λ b. IsBelow limit b j) last.1 (subst (λ (k : ℕ). IsBelow limit bound k) (sym len ∙ sym last.0) below)
  ];
  reached = elim was.reached [
    | inl at ↦ inl (get_front bounds bound limit.instance (Some limit.start) at)
    | inr none ↦ inr none
  ];
}

-- a bound that changes, and not before the limit
pub limit_left : (limit : Limit) (before now : List (Option ℕ)) (i : ℕ) (bound : Option ℕ) → i < length now → now ≡ set before i bound → i ≢ limit.instance → IsBelow limit bound i → IsLimit before limit → IsLimit now limit
limit_left limit before now i bound within is differ below was = record {
  within = λ j one at. elim (cases_eq j i) [
    | inl same ↦ subst (λ b. IsBelow limit b j) (here j one same at) (subst (λ (k : ℕ). IsBelow limit bound k) (sym same) below)
    | inr other ↦ was.within j one (sym (get_set_other before i bound j other) ∙ (ap (λ l. slice_get l j) (sym is) ∙ at))
  ];
  reached = elim was.reached [
    | inl at ↦ inl ((ap (λ l. slice_get l limit.instance) is ∙ get_set_other before i bound limit.instance (λ same. differ (sym same))) ∙ at)
    | inr none ↦ inr none
  ];
}
  where
    long : i < length (set before i bound) → i < length before
    long w = omega (arith, w, length-set before i bound)

    here : (j : ℕ) (one : Option ℕ) → j ≡ i → slice_get now j ≡ Some one → bound ≡ one
    here j one same at = same_Some bound one (sym (get_set_here before i bound (long (subst (λ l. i < length l) is within))) ∙ (ap (λ l. slice_get l i) (sym is) ∙ (ap (slice_get now) (sym same) ∙ at)))

-- a bound that changes to one before the limit
pub limit_lowered : (limit lower : Limit) (bound : Option ℕ) → bound ≡ Some lower.start → lower.start ≤ limit.start → (lower.start ≡ limit.start → lower.instance < limit.instance)
    → (before now : List (Option ℕ)) → now ≡ set before lower.instance bound → lower.instance < length now → IsLimit before limit → IsLimit now lower
limit_lowered limit lower bound is start instance before now set_is within was = record {
  within = λ j one at. elim (cases_eq j lower.instance) [
    | inl same ↦ subst (λ b. IsBelow lower b j) (sym is ∙ here j one same at) (omega arith, λ _. omega (arith, same))
    | inr other ↦ below_lower limit lower one j start instance (was.within j one (sym (get_set_other before lower.instance bound j other) ∙ (ap (λ l. slice_get l j) (sym set_is) ∙ at)))
  ];
  reached = inl (ap (λ l. slice_get l lower.instance) set_is ∙ (set_here ∙ ap (λ b. Some b) is));
}
  where
    set_here : slice_get (set before lower.instance bound) lower.instance ≡ Some bound
    set_here = get_set_here before lower.instance bound (long (subst (λ l. lower.instance < length l) set_is within))
      where
        long : lower.instance < length (set before lower.instance bound) → lower.instance < length before
        long w = omega (arith, w, length-set before lower.instance bound)

    here : (j : ℕ) (one : Option ℕ) → j ≡ lower.instance → slice_get now j ≡ Some one → bound ≡ one
    here j one same at = same_Some bound one (sym set_here ∙ (ap (λ l. slice_get l lower.instance) (sym set_is) ∙ (ap (slice_get now) (sym same) ∙ at)))

-- a note that the limit allows is allowed by each bound
pub allowed_by : (limit : Limit) (bound : Option ℕ) (j : ℕ) (entry : Entry) → IsBelow limit bound j → Allows (Some limit.start) limit.instance entry → Allows bound j entry
allowed_by limit None j entry below allowed = tt
allowed_by limit (Some floor) j entry below allowed =
    (omega (arith, below.0, allowed.0), λ at. let b = below.1 in let k = allowed.1 in omega (arith, at, below.0, allowed.0, b, k))

-- from an instance on, and before another, each bound is behind this start
abbrev pub AreBehind : List (Option ℕ) → ℕ → ℕ → ℕ → Type 0
AreBehind bounds start first at = (j : ℕ) (floor : ℕ) → first ≤ j → j < at → slice_get bounds j ≡ Some (Some floor) → start < floor

pub behind_more : (bounds : List (Option ℕ)) (start first at : ℕ) → AreBehind bounds start first at → ((floor : ℕ) → slice_get bounds at ≡ Some (Some floor) → start < floor) → AreBehind bounds start first (at + 1)
behind_more bounds start first at behind one j floor low high got = elim (cases_eq j at) [
  | inl same ↦ one floor (ap (slice_get bounds) (sym same) ∙ got)
  | inr differ ↦ behind j floor low (omega (arith, high, differ)) got
]

-- the first bound that is the same
pub past_is : (limit : Limit) (before now : List (Option ℕ)) (bound : Option ℕ) (at : ℕ) → now ≡ set before limit.instance bound → IsLimit before limit → limit.instance ≤ at
    → AreBehind now limit.start limit.instance at → slice_get now at ≡ Some (Some limit.start) → IsLimit now (record { start = limit.start; instance = at })
past_is limit before now bound at is was from behind here = record { within = by; reached = inl here }
  where
    by : (j : ℕ) (one : Option ℕ) → slice_get now j ≡ Some one → IsBelow (record { start = limit.start; instance = at }) one j
    by j None got = tt
    by j (Some floor) got = elim (cases_lt j at) [
      | inr past ↦ elim (cases_eq j limit.instance) [
        | inl same ↦
            let there : j ≡ at = omega (arith, same, past, from) in
            let f : floor ≡ limit.start = same_Some floor limit.start (same_Some (Some floor) (Some limit.start) (sym got ∙ (ap (slice_get now) there ∙ here))) in
            (omega (arith, f), λ e. past)
        | inr differ ↦
            let below = was.within j (Some floor) (sym (get_set_other before limit.instance bound j differ) ∙ (ap (λ l. slice_get l j) (sym is) ∙ got)) in
            (below.0, λ e. past)
      ]
      | inl low ↦ elim (cases_lt j limit.instance) [
        | inl out ↦
            let below = was.within j (Some floor) (sym (get_set_other before limit.instance bound j (λ same. omega (arith, same, out))) ∙ (ap (λ l. slice_get l j) (sym is) ∙ got)) in
            let b = below.1 in
            (below.0, λ e. absurd (omega (arith, e, b, out)))
        | inr inside ↦
            let above = behind j floor inside low got in
            (omega (arith, above), λ e. absurd (omega (arith, e, above)))
      ]
    ]

-- no other stands before a limit

-- the bound that changed
pub now_here : (before now : List (Option ℕ)) (i : ℕ) (bound : Option ℕ) → now ≡ set before i bound → i < length now → slice_get now i ≡ Some bound
now_here before now i bound is within = ap (λ l. slice_get l i) is ∙ get_set_here before i bound (long (subst (λ l. i < length l) is within))
  where
    long : i < length (set before i bound) → i < length before
    long w = omega (arith, w, length-set before i bound)

-- and the others
was_there : (before now : List (Option ℕ)) (i : ℕ) (bound : Option ℕ) → now ≡ set before i bound → (j : ℕ) (one : Option ℕ) → j ≢ i → slice_get now j ≡ Some one → slice_get before j ≡ Some one
was_there before now i bound is j one differ at = sym (get_set_other before i bound j differ) ∙ (ap (λ l. slice_get l j) (sym is) ∙ at)

-- behind the least of all, the next instance
others_behind : (bounds : List (Option ℕ)) (limit : Limit) (next : ℕ) → next ≤ limit.instance + 1 → IsLimit bounds limit → NoOther bounds limit.instance (record { start = limit.start; instance = next })
others_behind bounds limit next few is other None differ at = tt
others_behind bounds limit next few is other (Some floor) differ at =
    let below = is.within other (Some floor) at in
    let b = below.1 in
    (below.0, λ same. omega (arith, few, differ, b, same))

others_by : (before now : List (Option ℕ)) (i : ℕ) (bound : Option ℕ) (limit : Limit) → now ≡ set before i bound → IsLimit before limit → NoOther now i limit
others_by before now i bound limit is was other one differ at = was.within other one (was_there before now i bound is other one differ at)

-- one more bound, or one that changes
others_push : (bounds : List (Option ℕ)) (bound : Option ℕ) (but : ℕ) (limit moved : Limit) → ((j : ℕ) (one : Option ℕ) → IsBelow limit one j → IsBelow moved one j) → (length bounds ≢ but → IsBelow moved bound (length bounds))
    → NoOther bounds but limit → NoOther (bounds ++ bound ∷ []) but moved
others_push bounds bound but limit moved still here was other one differ at = elim (get_push_cases bounds bound other one at) [
  | inl before ↦ still other one (was other one differ before)
  | inr last ↦ subst (λ b. IsBelow moved b other) last.1 (subst (λ (k : ℕ). IsBelow moved bound k) (sym last.0) (here (λ same. differ (last.0 ∙ same))))
]

others_set : (before now : List (Option ℕ)) (i : ℕ) (bound : Option ℕ) (but : ℕ) (limit moved : Limit) → now ≡ set before i bound → i < length now → ((j : ℕ) (one : Option ℕ) → IsBelow limit one j → IsBelow moved one j) → IsBelow moved bound i
    → NoOther before but limit → NoOther now but moved
others_set before now i bound but limit moved is within still here was other one differ at = elim (cases_eq other i) [
  | inl same ↦ subst (λ b. IsBelow moved b other) (same_Some bound one (sym (now_here before now i bound is within) ∙ (ap (slice_get now) (sym same) ∙ at))) (subst (λ (k : ℕ). IsBelow moved bound k) (sym same) here)
  | inr d ↦ still other one (was other one differ (was_there before now i bound is other one d at))
]

-- an element that isn't written stays
stays_there : (before now : List (Option ℕ)) (i : ℕ) (bound : Option ℕ) → now ≡ set before i bound → (j : ℕ) (one : Option ℕ) → j ≢ i → slice_get before j ≡ Some one → slice_get now j ≡ Some one
stays_there before now i bound is j one differ at = ap (λ l. slice_get l j) is ∙ (get_set_other before i bound j differ ∙ at)

-- the least of the others, with one more bound
pub next_push : (bounds : List (Option ℕ)) (bound : Option ℕ) (but : ℕ) (limit moved : Limit) → ((j : ℕ) (one : Option ℕ) → IsBelow limit one j → IsBelow moved one j) → (length bounds ≢ but → IsBelow moved bound (length bounds))
    → (moved ≡ limit) ⊎ ((length bounds ≢ but) × (moved.instance ≡ length bounds) × (bound ≡ Some moved.start)) → IsNext bounds but limit → IsNext (bounds ++ bound ∷ []) but moved
next_push bounds bound but limit moved still here one was = record {
  below = others_push bounds bound but limit moved still here was.below;
  reached = elim one [
    | inl same ↦ subst (λ (l : Limit). ((l.instance ≢ but) × (slice_get (bounds ++ bound ∷ []) l.instance ≡ Some (Some l.start))) ⊎ IsNone l) (sym same)
        (elim was.reached [
          | inl at ↦ inl (at.0, get_front bounds bound limit.instance (Some limit.start) at.1)
          | inr none ↦ inr none
        ])
    | inr last ↦ inl (λ same. last.0 (sym last.1 ∙ same), get_last bounds bound moved.instance (sym last.1) ∙ ap (λ b. Some b) last.2)
  ];
}

-- the least of the others, where the bound of one changes that wasn't the least of them
pub next_set : (before now : List (Option ℕ)) (i : ℕ) (bound : Option ℕ) (but : ℕ) (limit moved : Limit) → now ≡ set before i bound → i < length now → i ≢ but → i ≢ limit.instance → ((j : ℕ) (one : Option ℕ) → IsBelow limit one j → IsBelow moved one j) → IsBelow moved bound i
    → IsOneOf moved limit i bound → IsNext before but limit → IsNext now but moved
next_set before now i bound but limit moved is within differ apart still here one was = record {
  below = others_set before now i bound but limit moved is within still here was.below;
  reached = elim one [
    | inl same ↦ subst (λ (l : Limit). ((l.instance ≢ but) × (slice_get now l.instance ≡ Some (Some l.start))) ⊎ IsNone l) (sym same)
        (elim was.reached [
          | inl at ↦ inl (at.0, stays_there before now i bound is limit.instance (Some limit.start) (λ e. apart (sym e)) at.1)
          | inr none ↦ inr none
        ])
    | inr new ↦ inl (λ same. differ (sym new.0 ∙ same), subst (λ (k : ℕ). slice_get now k ≡ Some (Some moved.start)) (sym new.0) (now_here before now i bound is within ∙ ap (λ b. Some b) new.1))
  ];
}

-- a bound comes before all others: the first is then the least of the others
pub next_first : (before now : List (Option ℕ)) (i : ℕ) (bound : Option ℕ) (limit : Limit) → now ≡ set before i bound → i ≢ limit.instance → IsLimit before limit → IsNext now i limit
next_first before now i bound limit is differ was = record {
  below = others_by before now i bound limit is was;
  reached = elim was.reached [
    | inl at ↦ inl (λ e. differ (sym e), stays_there before now i bound is limit.instance (Some limit.start) (λ e. differ (sym e)) at)
    | inr none ↦ inr none
  ];
}

-- the instance after the least of all has the same bound
pub next_same : (bounds : List (Option ℕ)) (limit : Limit) (next : ℕ) → next ≡ limit.instance + 1 → slice_get bounds next ≡ Some (Some limit.start) → IsLimit bounds limit → IsNext bounds limit.instance (record { start = limit.start; instance = next })
next_same bounds limit next few at is = record {
  below = others_behind bounds limit next (omega (arith, few)) is;
  reached = inl (λ same. omega (arith, few, same), at);
}

-- the first one's bound changes, and stays before the others
pub leads_on : (before now : List (Option ℕ)) (start : ℕ) (lead : Lead) → now ≡ set before lead.least.instance (Some start) → lead.least.instance < length now → IsBefore start lead.least.instance lead.others → Leads before lead
    → Leads now (record { least = record { start = start; instance = lead.least.instance }; others = lead.others })
leads_on before now start lead is within first was = record {
  least_is = record { within = by; reached = inl here };
  others_are = record {
    below = others;
    reached = elim was.others_are.reached [
      | inl at ↦ inl (at.0, stays_there before now i (Some start) is lead.others.instance (Some lead.others.start) at.0 at.1)
      | inr none ↦ inr none
    ];
  };
}
  where
    i : ℕ
    i = lead.least.instance

    here : slice_get now i ≡ Some (Some start)
    here = now_here before now i (Some start) is within

    others : NoOther now i lead.others
    others j one differ at = was.others_are.below j one differ (was_there before now i (Some start) is j one differ at)

    by : (j : ℕ) (one : Option ℕ) → slice_get now j ≡ Some one → IsBelow (record { start = start; instance = i }) one j
    by j None at = tt
    by j (Some floor) at = elim (cases_eq j i) [
      | inl same ↦
          let f : floor ≡ start = same_Some floor start (same_Some (Some floor) (Some start) (sym at ∙ (ap (slice_get now) same ∙ here))) in
          (omega (arith, f), λ e. omega (arith, same))
      | inr differ ↦
          let below = others j (Some floor) differ at in
          let b = below.1 in
          let k = first.1 in
          (omega (arith, below.0, first.0), λ e. omega (arith, e, below.0, first.0, b, k))
    ]

-- it isn't before the others any more: the least of the others is the first
pub first_gone : (before now : List (Option ℕ)) (bound : Option ℕ) (lead : Lead) → now ≡ set before lead.least.instance bound → ((one : Option ℕ) → slice_get now lead.least.instance ≡ Some one → IsBelow lead.others one lead.least.instance) → Leads before lead → IsLimit now lead.others
first_gone before now bound lead is past was = record {
  within = λ j one at. elim (cases_eq j lead.least.instance) [
    | inl same ↦ subst (λ (k : ℕ). IsBelow lead.others one k) (sym same) (past one (ap (slice_get now) (sym same) ∙ at))
    | inr differ ↦ was.others_are.below j one differ (was_there before now lead.least.instance bound is j one differ at)
  ];
  reached = elim was.others_are.reached [
    | inl at ↦ inl (stays_there before now lead.least.instance bound is lead.others.instance (Some lead.others.start) at.0 at.1)
    | inr none ↦ inr none
  ];
}

-- where there is no first, there is no other
pub next_none : (bounds : List (Option ℕ)) (limit : Limit) → IsNone limit → IsLimit bounds limit → IsNext bounds limit.instance limit
next_none bounds limit none is = record { below = λ j one differ at. is.within j one at; reached = inr none }
