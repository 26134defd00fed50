-- The events of a body, and of one with more behind it.
use Rattle.std.proofs.Common.{◌≡◌, ℕ, zero, suc, ◌+◌, ◌-◌, ◌*◌, ◌^◌, ◌≤◌, ◌<◌, List, [], ◌∷◌, ◌++◌, map, refl, sym, ◌∙◌, ap, arith, append_assoc, Option, Some, None, IfSome, Result, Ok, Err, Bool, true, false, cond, nat_lt, nat_le, if◌then◌else◌}
use Rattle.std.proofs.lemmas.Bool.{ltb-false, cond-true, cond-false}
use Rattle.std.specs.List.{range_with_len}
use Rattle.la_base.specs.Naming.{same_name}
use Rattle.text_parts.specs.Places.{Placed}
use Rattle.la_io.specs.declared.fault.CaptureFault.{CaptureFault}
use Rattle.la_io.specs.declared.fault.CaptureFault.TheVariants.{TimeLarge}
use Rattle.capture_vcd.specs.Body.{Channel, Event, Reaches, Sets, Statement, Time, Change, Wrong, digit_bit, digits_at, event_of, first_time, last_time, time_behind, word_at, words_from}
use Rattle.capture_vcd.specs.Within.{Within, statements_from, token_gives, within_behind}
use Rattle.text_parts.specs.Reading.{after_one, read_front}

-- the statements of more tokens
pub statements_more : (within : Within) (tokens more : List Placed) → statements_from within (tokens ++ more) ≡ statements_from within tokens ++ statements_from (within_behind within tokens) more
statements_more within [] more = refl
statements_more within (token ∷ tokens) more =
    let step = token_gives within token in
    ap (λ (l : List Statement). step.0 ++ l) (statements_more step.1 tokens more) ∙ sym (append_assoc step.0 (statements_from step.1 tokens) (statements_from (within_behind step.1 tokens) more))

-- before the last time, more events change no value
pub digits_same : (last : Option ℕ) (events more : List Event) (time end : ℕ) (code so_far : List ℕ) → IfSome last (λ n. n ≤ time) → last_time last events ≡ Some end → time < end → digits_at time code so_far (events ++ more) ≡ digits_at time code so_far events
digits_same None [] more time end code so_far early is less = cc
digits_same (Some n) [] more time end code so_far early is less = let same : n ≡ end = cc in absurd (omega (arith, same, early, less))
digits_same last (Sets other digits ∷ events) more time end code so_far early is less = digits_same last events more time end code (if same_name code other then digits else so_far) early is less
digits_same last (Reaches n ∷ events) more time end code so_far early is less = by_test (nat_lt time n) refl (λ late. digits_same (Some n) events more time end code so_far late is less) where
  by_test : (b : Bool) → nat_lt time n ≡ b → (n ≤ time → digits_at time code so_far (events ++ more) ≡ digits_at time code so_far events)
      → cond b so_far (digits_at time code so_far (events ++ more)) ≡ cond b so_far (digits_at time code so_far events)
  by_test true e next = refl
  by_test false e next = next (ltb-false time n e)

pub word_same : (channels : List Channel) (events more : List Event) (time end : ℕ) → last_time None events ≡ Some end → time < end → word_at channels (events ++ more) time ≡ word_at channels events time
word_same [] events more time end is less = refl
word_same (channel ∷ channels) events more time end is less =
    λ i. digit_bit channel.1 (digits_same None events more time end channel.0 [] tt is less i) + 2 * word_same channels events more time end is less i

-- lists by their places
pub map_same : (f g : ℕ → ℕ) (a n : ℕ) → ((k : ℕ) → k < a + n → f k ≡ g k) → map f (range_with_len a n) ≡ map g (range_with_len a n)
map_same f g a zero same = refl
map_same f g a (suc n) same = λ i. same a (omega arith) i ∷ map_same f g (a + 1) n (λ k less. same k (omega (arith, less))) i

pub map_more : (f : ℕ → ℕ) (a n d : ℕ) → map f (range_with_len a (n + d)) ≡ map f (range_with_len a n) ++ map f (range_with_len (a + n) d)
map_more f a zero d = let none : a ≡ a + 0 = omega arith in let left : 0 + d ≡ d = omega arith in (λ i. map f (range_with_len (none i) (left i)))
map_more f a (suc n) d =
    let next : suc n + d ≡ suc (n + d) = omega arith in
    let place : a + 1 + n ≡ a + suc n = omega arith in
    ap (λ (k : ℕ). map f (range_with_len a k)) next ∙ ap (λ (l : List ℕ). f a ∷ l) (map_more f (a + 1) n d ∙ ap (λ (k : ℕ). map f (range_with_len (a + 1) n) ++ map f (range_with_len k d)) place)

-- fewer samples are the first of more
pub words_longer : (channels : List Channel) (events more : List Event) (start down n m end : ℕ) → n ≤ m → last_time None events ≡ Some end → ((k : ℕ) → k < n → start + k * down < end)
    → (rest : List ℕ) × (words_from channels (events ++ more) start down m ≡ words_from channels events start down n ++ rest)
unfolding words_from
words_longer channels events more start down n m end few is early =
    let f = λ (k : ℕ). word_at channels events (start + k * down) in
    let g = λ (k : ℕ). word_at channels (events ++ more) (start + k * down) in
    let total : m ≡ n + (m - n) = omega (arith, few) in (
      map g (range_with_len (0 + n) (m - n)),
      ap (λ (k : ℕ). map g (range_with_len 0 k)) total ∙ map_more g 0 n (m - n)
          ∙ ap (λ (l : List ℕ). l ++ map g (range_with_len (0 + n) (m - n))) (map_same g f 0 n (λ k less. word_same channels events more (start + k * down) end is (early k (omega (arith, less))))),
    )

-- the first and the last time of more events
pub first_stays : (events more : List Event) (start : ℕ) → first_time events ≡ Some start → first_time (events ++ more) ≡ Some start
first_stays [] more start is = cc
first_stays (Reaches n ∷ events) more start is = is
first_stays (Sets code digits ∷ events) more start is = first_stays events more start is

pub last_on : (last : Option ℕ) (events : List Event) (event : Event) → last_time last (events ++ event ∷ []) ≡ last_time (last_time last events) (event ∷ [])
last_on last [] event = refl
last_on last (Reaches n ∷ events) event = last_on (Some n) events event
last_on last (Sets code digits ∷ events) event = last_on last events event

-- times don't fall
abbrev pub Rises : ℕ → Option ℕ → Type 0
Rises end last = (later : ℕ) × (last ≡ Some later) × (end ≤ later)

event_rises : (before : List Event) (end : ℕ) (event : Event) (part : Statement) → last_time None before ≡ Some end → event_of before part ≡ Ok event → Rises end (last_time None (before ++ event ∷ []))
event_rises before end event (Wrong at) is good = cc
event_rises before end event (Change code digits) is good =
    let same : Sets code digits ≡ event = cc in
    (end, ap (λ (e : Event). last_time None (before ++ e ∷ [])) (sym same) ∙ last_on None before (Sets code digits) ∙ is, omega arith)
event_rises before end event (Time at time) is good = by_large (nat_le (2 ^ 60) time) good where
  by_late : (b : Bool) → nat_lt time end ≡ b → time_behind at time (Some end) ≡ Ok event → Rises end (last_time None (before ++ event ∷ []))
  by_late true e h = let bad = sym (cond-true (nat_lt time end) _ _ e) ∙ h in cc
  by_late false e h =
      let same : Ok (Reaches time) ≡ Ok event = sym (cond-false (nat_lt time end) _ _ e) ∙ h in
      let event_is : Reaches time ≡ event = cc in
      (time, ap (λ (x : Event). last_time None (before ++ x ∷ [])) (sym event_is) ∙ last_on None before (Reaches time), ltb-false time end e)

  by_large : (b : Bool) → cond b (Err (TimeLarge at)) (time_behind at time (last_time None before)) ≡ Ok event → Rises end (last_time None (before ++ event ∷ []))
  by_large true h = cc
  by_large false h = by_late (nat_lt time end) refl (ap (λ (o : Option ℕ). time_behind at time o) (sym is) ∙ h)

pub front_rises : (before : List Event) (parts : List Statement) (end : ℕ) → last_time None before ≡ Some end → Rises end (last_time None (read_front event_of before parts).0)
front_rises before [] end is = (end, is, omega arith)
front_rises before (part ∷ parts) end is = by_judge (event_of before part) refl (λ event later e. front_rises (before ++ event ∷ []) parts later e) where
  by_judge : (r : Result Event CaptureFault) → event_of before part ≡ r
      → ((event : Event) (later : ℕ) → last_time None (before ++ event ∷ []) ≡ Some later → Rises later (last_time None (read_front event_of (before ++ event ∷ []) parts).0))
      → Rises end (last_time None (after_one (λ values rest. read_front event_of values rest) before parts r).0)
  by_judge (Ok event) good next =
      let one = event_rises before end event part is good in
      let all = next event one.0 one.1 in
      (all.0, all.1, omega (arith, one.2, all.2))
  by_judge (Err fault) good next = (end, is, omega arith)
