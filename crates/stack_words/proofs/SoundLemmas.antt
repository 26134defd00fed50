-- The instances of a stack that is read are sound.
use Rattle.std.proofs.Common.{◌≡◌, ℕ, ◌<◌, Bool, true, false, cond, ◌&&◌, if◌then◌else◌, List, [], ◌∷◌, ◌++◌, length, Option, Some, None, Result, Ok, Err, refl, sym, ◌∙◌, ap, subst, arith, append_assoc, length-append}
use Rattle.std.specs.Prelude.{nat_lt, nat_le, slice_get}
use Rattle.std.specs.List.{position, position_or_len, list_any}
use Rattle.std.specs.Option.{IfSome}
use Rattle.std.specs.Str.{bytes_eq}
use Rattle.std.proofs.lemmas.Bool.Decides.{nat_tests}
use Rattle.std.proofs.lemmas.List.{append-nil}
use Rattle.text_parts.specs.Chains.{WordText}
use Rattle.text_parts.specs.Places.{Placed, parts_between}
use Rattle.text_parts.specs.Reading.{read_parts, then_read}
use Rattle.la_base.specs.Kinds.{same_wire}
use Rattle.la_base.specs.declared.wires.Wire.TheVariants.{Logic}
use Rattle.kind_table.specs.Kinds.{kind_row, kind_of}
use Rattle.kind_table.specs.declared.kinds.Kind.{Kind}
use Rattle.stack_words.specs.declared.faults.StackFault.{StackFault}
use Rattle.stack_words.specs.declared.faults.StackWhy.{StackWhy}
use Rattle.stack_words.specs.declared.faults.StackWhy.TheVariants as why
use Rattle.stack_words.specs.Chains.{Link, news, last_place, kind_text, instance_by, placed_by, kind_at, instance_at, added_at, earlier_at, is_dash, part_at, link_at, all_of, chain_at, instances_of}
use Rattle.stack_words.specs.Instances.{Instance, Given, name_of, place_named, stands_on, unless_full, why_not}
use Rattle.stack_words.specs.Options.{stack_fault, options_at}
use Rattle.stack_words.specs.Sound.{options_fit, parent_fits, is_right, right_from, is_sound}
use Rattle.stack_words.proofs.LinkLemmas.{flat_map-append, last_place-push}
use Rattle.stack_words.proofs.OptionLemmas.{read_keeps, both, join, options_read_fit}

-- a place that was found is one of the list
pub position_within : {X : Type 0} (p : X → Bool) (xs : List X) (k : ℕ) → position p xs ≡ Some k → k < length xs
position_within p xs k e = by (nat_lt (position_or_len p xs) (length xs)) refl e
  where
    by : (b : Bool) → nat_lt (position_or_len p xs) (length xs) ≡ b → cond {A = Option ℕ} b (Some (position_or_len p xs)) None ≡ Some k → k < length xs
    by true is e = let same : position_or_len p xs ≡ k = cc in let low : position_or_len p xs < length xs = grind (arith, nat_tests) in subst (λ (n : ℕ). n < length xs) same low
    by false is e = absurd cc

-- one more instance that is right
right-push : (before xs : List Instance) (x : Instance) → right_from before xs ≡ true → is_right (before ++ xs) x ≡ true → right_from before (xs ++ x ∷ []) ≡ true
right-push before [] x all right = join (is_right before x) true (ap (λ (l : List Instance). is_right l x) (sym (append-nil before)) ∙ right) refl
right-push before (y ∷ ys) x all right =
    let parts = both (is_right before y) (right_from (before ++ y ∷ []) ys) all in
    join (is_right before y) (right_from (before ++ y ∷ []) (ys ++ x ∷ [])) parts.0
    (right-push (before ++ y ∷ []) ys x parts.1 (ap (λ (l : List Instance). is_right l x) (append_assoc before (y ∷ []) ys) ∙ right))

pub sound-push : (xs : List Instance) (x : Instance) → is_sound xs ≡ true → length xs < 24 → is_right xs x ≡ true → is_sound (xs ++ x ∷ []) ≡ true
sound-push xs x sound room right =
    let few : nat_le (length (xs ++ x ∷ [])) 24 ≡ true = (let n = length-append xs (x ∷ []) in grind (arith, nat_tests)) in
    join (nat_le (length (xs ++ x ∷ [])) 24) (right_from [] (xs ++ x ∷ [])) few (right-push [] xs x (both (nat_le (length xs) 24) (right_from [] xs) sound).1 right)

-- a kind that may stand here
stands : (before : List Instance) (parent : Option ℕ) (kind : Kind) → why_not before parent kind ≡ None → IfSome parent (λ p. p < length before) → (parent_fits before kind parent ≡ true) × (length before < 24)
stands before None kind e within = by (same_wire Logic (kind_row kind).input) refl e
  where
    full : (b : Bool) → nat_le 24 (length before) ≡ b → (if b then Some why.Many else None) ≡ None → length before < 24
    full true is e = absurd cc
    full false is e = grind (arith, nat_tests)

    by : (b : Bool) → same_wire Logic (kind_row kind).input ≡ b → (if b then unless_full before None else Some why.NoParent) ≡ None → (same_wire Logic (kind_row kind).input ≡ true) × (length before < 24)
    by true is e = (is, full (nat_le 24 (length before)) refl e)
    by false is e = absurd cc
stands before (Some parent) kind e within = full (nat_le 24 (length before)) refl e
  where
    on : (b : Bool) → stands_on (slice_get before parent) kind ≡ b → (if b then None else Some why.Mismatch) ≡ None → stands_on (slice_get before parent) kind ≡ true
    on true is e = is
    on false is e = absurd cc

    full : (b : Bool) → nat_le 24 (length before) ≡ b → (if b then Some why.Many else if stands_on (slice_get before parent) kind then None else Some why.Mismatch) ≡ None
        → ((nat_lt parent (length before) && stands_on (slice_get before parent) kind) ≡ true) × (length before < 24)
    full true is e = absurd cc
    full false is e =
        let low : nat_lt parent (length before) ≡ true = grind (arith, nat_tests) in
        (join (nat_lt parent (length before)) (stands_on (slice_get before parent) kind) low (on (stands_on (slice_get before parent) kind) refl e), grind (arith, nat_tests))

-- a new instance is right
instance_right : (before : List Instance) (parent : Option ℕ) (word : ℕ) (part : Placed) (instance : Instance) → IfSome parent (λ p. p < length before) → instance_at before parent word part ≡ Ok instance
    → (is_right before instance ≡ true) × (length before < 24)
instance_right before parent word part instance within e = by (kind_of (kind_text part.1)) e
  where
    made : (kind : Kind) (r : Result (List Given) StackFault) → options_at (kind_row kind).options (kind_row kind).groups word part ≡ r → parent_fits before kind parent ≡ true → then_read r (λ options. Ok (instance_by before parent kind options)) ≡ Ok instance → is_right before instance ≡ true
    made kind (Ok options) is fits e =
        let same : instance_by before parent kind options ≡ instance = cc in
        subst (λ (i : Instance). is_right before i ≡ true) same (join (parent_fits before kind parent) (options_fit (kind_row kind) options) fits (options_read_fit (kind_row kind) word part options is))
    made kind (Err fault) is fits e = cc

    placed : (kind : Kind) (o : Option StackWhy) → why_not before parent kind ≡ o → placed_by before parent kind word part o ≡ Ok instance → (is_right before instance ≡ true) × (length before < 24)
    placed kind (Some why) is e = absurd cc
    placed kind None is e =
        let s = stands before parent kind is within in
        (made kind (options_at (kind_row kind).options (kind_row kind).groups word part) refl s.0 e, s.1)

    by : (o : Option Kind) → kind_at before parent word part o ≡ Ok instance → (is_right before instance ≡ true) × (length before < 24)
    by None e = absurd cc
    by (Some kind) e = placed kind (why_not before parent kind) refl e

-- what a link keeps: with its new instances the stack is sound, and its place is one of the stack
pub record KeepsSound (before : List Instance) (link : Link) : Type 0 where
  pub sound : is_sound (before ++ link.new) ≡ true
  pub within : link.place < length (before ++ link.new)

added_sound : (before : List Instance) (parent : Option ℕ) (word : ℕ) (part : Placed) (link : Link) → is_sound before ≡ true → IfSome parent (λ p. p < length before) → added_at before parent word part ≡ Ok link → KeepsSound before link
added_sound before parent word part link sound within e = by (instance_at before parent word part) refl e
  where
    by : (r : Result Instance StackFault) → instance_at before parent word part ≡ r → then_read r (λ instance. Ok (record { place = length before; new = instance ∷ [] })) ≡ Ok link → KeepsSound before link
    by (Ok instance) is e =
        let same : record { place = length before; new = instance ∷ [] } ≡ link = cc in
        let right = instance_right before parent word part instance within is in
        subst (KeepsSound before) same (record {
          sound = sound-push before instance sound right.1 right.0;
          within = (let n = length-append before (instance ∷ []) in omega arith);
        })
    by (Err fault) is e = cc

part_sound : (before : List Instance) (parent : Option ℕ) (word : ℕ) (part : Placed) (link : Link) → is_sound before ≡ true → IfSome parent (λ p. p < length before) → part_at before parent word part ≡ Ok link → KeepsSound before link
part_sound before (Some parent) word part link sound within e = added_sound before (Some parent) word part link sound within e
part_sound before None word part link sound within e = by (list_any is_dash (kind_text part.1)) e
  where
    earlier : (o : Option ℕ) → place_named before part.1 ≡ o → earlier_at word part o ≡ Ok link → KeepsSound before link
    earlier None is e = cc
    earlier (Some place) is e =
        let same : record { place = place; new = [] } ≡ link = cc in
        let low : place < length before = position_within (λ instance. bytes_eq (name_of instance) part.1) before place is in
        subst (KeepsSound before) same (record {
          sound = ap is_sound (append-nil before) ∙ sound;
          within = subst (λ (l : List Instance). place < length l) (sym (append-nil before)) low;
        })

    by : (b : Bool) → (if b then earlier_at word part (place_named before part.1) else added_at before None word part) ≡ Ok link → KeepsSound before link
    by true e = earlier (place_named before part.1) refl e
    by false e = added_sound before None word part link sound tt e

-- what the links of a chain keep
pub record LinksSound (earlier : List Instance) (links : List Link) : Type 0 where
  pub sound : is_sound (earlier ++ news links) ≡ true
  pub last : IfSome (last_place links) (λ p. p < length (earlier ++ news links))

chain_sound : (earlier : List Instance) (word : ℕ) (parts : List Placed) (links : List Link) → is_sound earlier ≡ true → read_parts (link_at earlier word) [] parts ≡ Ok links → LinksSound earlier links
chain_sound earlier word parts links sound e = read_keeps (link_at earlier word) (LinksSound earlier)
    (λ before part link keeps is. step before part link keeps (part_sound (earlier ++ news before) (last_place before) word part link keeps.sound keeps.last is))
    [] parts links (record { sound = ap is_sound (append-nil earlier) ∙ sound; last = tt }) e
  where
    step : (before : List Link) (part : Placed) (link : Link) → LinksSound earlier before → KeepsSound (earlier ++ news before) link → LinksSound earlier (before ++ link ∷ [])
    step before part link keeps new =
        let grown : (earlier ++ news before) ++ link.new ≡ earlier ++ news (before ++ link ∷ [])
        = append_assoc earlier (news before) link.new ∙ ap (λ (l : List Instance). earlier ++ l) (sym (flat_map-append (λ l. l.new) before (link ∷ []) ∙ ap (λ (l : List Instance). news before ++ l) (append-nil link.new))) in
        record {
          sound = subst (λ (l : List Instance). is_sound l ≡ true) grown new.sound;
          last = subst (λ (o : Option ℕ). IfSome o (λ p. p < length (earlier ++ news (before ++ link ∷ [])))) (sym (last_place-push before link)) (subst (λ (l : List Instance). link.place < length l) grown new.within);
        }

-- the instances of chains are sound
pub instances_sound : (chains : List WordText) (instances : List Instance) → instances_of chains ≡ Ok instances → is_sound instances ≡ true
instances_sound chains instances e = by (read_parts chain_at [] chains) refl e
  where
    joined : (before : List (List Instance)) (new : List Instance) → all_of before ++ new ≡ all_of (before ++ new ∷ [])
    joined before new = sym (flat_map-append (λ l. l) before (new ∷ []) ∙ ap (λ (l : List Instance). all_of before ++ l) (append-nil new))

    step : (before : List (List Instance)) (chain : WordText) (new : List Instance) (r : Result (List Link) StackFault) → read_parts (link_at (all_of before) chain.word) [] (parts_between 44 chain.text) ≡ r
        → is_sound (all_of before) ≡ true → then_read r (λ links. Ok (news links)) ≡ Ok new → is_sound (all_of (before ++ new ∷ [])) ≡ true
    step before chain new (Ok links) is sound e =
        let same : news links ≡ new = cc in
        subst (λ (l : List Instance). is_sound l ≡ true) (ap (λ (l : List Instance). all_of before ++ l) same ∙ joined before new) (chain_sound (all_of before) chain.word (parts_between 44 chain.text) links sound is).sound
    step before chain new (Err fault) is sound e = cc

    by : (r : Result (List (List Instance)) StackFault) → read_parts chain_at [] chains ≡ r → then_read r (λ lists. Ok (all_of lists)) ≡ Ok instances → is_sound instances ≡ true
    by (Ok lists) is e =
        let same : all_of lists ≡ instances = cc in
        subst (λ (l : List Instance). is_sound l ≡ true) same (read_keeps chain_at (λ before. is_sound (all_of before) ≡ true) (λ before chain new sound e. step before chain new (read_parts (link_at (all_of before) chain.word) [] (parts_between 44 chain.text)) refl sound e) [] chains lists refl is)
    by (Err fault) is e = cc
