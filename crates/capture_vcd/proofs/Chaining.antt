-- Chains of channels, and the changes that go along them.
use Rattle.std.proofs.Common.{◌≡◌, ◌≢◌, ℕ, zero, suc, ◌+◌, ◌*◌, ◌/◌, ◌%◌, ◌^◌, ◌<◌, ◌≤◌, ◌⊎◌, inl, inr, List, [], ◌∷◌, ◌++◌, map, length, get_or, take, drop, slice_set, refl, sym, ◌∙◌, ap, subst, arith, Bool, true, false}
use Rattle.std.proofs.lemmas.Bool.{cases_eq, cond-false}
use Rattle.std.proofs.lemmas.List.{append-nil, drop_all, get_or-map, get_or-set_other, get_or-set_same, length-map, map-set, take_all}
use Rattle.std.proofs.lemmas.List.Edits.{map_over_more}
use Rattle.std.proofs.lemmas.Slice.Eq.{bytes_eq-Decides}
use Rattle.std.specs.Int.{bit_at}
use Rattle.std.specs.Int.Bits.{bit_and, bit_xor, xor_add_and, xor_zero_r}
use Rattle.std.proofs.lemmas.Nat.{one_shl}
use Rattle.std.proofs.lemmas.Nat.Bits.{and_pow, bit_at-suc, bit_at-zero}
use Rattle.std.specs.declared.vec.Vec.{Vec}
use Rattle.std.specs.declared.alloc.Global.{Global}
use Rattle.la_base.specs.Naming.{same_name}
use Rattle.la_base.specs.declared.samples.TheConstants.{MOST_PINS}
use Rattle.capture_vcd.specs.Chains.{ChainedFrom, Leads, NoneHas, keys_of, key_of}
use Rattle.capture_vcd.specs.Following.{is_one, level_bit, word_bits}
use Rattle.capture_vcd.specs.Slots.{assigned, changed, channel_of, code_at, level_of, slot_in, valued, with_level}
use Rattle.capture_vcd.specs.declared.slots.Slot.{Slot}

-- chains of no channel
pub chained_none : (heads next keys : List ℕ) (n : ℕ) → length keys ≤ n → ((key : ℕ) → key < 256 → n ≤ get_or heads key 0) → ChainedFrom n heads next keys
chained_none heads next keys n few far = record {
  first = λ key small. record { later = far key small; none = λ k from to less. absurd (omega (arith, from, less, few)); has = λ less. absurd (omega (arith, less, few, far key small)) };
  behind = λ place from less. absurd (omega (arith, from, less, few));
}

-- one channel more in front
module _ (heads next keys : List ℕ) (n key : ℕ) (is : get_or keys n 0 ≡ key) (small : key < 256) (rows : length heads ≡ 256) (room : n < length next) (chained : ChainedFrom (n + 1) heads next keys) where
  more_first : (other : ℕ) → other < 256 → (other ≡ key) ⊎ (other ≢ key) → Leads keys other n (get_or (slice_set heads key n) other 0)
  more_first other below (inl same) =
      let here : get_or (slice_set heads key n) key 0 ≡ n = get_or-set_same heads key n 0 (omega (arith, rows, small)) in
      subst (λ (o : ℕ). Leads keys o n (get_or (slice_set heads key n) o 0)) (sym same)
      (subst (λ (p : ℕ). Leads keys key n p) (sym here) (record { later = omega arith; none = λ k from to less. absurd (omega (arith, from, to)); has = λ less. is }))
  more_first other below (inr apart) =
      let there : get_or (slice_set heads key n) other 0 ≡ get_or heads other 0 = get_or-set_other heads key other n 0 apart in
      let old = chained.first other below in
      subst (λ (p : ℕ). Leads keys other n p) (sym there) (record {
        later = omega (arith, old.later);
        none = λ k from to less. by_place k to less (cases_eq k n) (omega (arith, from));
        has = old.has;
      })
    where
      by_place : (k : ℕ) → k < get_or heads other 0 → k < length keys → (k ≡ n) ⊎ (k ≢ n) → n ≤ k → get_or keys k 0 ≢ other
      by_place k to less (inl e) from = λ same. apart (sym same ∙ ap (λ (m : ℕ). get_or keys m 0) e ∙ is)
      by_place k to less (inr e) from = (chained.first other below).none k (omega (arith, e, from)) to less

  more_behind : (place : ℕ) → n ≤ place → place < length keys → (place ≡ n) ⊎ (place ≢ n) → Leads keys (get_or keys place 0) (place + 1) (get_or (slice_set next n (get_or heads key 0)) place 0)
  more_behind place from less (inl same) =
      let here : get_or (slice_set next n (get_or heads key 0)) n 0 ≡ get_or heads key 0 = get_or-set_same next n (get_or heads key 0) 0 room in
      subst (λ (p : ℕ). Leads keys (get_or keys p 0) (p + 1) (get_or (slice_set next n (get_or heads key 0)) p 0)) (sym same)
      (subst (λ (to : ℕ). Leads keys (get_or keys n 0) (n + 1) to) (sym here)
      (subst (λ (b : ℕ). Leads keys b (n + 1) (get_or heads key 0)) (sym is) (chained.first key small)))
  more_behind place from less (inr apart) =
      let there : get_or (slice_set next n (get_or heads key 0)) place 0 ≡ get_or next place 0 = get_or-set_other next n place (get_or heads key 0) 0 apart in
      subst (λ (to : ℕ). Leads keys (get_or keys place 0) (place + 1) to) (sym there) (chained.behind place (omega (arith, from, apart)) less)

  pub chained_more : ChainedFrom n (slice_set heads key n) (slice_set next n (get_or heads key 0)) keys
  chained_more = record {
    first = λ other below. more_first other below (cases_eq other key);
    behind = λ place from less. more_behind place from less (cases_eq place n);
  }

-- a level in place of another changes its bit of the word
pub word_set : (levels : List Bool) (k : ℕ) (b : Bool) → k < length levels → word_bits (slice_set levels k b) + level_bit (get_or levels k false) * 2 ^ k ≡ word_bits levels + level_bit b * 2 ^ k
word_set [] k b less = absurd (omega (arith, less))
word_set (l ∷ ls) zero b less = omega arith
word_set (l ∷ ls) (suc k) b less =
    let rest = word_set ls k b (omega (arith, less)) in
    let was : level_bit (get_or ls k false) * 2 ^ suc k ≡ 2 * (level_bit (get_or ls k false) * 2 ^ k) = grind arith in
    let now : level_bit b * 2 ^ suc k ≡ 2 * (level_bit b * 2 ^ k) = grind arith in
    omega (arith, rest, was, now)

-- a bit of the word is a level
word_bit : (levels : List Bool) (k : ℕ) → bit_at (word_bits levels) k ≡ level_bit (get_or levels k false)
word_bit [] k = bit_at-zero k
word_bit (true ∷ ls) zero = omega arith
word_bit (false ∷ ls) zero = omega arith
word_bit (l ∷ ls) (suc k) =
    let half : (level_bit l + 2 * word_bits ls) / 2 ≡ word_bits ls = halved l (word_bits ls) in
    bit_at-suc (level_bit l + 2 * word_bits ls) k ∙ ap (λ (n : ℕ). bit_at n k) half ∙ word_bit ls k
  where
    halved : (b : Bool) (n : ℕ) → (level_bit b + 2 * n) / 2 ≡ n
    halved true n = omega arith
    halved false n = omega arith

pub level_at : (slots : List Slot) (n : ℕ) → n < length slots → bit_at (word_bits (map level_of slots)) n ≡ level_bit (level_of (slot_in slots n))
level_at slots n less = word_bit (map level_of slots) n ∙ ap level_bit (get_or-map level_of slots n _ false less)

zeros : (k : ℕ) → 0 * 2 ^ k % 2 ^ MOST_PINS ≡ 0
zeros k = omega arith

-- a bit that is exchanged
pub flipped : (was now : Bool) (word k : ℕ) → k < MOST_PINS → bit_at word k ≡ level_bit was → bit_xor word (bit_xor (level_bit was) (level_bit now) * 2 ^ k % 2 ^ MOST_PINS) + level_bit was * 2 ^ k ≡ word + level_bit now * 2 ^ k
flipped true true word k small is = let none : bit_xor word (0 * 2 ^ k % 2 ^ MOST_PINS) ≡ word = ap (λ (n : ℕ). bit_xor word n) (zeros k) ∙ xor_zero_r word in omega (arith, none)
flipped false false word k small is = let none : bit_xor word (0 * 2 ^ k % 2 ^ MOST_PINS) ≡ word = ap (λ (n : ℕ). bit_xor word n) (zeros k) ∙ xor_zero_r word in omega (arith, none)
flipped true false word k small is =
    let one : bit_xor word (1 * 2 ^ k % 2 ^ MOST_PINS) ≡ bit_xor word (2 ^ k) = ap (λ (n : ℕ). bit_xor word n) (one_shl k MOST_PINS small) in
    let bit : bit_and word (2 ^ k) ≡ 1 * 2 ^ k = and_pow word k ∙ ap (λ (n : ℕ). n * 2 ^ k) is in
    omega (arith, one, bit, xor_add_and word (2 ^ k))
flipped false true word k small is =
    let one : bit_xor word (1 * 2 ^ k % 2 ^ MOST_PINS) ≡ bit_xor word (2 ^ k) = ap (λ (n : ℕ). bit_xor word n) (one_shl k MOST_PINS small) in
    let bit : bit_and word (2 ^ k) ≡ 0 * 2 ^ k = and_pow word k ∙ ap (λ (n : ℕ). n * 2 ^ k) is in
    omega (arith, one, bit, xor_add_and word (2 ^ k))

pub level_set : (slots : List Slot) (n : ℕ) (level : Bool) → n < length slots → word_bits (map level_of (with_level slots n level)) + level_bit (level_of (slot_in slots n)) * 2 ^ n ≡ word_bits (map level_of slots) + level_bit level * 2 ^ n
level_set slots n level less =
    let set : map level_of (with_level slots n level) ≡ slice_set (map level_of slots) n level = map-set level_of slots n (record (slot_in slots n) { level = level }) in
    let was : get_or (map level_of slots) n false ≡ level_of (slot_in slots n) = get_or-map level_of slots n _ false less in
    let one = word_set (map level_of slots) n level (omega (arith, less, length-map slots level_of)) in
    (λ i. word_bits (set i) + level_bit (sym was i) * 2 ^ n) ∙ one

-- the keys of the codes of channels
module _ (codes : List (Vec ℕ Global)) where
  abbrev pub keys : List Slot → List ℕ
  keys slots = keys_of (map (channel_of codes) slots)

  pub keys_count : (slots : List Slot) → length (keys slots) ≡ length slots
  keys_count slots = length-map (map (channel_of codes) slots) (λ channel. key_of channel.0) ∙ length-map slots (channel_of codes)

  pub keys_are : (slots : List Slot) (n : ℕ) → n < length slots → get_or (keys slots) n 0 ≡ key_of (code_at codes (slot_in slots n).variable)
  keys_are [] n less = absurd (omega (arith, less))
  keys_are (slot ∷ slots) zero less = refl
  keys_are (slot ∷ slots) (suc n) less = keys_are slots n (omega (arith, less))

  other_code : (code : List ℕ) (slot : Slot) → key_of (code_at codes slot.variable) ≢ key_of code → same_name (code_at codes slot.variable) code ≡ false
  other_code code slot apart = by_test (same_name (code_at codes slot.variable) code) refl where
    by_test : (t : Bool) → same_name (code_at codes slot.variable) code ≡ t → same_name (code_at codes slot.variable) code ≡ false
    by_test false e = e
    by_test true e = absurd (apart (ap key_of ((bytes_eq-Decides (code_at codes slot.variable) code).0 e)))

  -- channels that a change leaves are passed
  module _ (f : Slot → Slot) (code : List ℕ) (leaves : (slot : Slot) → same_name (code_at codes slot.variable) code ≡ false → f slot ≡ slot) where
    nothing : (a : ℕ) → map f (take a []) ++ drop a [] ≡ []
    nothing zero = refl
    nothing (suc a) = refl

    pub passed : (slots : List Slot) (a b : ℕ) → a ≤ b → ((k : ℕ) → a ≤ k → k < b → k < length (keys slots) → get_or (keys slots) k 0 ≢ key_of code)
        → map f (take a slots) ++ drop a slots ≡ map f (take b slots) ++ drop b slots
    passed [] a b order none = nothing a ∙ sym (nothing b)
    passed (slot ∷ slots) zero zero order none = refl
    passed (slot ∷ slots) zero (suc b) order none =
        λ i. sym (leaves slot (other_code code slot (none 0 (omega arith) (omega arith) (omega arith)))) i ∷ passed slots 0 b (omega arith) (λ k from to less. none (suc k) (omega arith) (omega (arith, to)) (omega (arith, less))) i
    passed (slot ∷ slots) (suc a) zero order none = absurd (omega (arith, order))
    passed (slot ∷ slots) (suc a) (suc b) order none =
        ap (λ (l : List Slot). f slot ∷ l) (passed slots a b (omega (arith, order)) (λ k from to less. none (suc k) (omega (arith, from)) (omega (arith, to)) (omega (arith, less))))

    -- a step of a walk along the chain of a code
    pub walked : (slots now : List Slot) (n to : ℕ) (x : Slot) → n < length slots → now ≡ map f (take n slots) ++ drop n slots → x ≡ get_or now n x → get_or (keys slots) n 0 ≡ key_of code → Leads (keys slots) (get_or (keys slots) n 0) (n + 1) to
        → slice_set now n (f x) ≡ map f (take to slots) ++ drop to slots
    walked slots now n to x less so_far is key leads =
        map_over_more f slots now n x less so_far is ∙ passed slots (n + 1) to leads.later (λ k from below within. subst (λ (b : ℕ). get_or (keys slots) k 0 ≢ b) key (leads.none k from below within))

    -- its end
    pub walked_all : (slots now : List Slot) (n : ℕ) → length slots ≤ n → now ≡ map f (take n slots) ++ drop n slots → now ≡ map f slots
    walked_all slots now n past is = is ∙ (λ i. map f (take_all n slots past i) ++ drop_all n slots past i) ∙ append-nil (map f slots)

  pub assigned_leaves : (code : List ℕ) (slot : Slot) → same_name (code_at codes slot.variable) code ≡ false → assigned codes code slot ≡ slot
  assigned_leaves code slot other = ap (λ (b : Bool). record slot { level = b }) (cond-false (same_name (code_at codes slot.variable) code) slot.value slot.level other)

  pub changed_leaves : (first : ℕ) (code : List ℕ) (slot : Slot) → same_name (code_at codes slot.variable) code ≡ false → changed codes first code slot ≡ slot
  changed_leaves first code slot other = ap (λ (b : Bool). record slot { level = b }) (cond-false (same_name (code_at codes slot.variable) code) (is_one slot.bit (first ∷ [])) slot.level other)

  -- none has a code whose chain is empty
  pub none_has : (code : List ℕ) (slots : List Slot) → ((k : ℕ) → k < length (keys slots) → get_or (keys slots) k 0 ≢ key_of code) → NoneHas codes code slots
  none_has code [] none = tt
  none_has code (slot ∷ slots) none = (other_code code slot (none 0 (omega arith)), none_has code slots (λ k less. none (suc k) (omega (arith, less))))

  -- such a change leaves the levels
  pub levels_left : (code : List ℕ) (slots : List Slot) → NoneHas codes code slots → map level_of (map (assigned codes code) slots) ≡ map level_of slots
  levels_left code [] none = refl
  levels_left code (slot ∷ slots) none = λ i. cond-false (same_name (code_at codes slot.variable) code) slot.value slot.level none.0 i ∷ levels_left code slots none.1 i

  pub none_valued : (code digits : List ℕ) (slots : List Slot) → NoneHas codes code slots → NoneHas codes code (map (valued digits) slots)
  none_valued code digits [] none = tt
  none_valued code digits (slot ∷ slots) none = (none.0, none_valued code digits slots none.1)
