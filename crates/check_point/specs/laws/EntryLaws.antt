-- Entries, one after another.
use Rattle.std.proofs.Common.{◌≡◌, ℕ, ◌^◌, ◌<◌, ◌≤◌, arith, Bool, true, false, MatchBool, List, [], ◌∷◌, ◌++◌, length, take, drop, get_or, refl, sym, ◌∙◌, ap, subst}
use Rattle.std.proofs.lemmas.List.{take_at, drop_at}
use Rattle.std.specs.Int.{w64, to_be_bytes, from_be_bytes}
use Rattle.std.proofs.lemmas.Nat.{from_be_bytes-to_be_bytes_8}
use Rattle.hex.proofs.HexLemmas.{decode_of-same}
use Rattle.check_point.specs.Checks.{AreEntries, IsWord, entry_bytes}

-- bytes begin with one entry of a kind at most
pub one_entry : (place : ℕ) (a b x y : List ℕ) → entry_bytes place a ++ x ≡ entry_bytes place b ++ y → (a ≡ b) × (x ≡ y)
one_entry place a b x y is =
    let len : length a ≡ length b = ap (λ (l : List ℕ). get_or l 1 0) is in
    let tails : a ++ x ≡ b ++ y = ap (λ (l : List ℕ). drop 2 l) is in (
      sym (take_at a x (length a) refl) ∙ ap (λ (l : List ℕ). take (length a) l) tails ∙ take_at b y (length a) (sym len),
      sym (drop_at a x (length a) refl) ∙ ap (λ (l : List ℕ). drop (length a) l) tails ∙ drop_at b y (length a) (sym len),
    )

-- the entries behind the first one
pub behind_first : (place : ℕ) (others : List ℕ) (saves : List (List ℕ)) (bytes saved rest : List ℕ) → bytes ≡ entry_bytes place saved ++ rest → AreEntries (place ∷ others) saves bytes
    → (more : List (List ℕ)) × (saves ≡ saved ∷ more) × AreEntries others more rest
behind_first place others [] bytes saved rest is none = absurd none
behind_first place others (s ∷ ss) bytes saved rest is e =
    let one = one_entry place s saved e.0 rest (sym e.2 ∙ is) in
    (ss, ap (λ (l : List ℕ). l ∷ ss) one.0, subst (λ (l : List ℕ). AreEntries others ss l) one.1 e.3)

pub entries_step : (kinds : List ℕ) (place : ℕ) (others : List ℕ) → kinds ≡ place ∷ others → (bytes saved rest : List ℕ) → length saved ≤ 240 → bytes ≡ entry_bytes place saved ++ rest
    → (r : Bool) → MatchBool r ((saves : List (List ℕ)) × AreEntries others saves rest) ((saves : List (List ℕ)) → ¬ AreEntries others saves rest)
    → MatchBool r ((saves : List (List ℕ)) × AreEntries kinds saves bytes) ((saves : List (List ℕ)) → ¬ AreEntries kinds saves bytes)
entries_step kinds place others kinds_is bytes saved rest few is true m =
    (saved ∷ m.0, subst (λ (ks : List ℕ). AreEntries ks (saved ∷ m.0) bytes) (sym kinds_is) (rest, few, is, m.1))
entries_step kinds place others kinds_is bytes saved rest few is false m = λ saves e.
    let b = behind_first place others saves bytes saved rest is (subst (λ (ks : List ℕ). AreEntries ks saves bytes) kinds_is e) in
    m b.0 b.2

-- bytes are the entries of one list of saves at most
pub one_entries : (kinds : List ℕ) (one other : List (List ℕ)) (bytes : List ℕ) → AreEntries kinds one bytes → AreEntries kinds other bytes → one ≡ other
one_entries [] [] [] bytes a b = refl
one_entries [] [] (s ∷ ss) bytes a b = absurd b
one_entries [] (s ∷ ss) other bytes a b = absurd a
one_entries (k ∷ ks) [] other bytes a b = absurd a
one_entries (k ∷ ks) (s ∷ ss) other bytes a b =
    let behind = behind_first k ks other bytes s a.0 a.2 b in
    ap (λ (l : List (List ℕ)). s ∷ l) (one_entries ks ss behind.0 a.0 a.3 behind.2) ∙ sym behind.1

-- a word is one check at most
pub one_word : (word : List ℕ) (kinds : List ℕ) (samples number : ℕ) (one other : List (List ℕ)) → IsWord word samples kinds one → IsWord word number kinds other → (samples ≡ number) × (one ≡ other)
one_word word kinds samples number one other a b =
    let bytes : a.0 ≡ b.0 = decode_of-same word a.0 b.0 a.1 b.1 in
    let form : 1 ∷ to_be_bytes w64 samples ++ length kinds ∷ a.2.tail ≡ 1 ∷ to_be_bytes w64 number ++ length kinds ∷ b.2.tail = sym a.2.form ∙ bytes ∙ b.2.form in
    let number_is : to_be_bytes w64 samples ≡ to_be_bytes w64 number = ap (λ (l : List ℕ). take 8 (drop 1 l)) form in
    let tail : a.2.tail ≡ b.2.tail = ap (λ (l : List ℕ). drop 10 l) form in
    let few : samples < 2 ^ 64 = (let f = a.2.few in omega (arith, f)) in
    let few_too : number < 2 ^ 64 = (let f = b.2.few in omega (arith, f)) in (
      sym (from_be_bytes-to_be_bytes_8 samples few) ∙ ap (λ (l : List ℕ). from_be_bytes w64 l) number_is ∙ from_be_bytes-to_be_bytes_8 number few_too,
      one_entries kinds one other b.2.tail (subst (λ (l : List ℕ). AreEntries kinds one l) tail a.2.entries) b.2.entries,
    )

-- what machines save makes their entries
pub one_tail : (kinds : List ℕ) (saves : List (List ℕ)) (one other : List ℕ) → AreEntries kinds saves one → AreEntries kinds saves other → one ≡ other
one_tail [] [] one other a b = a ∙ sym b
one_tail [] (s ∷ ss) one other a b = absurd a
one_tail (k ∷ ks) [] one other a b = absurd a
one_tail (k ∷ ks) (s ∷ ss) one other a b = a.2 ∙ ap (λ (l : List ℕ). entry_bytes k s ++ l) (one_tail ks ss a.0 b.0 a.3 b.3) ∙ sym b.2
