-- The members of a set, one place after another.
use Rattle.std.proofs.Common.{◌≡◌, ◌==◌, ℕ, zero, suc, ◌^◌, ◌+◌, ◌-◌, ◌*◌, ◌<◌, ◌≤◌, Bool, true, false, cond, List, [], ◌∷◌, ◌++◌, length, map, filter, refl, sym, ◌∙◌, ap, subst, arith, append_assoc, length-append}
use Rattle.std.specs.Fmt.{decimal}
use Rattle.std.specs.List.{join_with_byte, range_with_len}
use Rattle.std.proofs.lemmas.List.{map-append, map-id, append-nil, length-map}
use Rattle.std.proofs.lemmas.List.Elements.{filter-append}
use Rattle.std.proofs.lemmas.List.FromFn.{map-range_with_len_more}
use Rattle.std.proofs.lemmas.Nat.Bits.{bit_at_above}
use Rattle.listing_out.specs.StopLines.{is_member, separator, joined, members_below}

-- one more piece behind others, with the separator between
join_more : (c : ℕ) (pieces : List (List ℕ)) (piece : List ℕ) → 0 < length pieces → join_with_byte c (pieces ++ piece ∷ []) ≡ join_with_byte c pieces ++ c ∷ piece
join_more c [] piece some = absurd (omega arith)
join_more c (x ∷ []) piece some = refl
join_more c (x ∷ y ∷ pieces) piece some =
    ap (λ (l : List ℕ). x ++ c ∷ l) (join_more c (y ∷ pieces) piece (omega arith)) ∙ sym (append_assoc x (c ∷ join_with_byte c (y ∷ pieces)) (c ∷ piece))

range_more : (n : ℕ) → range_with_len 0 (n + 1) ≡ range_with_len 0 n ++ n ∷ []
range_more n = sym (map-id (range_with_len 0 (n + 1))) ∙ map-range_with_len_more (λ (k : ℕ). k) 0 n n (omega arith) ∙ ap (λ (l : List ℕ). l ++ n ∷ []) (map-id (range_with_len 0 n))

members_step : (n set : ℕ) (b : Bool) → is_member set n ≡ b → members_below (n + 1) set ≡ members_below n set ++ cond b (n ∷ []) []
members_step n set b is =
    ap (filter (is_member set)) (range_more n) ∙ filter-append (is_member set) (range_with_len 0 n) (n ∷ [])
    ∙ ap (λ (t : Bool). members_below n set ++ cond t (n ∷ []) []) is

-- what a loop over the places has appended to a line, and whether that is nothing yet
pub record Listed (before line : List ℕ) (first : Bool) (set n : ℕ) : Type 0 where
  pub text : line ≡ before ++ joined (members_below n set)
  pub none : first ≡ true → members_below n set ≡ []
  pub some : first ≡ false → 0 < length (members_below n set)
  pub short : length line ≤ length before + 2 * n

module _ (before line : List ℕ) (set n : ℕ) where
  pub listed_none : Listed before before true set 0
  listed_none = record {
    text = sym (append-nil before);
    none = λ e. refl;
    some = λ e. cc;
    short = omega arith;
  }

  -- a place that isn't in the set
  pub listed_pass : (first : Bool) → Listed before line first set n → is_member set n ≡ false → Listed before line first set (n + 1)
  listed_pass first so_far is =
      let same : members_below (n + 1) set ≡ members_below n set = members_step n set false is ∙ append-nil (members_below n set) in
      record {
        text = so_far.text ∙ ap (λ (l : List ℕ). before ++ joined l) (sym same);
        none = λ e. same ∙ so_far.none e;
        some = λ e. subst (λ (l : List ℕ). 0 < length l) (sym same) (so_far.some e);
        short = omega (arith, so_far.short);
      }

  -- a place that is in the set
  pub listed_next : (first : Bool) (longer : List ℕ) → Listed before line first set n → is_member set n ≡ true → longer ≡ line ++ separator first ++ decimal n → length longer ≤ length line + 2
      → Listed before longer false set (n + 1)
  listed_next true longer so_far is more len =
      let none = so_far.none refl in
      let now : members_below (n + 1) set ≡ n ∷ [] = members_step n set true is ∙ ap (λ (l : List ℕ). l ++ n ∷ []) none in
      record {
        text = more ∙ ap (λ (l : List ℕ). l ++ [] ++ decimal n) (so_far.text ∙ ap (λ (l : List ℕ). before ++ joined l) none ∙ append-nil before)
            ∙ ap (λ (l : List ℕ). l ++ decimal n) (append-nil before) ∙ ap (λ (l : List ℕ). before ++ joined l) (sym now);
        none = λ e. cc;
        some = λ e. subst (λ (l : List ℕ). 0 < length l) (sym now) (omega arith);
        short = omega (arith, so_far.short, len);
      }
  listed_next false longer so_far is more len =
      let some = so_far.some refl in
      let now : members_below (n + 1) set ≡ members_below n set ++ n ∷ [] = members_step n set true is in
      let pieces = map decimal (members_below n set) in
      let last : joined (members_below (n + 1) set) ≡ joined (members_below n set) ++ 44 ∷ decimal n =
      ap joined now ∙ ap (join_with_byte 44) (map-append decimal (members_below n set) (n ∷ [])) ∙ join_more 44 pieces (decimal n) (subst (λ (k : ℕ). 0 < k) (sym (length-map (members_below n set) decimal)) some) in
      record {
        text = more ∙ ap (λ (l : List ℕ). l ++ 44 ∷ [] ++ decimal n) so_far.text
            ∙ append_assoc (before ++ joined (members_below n set)) (44 ∷ []) (decimal n) ∙ append_assoc before (joined (members_below n set)) (44 ∷ decimal n)
            ∙ ap (λ (l : List ℕ). before ++ l) (sym last);
        none = λ e. cc;
        some = λ e. subst (λ (l : List ℕ). 0 < length l) (sym now) (omega (arith, length-append (members_below n set) (n ∷ [])));
        short = omega (arith, so_far.short, len);
      }

-- no place from n on is in a set that is less than 2^n
pub listed_rest : (before line : List ℕ) (set n k : ℕ) (first : Bool) → set < 2 ^ n → Listed before line first set n → Listed before line first set (n + k)
listed_rest before line set n zero first small so_far = let same : n ≡ n + 0 = omega arith in subst (λ (m : ℕ). Listed before line first set m) same so_far
listed_rest before line set n (suc k) first small so_far =
    let same : n + k + 1 ≡ n + suc k = omega arith in
    let absent : is_member set (n + k) ≡ false = ap (λ (b : ℕ). b == 1) (bit_at_above set n (n + k) small (omega arith)) in
    subst (λ (m : ℕ). Listed before line first set m) same (listed_pass before line set (n + k) first (listed_rest before line set n k first small so_far) absent)

-- so these are all
pub listed_all : (before line : List ℕ) (set n : ℕ) (first : Bool) → n ≤ 8 → set < 2 ^ n → Listed before line first set n → Listed before line first set 8
listed_all before line set n first few small so_far =
    let same : n + (8 - n) ≡ 8 = omega arith in
    subst (λ (m : ℕ). Listed before line first set m) same (listed_rest before line set n (8 - n) first small so_far)
