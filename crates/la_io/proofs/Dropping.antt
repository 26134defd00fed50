-- Bytes of one kind, taken out of a part of a buffer.
use Rattle.std.proofs.Common.{◌≡◌, ℕ, zero, suc, ◌+◌, ◌-◌, ◌≤◌, ◌<◌, ◌==◌, ◌||◌, ◌⊎◌, inl, inr, not, List, [], ◌∷◌, ◌++◌, take, drop, length, refl, sym, ◌∙◌, ap, arith, length-take-le, append_assoc, slice_index, slice_range, set, Bool, true, false, cond}
use Rattle.std.proofs.lemmas.List.{append-nil, take_more, take_more_set, drop-set-lt, drop-append-le, drop_more}
use Rattle.std.proofs.Math.Seq.{take-add}
use Rattle.std.proofs.lemmas.List.Elements.{filter-append}
use Rattle.la_io.specs.Intake.{without}

-- none of so many bytes at the front is this one
abbrev pub NoneTo : List ℕ → ℕ → ℕ → Type 0
NoneTo bytes d count = (k : ℕ) → k < count → (slice_index bytes k == d) ≡ false

-- neither was found
pub neither : (was now : Bool) → (was || now) ≡ false → (was ≡ false) × (now ≡ false)
neither true now is = absurd cc is
neither false now is = (refl, is)

pub none_more : (bytes : List ℕ) (d count : ℕ) → NoneTo bytes d count → (slice_index bytes count == d) ≡ false → NoneTo bytes d (count + 1)
none_more bytes d count so_far next k below = by_place (search arith) where
  by_place : (k < count) ⊎ (k ≡ count) → (slice_index bytes k == d) ≡ false
  by_place (inl before) = so_far k before
  by_place (inr last) = ap (λ (n : ℕ). slice_index bytes n == d) last ∙ next

-- nothing is dropped then
pub without_none : (bytes : List ℕ) (d : ℕ) → NoneTo bytes d (length bytes) → without d bytes ≡ bytes
without_none [] d none = refl
without_none (byte ∷ bytes) d none =
    ap (λ (t : Bool). cond (not t) (byte ∷ without d bytes) (without d bytes)) (none zero (omega arith))
    ∙ ap (λ (l : List ℕ). byte ∷ l) (without_none bytes d (λ k below. none (suc k) (omega (arith, below))))

-- so it is with a block more
pub block_kept : (bytes : List ℕ) (from at block d : ℕ) → from ≤ at → at + block ≤ length bytes → without d (drop from (take at bytes)) ≡ drop from (take at bytes) → without d (slice_range bytes at (at + block)) ≡ slice_range bytes at (at + block)
    → without d (drop from (take (at + block) bytes)) ≡ drop from (take (at + block) bytes)
block_kept bytes from at block d order within so_far next =
    ap (λ (l : List ℕ). without d l) parts ∙ filter-append (λ byte. not (byte == d)) (drop from (take at bytes)) part ∙ (λ i. so_far i ++ next i) ∙ sym parts
  where
    part : List ℕ
    part = slice_range bytes at (at + block)

    size : at + block - at ≡ block
    size = omega arith

    parts : drop from (take (at + block) bytes) ≡ drop from (take at bytes) ++ part
    parts =
        ap (λ (l : List ℕ). drop from l) (take-add at block bytes ∙ ap (λ (n : ℕ). take at bytes ++ take n (drop at bytes)) (sym size))
        ∙ drop-append-le from (take at bytes) part (omega (arith, order, length-take-le at bytes (omega (arith, within))))

-- one more byte of those that are kept from
without_more : (old : List ℕ) (from at d : ℕ) → from ≤ at → at < length old → without d (drop from (take (at + 1) old)) ≡ without d (drop from (take at old)) ++ without d (slice_index old at ∷ [])
without_more old from at d order less =
    ap (λ (l : List ℕ). without d (drop from l)) (take_more old at 0 less)
    ∙ ap (λ (l : List ℕ). without d l) (drop-append-le from (take at old) (slice_index old at ∷ []) (omega (arith, order, length-take-le at old (omega (arith, less)))))
    ∙ filter-append (λ byte. not (byte == d)) (drop from (take at old)) (slice_index old at ∷ [])

one_kept : (x d : ℕ) → (x == d) ≡ false → without d (x ∷ []) ≡ x ∷ []
one_kept x d other = ap (λ (t : Bool). cond (not t) (x ∷ []) []) other

one_dropped : (x d : ℕ) → (x == d) ≡ true → without d (x ∷ []) ≡ []
one_dropped x d equal = ap (λ (t : Bool). cond (not t) (x ∷ []) []) equal

-- the byte at hand is that of before
byte_is : (old cur : List ℕ) (at : ℕ) → at < length cur → at < length old → drop at cur ≡ drop at old → slice_index cur at ≡ slice_index old at
byte_is old cur at less within ahead = head_is (sym (drop_more cur at 0 less) ∙ ahead ∙ drop_more old at 0 within) where
  head_is : {x y : ℕ} {xs ys : List ℕ} → x ∷ xs ≡ y ∷ ys → x ≡ y
  head_is e = cc

next_ahead : (old cur : List ℕ) (at : ℕ) → at < length cur → at < length old → drop at cur ≡ drop at old → drop (at + 1) cur ≡ drop (at + 1) old
next_ahead old cur at less within ahead = tail_is (sym (drop_more cur at 0 less) ∙ ahead ∙ drop_more old at 0 within) where
  tail_is : {x y : ℕ} {xs ys : List ℕ} → x ∷ xs ≡ y ∷ ys → xs ≡ ys
  tail_is e = cc

module _ (old cur : List ℕ) (from to at d : ℕ) (begun : from ≤ to) (order : to ≤ at) (less : at < length cur) (same : length cur ≡ length old)
    (kept : take to cur ≡ take from old ++ without d (drop from (take at old))) (ahead : drop at cur ≡ drop at old) where
  is : slice_index cur at ≡ slice_index old at
  is = byte_is old cur at less (omega (arith, less, same)) ahead

  more : without d (drop from (take (at + 1) old)) ≡ without d (drop from (take at old)) ++ without d (slice_index old at ∷ [])
  more = without_more old from at d (omega (arith, begun, order)) (omega (arith, less, same))

  pub keep_one : (slice_index cur at == d) ≡ false → take (to + 1) (set cur to (slice_index cur at)) ≡ take from old ++ without d (drop from (take (at + 1) old))
  keep_one other =
      take_more_set cur to (slice_index cur at) (omega (arith, order, less))
      ∙ ap (λ (l : List ℕ). l ++ slice_index cur at ∷ []) kept ∙ append_assoc (take from old) (without d (drop from (take at old))) (slice_index cur at ∷ [])
      ∙ ap (λ (l : List ℕ). take from old ++ (without d (drop from (take at old)) ++ l)) (sym (one_kept (slice_index cur at) d other) ∙ ap (λ (x : ℕ). without d (x ∷ [])) is)
      ∙ ap (λ (l : List ℕ). take from old ++ l) (sym more)

  pub keep_ahead : drop (at + 1) (set cur to (slice_index cur at)) ≡ drop (at + 1) old
  keep_ahead = drop-set-lt (at + 1) cur to (slice_index cur at) (omega (arith, order)) ∙ next_ahead old cur at less (omega (arith, less, same)) ahead

  pub drop_one : (slice_index cur at == d) ≡ true → take to cur ≡ take from old ++ without d (drop from (take (at + 1) old))
  drop_one equal =
      kept ∙ ap (λ (l : List ℕ). take from old ++ l) (sym (append-nil (without d (drop from (take at old)))))
      ∙ ap (λ (l : List ℕ). take from old ++ (without d (drop from (take at old)) ++ l)) (sym (one_dropped (slice_index cur at) d equal) ∙ ap (λ (x : ℕ). without d (x ∷ [])) is)
      ∙ ap (λ (l : List ℕ). take from old ++ l) (sym more)

  pub drop_ahead : drop (at + 1) cur ≡ drop (at + 1) old
  drop_ahead = next_ahead old cur at less (omega (arith, less, same)) ahead
