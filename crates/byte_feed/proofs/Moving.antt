-- One taking of bytes after another.
use Rattle.std.proofs.Common.{◌≡◌, ℕ, ◌+◌, ◌-◌, ◌^◌, ◌≤◌, ◌<◌, ◌⊎◌, inl, inr, List, [], ◌++◌, take, drop, length, refl, sym, ◌∙◌, ap, subst, arith, length-append, length-take, append_assoc, take-append-drop, slice_index, Option, Bool, true}
use Rattle.std.proofs.lemmas.List.{get_or-take, get_or_append_left, get_or-append_right, get_or-drop}
use Rattle.std.specs.Io.KnownBytes.{IsAtEnd}
use Rattle.std.proofs.KnownBytes.{Consumes-nil, Consumes-trans}
use Rattle.la_io.specs.Intake.{Front}
use Rattle.byte_feed.specs.Tokens.{is_blank}
use Rattle.byte_feed.specs.Blanks.{AllBlank, AllPlain}
use Rattle.byte_feed.specs.Moving.{Moves}

-- nothing was taken
pub moves_still : (old new : Front) (was : Bool) (left : Option (List ℕ)) → new.taken ≡ old.taken → Moves old new was was left left []
moves_still old new was left same = record {
  consumed = Consumes-nil left;
  taken = omega (arith, same);
  none = λ e. refl;
  stays = λ e. e;
  kept = λ e. refl;
  told = λ e. inl e;
}

pub moves_on : (a b c : Front) (was mid is : Bool) (l m n : Option (List ℕ)) (x y : List ℕ) → Moves a b was mid l m x → Moves b c mid is m n y → Moves a c was is l n (x ++ y)
moves_on a b c was mid is l m n x y first second = record {
  consumed = Consumes-trans l m n x y first.consumed second.consumed;
  taken = omega (arith, first.taken, second.taken, length-append x y);
  none = λ e i. first.none e i ++ second.none (first.stays e) i;
  stays = λ e. second.stays (first.stays e);
  kept = λ e. second.kept (first.stays e) ∙ first.kept e;
  told = λ e. by_second (second.told e);
} where
  by_first : (mid ≡ true) → (was ≡ true) ⊎ (IsAtEnd m × (b.taken < 2 ^ 60)) → (was ≡ true) ⊎ (IsAtEnd n × (c.taken < 2 ^ 60))
  by_first e (inl w) = inl w
  by_first e (inr at) = inr (subst IsAtEnd (sym (second.kept e)) at.0, omega (arith, at.1, second.taken, ap length (second.none e)))

  by_second : (mid ≡ true) ⊎ (IsAtEnd n × (c.taken < 2 ^ 60)) → (was ≡ true) ⊎ (IsAtEnd n × (c.taken < 2 ^ 60))
  by_second (inl e) = by_first e (first.told e)
  by_second (inr at) = inr at

-- a front was let go
pub moves_go : (a b c : Front) (was is : Bool) (l m : Option (List ℕ)) (x : List ℕ) → Moves a b was is l m x → c.taken ≡ b.taken → Moves a c was is l m x
moves_go a b c was is l m x first same = record {
  consumed = first.consumed;
  taken = omega (arith, first.taken, same);
  none = first.none;
  stays = first.stays;
  kept = first.kept;
  told = λ e. by_told (first.told e);
} where
  by_told : (was ≡ true) ⊎ (IsAtEnd m × (b.taken < 2 ^ 60)) → (was ≡ true) ⊎ (IsAtEnd m × (c.taken < 2 ^ 60))
  by_told (inl w) = inl w
  by_told (inr at) = inr (at.0, omega (arith, at.1, same))

-- blanks at the front, as a list
pub front_blank : (bytes : List ℕ) (n : ℕ) → n ≤ length bytes → AllBlank bytes n → AllBlank (take n bytes) (length (take n bytes))
front_blank bytes n within blank k less =
    let below : k < n = omega (arith, less, length-take n bytes) in
    ap is_blank (get_or-take n bytes k 0 below) ∙ blank k below

pub more_blank : (a b : List ℕ) → AllBlank a (length a) → AllBlank b (length b) → AllBlank (a ++ b) (length (a ++ b))
more_blank a b first second k less = by_place (search arith) where
  by_place : (k < length a) ⊎ (length a ≤ k) → is_blank (slice_index (a ++ b) k) ≡ true
  by_place (inl below) = ap is_blank (get_or_append_left a b 0 k below) ∙ first k below
  by_place (inr above) = ap is_blank (get_or-append_right a b (length a) k 0 refl above) ∙ second (k - length a) (omega (arith, less, length-append a b))

-- bytes behind blanks, of which some are blanks
pub split_on : (old x blanks mid y new : List ℕ) (n : ℕ) → old ++ x ≡ blanks ++ mid → new ≡ mid ++ y → old ++ (x ++ y) ≡ (blanks ++ take n new) ++ drop n new
split_on old x blanks mid y new n so_far more =
    sym (append_assoc old x y) ∙ ap (λ (l : List ℕ). l ++ y) so_far ∙ append_assoc blanks mid y ∙ ap (λ (l : List ℕ). blanks ++ l) (sym more ∙ sym (take-append-drop n new))
    ∙ sym (append_assoc blanks (take n new) (drop n new))

-- what stands first behind a front
pub first_behind : (bytes : List ℕ) (n : ℕ) → slice_index (drop n bytes) 0 ≡ slice_index bytes n
first_behind bytes n = let same : n + 0 ≡ n = omega arith in get_or-drop n bytes 0 0 ∙ ap (λ (k : ℕ). slice_index bytes k) same

-- what was no blank is none with more bytes behind
pub plain_more : (old new y : List ℕ) (n : ℕ) → n ≤ length old → new ≡ old ++ y → AllPlain old n → AllPlain new n
plain_more old new y n within is plain k below = ap (λ (l : List ℕ). is_blank (slice_index l k)) is ∙ ap is_blank (get_or_append_left old y 0 k (omega arith)) ∙ plain k below
