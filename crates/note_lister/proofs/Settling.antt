-- What may still be given of what a merge holds.
use Rattle.std.proofs.Common.{◌⊎◌, inl, inr, ℕ, zero, suc, ◌<◌, List, [], ◌∷◌, ◌++◌, Option, Some, None, refl, sym, subst, append_assoc, arith}
use Rattle.std.proofs.lemmas.Bool.{cases_eq, cases_lt}
use Rattle.std.proofs.lemmas.List.{append-nil}
use Rattle.std.proofs.lemmas.List.Elements.{All-nil}
use Rattle.la_base.specs.declared.wires.Mark.{Mark}
use Rattle.la_base.specs.declared.wires.Mark.TheVariants.{Note as NoteMark, Piece as PieceMark, Floor as FloorMark, End as EndMark}
use Rattle.note_order.specs.Order.{entry_of, in_order}
use Rattle.note_order.specs.declared.entry.Entry.{Entry}
use Rattle.annot_merge.specs.Bounds.{Allows, IsAllowed, bound_of}
use Rattle.annot_merge.specs.Marks.{Pushes}
use Rattle.annot_merge.specs.Merging.{Merges}
use Rattle.annot_merge.proofs.MergeLemmas.{gives, holds_more, holds_same, none_allowed}
use Rattle.annot_merge.proofs.Orders.{one_order, order_is_in_order}
use Rattle.note_lister.specs.Prompt.{NoneAllowed}

-- an instance allows a note or not
one_allows : (bound : Option ℕ) (j : ℕ) (e : Entry) → Allows bound j e ⊎ (Allows bound j e → ⊥)
one_allows None j e = inl tt
one_allows (Some floor) j e = elim (cases_lt floor e.note.start) [
  | inl below ↦ inr (λ a. omega (arith, below, a.0))
  | inr low ↦ elim (cases_eq floor e.note.start) [
    | inl same ↦ elim (cases_lt j e.instance) [
      | inl before ↦ inr (λ a. let k = a.1 same in omega (arith, k, before))
      | inr behind ↦ inl (low, λ _. behind)
    ]
    | inr differ ↦ inl (low, λ same. absurd (differ same))
  ]
]

-- so do all
all_allow : (count : ℕ) (marks : ℕ → List Mark) (e : Entry) → IsAllowed count marks e ⊎ (IsAllowed count marks e → ⊥)
all_allow zero marks e = inl (λ j within. absurd (omega (arith, within)))
all_allow (suc count) marks e = elim (all_allow count marks e) [
  | inr never ↦ inr (λ all. never (λ j within. all j (omega (arith, within))))
  | inl most ↦ elim (one_allows (bound_of (marks count)) count e) [
    | inr never ↦ inr (λ all. never (all count (omega arith)))
    | inl last ↦ inl (λ j within. elim (cases_eq j count) [
      | inl same ↦ subst (λ (k : ℕ). Allows (bound_of (marks k)) k e) (sym same) last
      | inr differ ↦ most j (omega (arith, within, differ))
    ])
  ]
]

-- further notes that may be given, until none may
pub record Settles (count : ℕ) (marks : ℕ → List Mark) (given : List Entry) : Type 0 where
  pub more : List Entry
  pub held : List Entry
  pub merges : Merges count marks (given ++ more) held
  pub prompt : NoneAllowed count marks held

pub settles : (count : ℕ) (marks : ℕ → List Mark) (given held : List Entry) → Merges count marks given held → Settles count marks given
settles count marks given [] m = record { more = []; held = []; merges = subst (λ l. Merges count marks l []) (sym (append-nil given)) m; prompt = All-nil (λ e. IsAllowed count marks e → ⊥) }
settles count marks given (e ∷ held) m = by (all_allow count marks e) (λ allowed. settles count marks (given ++ e ∷ []) held (gives count marks given held e m allowed))
  where
    by : IsAllowed count marks e ⊎ (IsAllowed count marks e → ⊥) → (IsAllowed count marks e → Settles count marks (given ++ e ∷ [])) → Settles count marks given
    by (inl allowed) rest =
        let r = rest allowed in
        record { more = e ∷ r.more; held = r.held; merges = subst (λ l. Merges count marks l r.held) (append_assoc given (e ∷ []) r.more) r.merges; prompt = r.prompt }
    by (inr never) rest = record { more = []; held = e ∷ held; merges = subst (λ l. Merges count marks l (e ∷ held)) (sym (append-nil given)) m; prompt = none_allowed count marks e held m.ordered never }

-- with one more mark
pub one_more : (count : ℕ) (marks after : ℕ → List Mark) (given held : List Entry) (i : ℕ) (mark : Mark) → i < count → Merges count marks given held → Pushes marks after i mark → Settles count after given
one_more count marks after given held i (NoteMark note) within m pushes =
    settles count after given (in_order (held ++ entry_of i note ∷ []))
    (holds_more count marks after given held (in_order (held ++ entry_of i note ∷ [])) i note within m pushes (record {
      ordered = order_is_in_order (held ++ entry_of i note ∷ []);
      same = sym (one_order (in_order (held ++ entry_of i note ∷ [])) (in_order (held ++ entry_of i note ∷ [])) (order_is_in_order (held ++ entry_of i note ∷ [])) (λ x. refl));
    }))
one_more count marks after given held i (PieceMark piece) within m pushes = settles count after given held (holds_same count marks after given held i (PieceMark piece) refl m pushes)
one_more count marks after given held i (FloorMark start) within m pushes = settles count after given held (holds_same count marks after given held i (FloorMark start) refl m pushes)
one_more count marks after given held i EndMark within m pushes = settles count after given held (holds_same count marks after given held i EndMark refl m pushes)
