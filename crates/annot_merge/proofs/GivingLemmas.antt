-- Where a merge gives no note.
use Rattle.std.proofs.Common.{◌≡◌, ◌≤◌, ◌<◌, ◌-◌, ◌^◌, ℕ, zero, suc, List, [], ◌∷◌, ◌++◌, length, get_or, Option, Some, refl, sym, subst, append_assoc, arith}
use Rattle.std.proofs.lemmas.List.{append-nil}
use Rattle.la_base.specs.declared.wires.Mark.{Mark}
use Rattle.annot_merge.specs.declared.limit.Limit.{Limit}
use Rattle.std.specs.List.{All}
use Rattle.std.proofs.lemmas.List.Elements.{All-nil}
use Rattle.note_order.specs.declared.entry.Entry.{Entry}
use Rattle.annot_merge.specs.Bounds.{Allows, IsAllowed}
use Rattle.annot_merge.specs.Places.{StopsAt}
use Rattle.annot_merge.specs.Held.{GivesNone, StandsFor, held_in}
use Rattle.annot_merge.specs.declared.merge.Merge.{Merge}
use Rattle.annot_merge.proofs.MergeLemmas.{ended_allow, gives_first, gives_none, gives_not, none_given}

pub none_held : (m : Merge) → held_in m ≡ [] → GivesNone m m
none_held m is = record {
  stands = λ marks given s. s;
  none = λ marks given s. subst (All (λ other. IsAllowed m.count marks other → ⊥)) (sym is) (All-nil (λ other. IsAllowed m.count marks other → ⊥));
  all_given = λ marks given s ended goes. none_given m.count m.bounds.items m.limit (held_in m) is marks given s goes;
}

pub first_waits : (m : Merge) (e : Entry) (rest : List Entry) → held_in m ≡ e ∷ rest → e.note.start ≤ 2 ^ 64 - 1 → e.instance ≤ 2 ^ 32 - 1 → (Allows (Some m.limit.start) m.limit.instance e → ⊥) → GivesNone m m
first_waits m e rest is start instance never = record {
  stands = λ marks given s. s;
  none = λ marks given s. gives_none m.count m.bounds.items m.limit (held_in m) e rest is start instance never marks given s;
  all_given = λ marks given s ended goes. absurd (gives_not m.count m.bounds.items m.limit (held_in m) e rest is start instance never marks given s (ended_allow m.count marks e ended));
}

-- the first, if any, isn't allowed
pub waits : (m : Merge) → ((e : Entry) (rest : List Entry) → held_in m ≡ e ∷ rest → StopsAt m.limit e) → GivesNone m m
waits m stops = by (held_in m) refl
  where
    by : (l : List Entry) → held_in m ≡ l → GivesNone m m
    by [] none = none_held m none
    by (e ∷ rest) some =
        let s = stops e rest some in
        first_waits m e rest some (omega (arith, s.1)) (omega (arith, s.2)) s.0

-- notes that the limit allows, one behind another
pub gives_many : (count : ℕ) (bounds : List (Option ℕ)) (limit : Limit) (notes rest : List Entry) → All (λ entry. Allows (Some limit.start) limit.instance entry) notes → (marks : ℕ → List Mark) (given : List Entry)
    → StandsFor count bounds limit (notes ++ rest) marks given → All (λ entry. IsAllowed count marks entry) notes × StandsFor count bounds limit rest marks (given ++ notes)
gives_many count bounds limit [] rest each marks given s = (All-nil (λ entry. IsAllowed count marks entry), subst (StandsFor count bounds limit rest marks) (sym (append-nil given)) s)
gives_many count bounds limit (e ∷ es) rest each marks given s =
    let r = gives_first count bounds limit (e ∷ es ++ rest) e (es ++ rest) refl (each 0 e (omega arith)) marks given s in
    let more = gives_many count bounds limit es rest (λ k d low. each (suc k) d (omega (arith, low))) marks (given ++ e ∷ []) r.1 in
    (both r.0 more.0, subst (StandsFor count bounds limit rest marks) (append_assoc given (e ∷ []) es) more.1)
  where
    both : IsAllowed count marks e → All (λ entry. IsAllowed count marks entry) es → (k : ℕ) (d : Entry) → k < suc (length es) → IsAllowed count marks (get_or (e ∷ es) k d)
    both here more zero d low = here
    both here more (suc k) d low = more k d (omega (arith, low))
