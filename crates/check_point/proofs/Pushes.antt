-- One machine after another is appended.
use Rattle.std.proofs.Common.{◌≡◌, ℕ, zero, suc, ◌≤◌, ◌<◌, List, [], ◌∷◌, ◌++◌, length, get_or, refl, sym, ◌∙◌, ap, subst, arith}
use Rattle.std.proofs.lemmas.List.{append-nil, append_assoc}
use Rattle.check_point.specs.Checks.{AllSave, AreEntries, PushesEntries, entry_bytes}

module _ {M : Type 0} (saves : M → List ℕ → Type 0) where
  pub nothing_pushed : (kinds : List ℕ) (machines : List M) (before : List ℕ) → length kinds ≡ 0 → length kinds ≡ length machines → PushesEntries saves kinds machines before before
  nothing_pushed [] [] before none count = record {
    all = [];
    save = record { count = refl; each = λ j d below. absurd (omega (arith, below)) };
    tail = [];
    entries = refl;
    behind = sym (append-nil before);
  }
  nothing_pushed [] (m ∷ ms) before none count = absurd (omega (arith, count))
  nothing_pushed (k ∷ ks) machines before none count = absurd (omega (arith, none))

  all_save : (machine : M) (others : List M) (saved : List ℕ) (all : List (List ℕ)) → saves machine saved → AllSave saves others all → AllSave saves (machine ∷ others) (saved ∷ all)
  all_save machine others saved all its a = record { count = ap (λ (n : ℕ). suc n) a.count; each = by }
    where
      by : (j : ℕ) (d : M) → j < length (machine ∷ others) → saves (get_or (machine ∷ others) j d) (get_or (saved ∷ all) j [])
      by zero d below = its
      by (suc j) d below = a.each j d (omega (arith, below))

  pub one_pushed : (kinds : List ℕ) (machines : List M) (place : ℕ) (other_kinds : List ℕ) (machine : M) (others : List M) (saved before mid after : List ℕ) → kinds ≡ place ∷ other_kinds → machines ≡ machine ∷ others
      → saves machine saved → length saved ≤ 240 → mid ≡ before ++ entry_bytes place saved → PushesEntries saves other_kinds others mid after → PushesEntries saves kinds machines before after
  one_pushed kinds machines place other_kinds machine others saved before mid after kinds_is machines_is its few is p = record {
    all = saved ∷ p.all;
    save = subst (λ (ms : List M). AllSave saves ms (saved ∷ p.all)) (sym machines_is) (all_save machine others saved p.all its p.save);
    tail = entry_bytes place saved ++ p.tail;
    entries = subst (λ (ks : List ℕ). AreEntries ks (saved ∷ p.all) (entry_bytes place saved ++ p.tail)) (sym kinds_is) (p.tail, few, refl, p.entries);
    behind = p.behind ∙ ap (λ (l : List ℕ). l ++ p.tail) is ∙ append_assoc before (entry_bytes place saved) p.tail;
  }
