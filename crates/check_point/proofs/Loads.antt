-- One machine after another is loaded.
use Rattle.std.proofs.Common.{◌≡◌, ◌≢◌, inl, inr, ℕ, ◌+◌, ◌≤◌, ◌<◌, List, [], ◌∷◌, ◌++◌, length, drop, get_or, refl, sym, ◌∙◌, ap, subst, arith}
use Rattle.std.proofs.lemmas.Bool.{cases_eq}
use Rattle.std.proofs.lemmas.List.{drop_more, drop-drop, get_or-drop}
use Rattle.check_point.specs.Checks.{AreEntries, entry_bytes}
use Rattle.check_point.specs.Loading.{IsLoaded, LoadedTo}
use Rattle.check_point.specs.laws.EntryLaws.{behind_first}

-- what is behind the entries before a place
pub record At (kinds : List ℕ) (saves : List (List ℕ)) (rest : List ℕ) (n : ℕ) : Type 0 where
  pub entries : AreEntries (drop n kinds) (drop n saves) rest

module _ (kinds : List ℕ) (saves : List (List ℕ)) (rest saved behind : List ℕ) (n : ℕ) (within : n < length kinds)
    (is : rest ≡ entry_bytes (get_or kinds n 0) saved ++ behind) (e : AreEntries (drop n kinds) (drop n saves) rest) where
  first : (more : List (List ℕ)) × (drop n saves ≡ saved ∷ more) × AreEntries (drop (n + 1) kinds) more behind
  first = behind_first (get_or kinds n 0) (drop (n + 1) kinds) (drop n saves) rest saved behind is
      (subst (λ (ks : List ℕ). AreEntries ks (drop n saves) rest) (drop_more kinds n 0 within) e)

  -- the first entry is the one at this place, and the others follow
  pub at_place : get_or saves n [] ≡ saved
  at_place = ap (λ (k : ℕ). get_or saves k []) (omega arith) ∙ sym (get_or-drop n saves 0 []) ∙ ap (λ (l : List (List ℕ)). get_or l 0 []) first.1

  pub behind_place : AreEntries (drop (n + 1) kinds) (drop (n + 1) saves) behind
  behind_place =
      let others : first.0 ≡ drop (n + 1) saves = ap (λ (l : List (List ℕ)). drop 1 l) (sym first.1) ∙ drop-drop 1 n saves in
      subst (λ (l : List (List ℕ)). AreEntries (drop (n + 1) kinds) l behind) others first.2

-- there is an entry at each place
pub some_entry : (kinds : List ℕ) (saves : List (List ℕ)) (rest : List ℕ) (n : ℕ) → n < length kinds → AreEntries (drop n kinds) (drop n saves) rest
    → (saved : List ℕ) × (behind : List ℕ) × (length saved ≤ 240) × (rest ≡ entry_bytes (get_or kinds n 0) saved ++ behind)
some_entry kinds saves rest n within e = by (drop n saves) (subst (λ (ks : List ℕ). AreEntries ks (drop n saves) rest) (drop_more kinds n 0 within) e)
  where
    by : (ss : List (List ℕ)) → AreEntries (get_or kinds n 0 ∷ drop (n + 1) kinds) ss rest → (saved : List ℕ) × (behind : List ℕ) × (length saved ≤ 240) × (rest ≡ entry_bytes (get_or kinds n 0) saved ++ behind)
    by [] none = absurd none
    by (s ∷ ss) some = (s, some.0, some.1, some.2)

module _ {M S I : Type 0} (setup : M → S) (consumed : M → I → Type 0) (saves : M → List ℕ → Type 0) (old : List M) (all : List (List ℕ)) where
  pub none_loaded : LoadedTo setup consumed saves old old all 0
  none_loaded = record { count = refl; loaded = λ j d below. absurd (omega (arith, below)); others = λ j d above. refl }

  -- one more is loaded
  pub one_loaded : (mid new : List M) (n : ℕ) (saved : List ℕ) → LoadedTo setup consumed saves old mid all n → get_or all n [] ≡ saved → length new ≡ length mid
      → ((j : ℕ) (d : M) → j ≢ n → get_or new j d ≡ get_or mid j d) → ((d : M) → IsLoaded setup consumed saves (get_or mid n d) (get_or new n d) saved) → LoadedTo setup consumed saves old new all (n + 1)
  one_loaded mid new n saved so_far is count others loaded = record {
    count = count ∙ so_far.count;
    loaded = λ j d below. elim (cases_eq j n) [
      | inl same ↦ subst (λ (k : ℕ). IsLoaded setup consumed saves (get_or old k d) (get_or new k d) (get_or all k [])) (sym same)
          (subst (λ (bytes : List ℕ). IsLoaded setup consumed saves (get_or old n d) (get_or new n d) bytes) (sym is)
          (subst (λ (m : M). IsLoaded setup consumed saves m (get_or new n d) saved) (so_far.others n d (omega arith)) (loaded d)))
      | inr apart ↦ subst (λ (m : M). IsLoaded setup consumed saves (get_or old j d) m (get_or all j [])) (sym (others j d apart)) (so_far.loaded j d (omega (arith, below, apart)))
    ];
    others = λ j d above. others j d (λ same. absurd (omega (arith, same, above))) ∙ so_far.others j d (omega (arith, above));
  }
