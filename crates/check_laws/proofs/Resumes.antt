-- Machines that were loaded from a check stand on what it was made behind.
use Rattle.std.proofs.Common.{◌≡◌, ℕ, suc, ◌<◌, List, [], ◌∷◌, ◌++◌, map, length, get_or, Option, refl, sym, ◌∙◌, ap, ap₂, subst, arith}
use Rattle.std.proofs.Math.ListN.{get_or-map}
use Rattle.std.proofs.lemmas.List.{length-map}
use Rattle.la_base.specs.declared.wires.Out.{Out}
use Rattle.decoder_core.specs.Inputs.{Item}
use Rattle.tree_runs.specs.Machines.{Stand}
use Rattle.tree_runs.specs.Runs.{StandOn, input_at, nodes_of}
use Rattle.std.specs.Int.{w64, to_be_bytes}
use Rattle.decoder_core.specs.Keeping.{OneSaved}
use Rattle.check_point.specs.Checks.{AllSave, AreEntries}
use Rattle.check_point.specs.Loading.{LoadedTo, RefusedAs}
use Rattle.check_point.specs.declared.faults.CheckWhy.{CheckWhy}
use Rattle.check_point.specs.declared.faults.CheckWhy.TheVariants.{Many, Form, Fit}
use Rattle.check_point.specs.laws.EntryLaws.{one_tail, one_word}
use Rattle.check_laws.specs.Resuming.{IsCheckBehind}

some_of : {M : Type 0} (xs : List M) → 0 < length xs → M
some_of [] some = absurd (omega (arith, some))
some_of (x ∷ xs) some = x

module _ {M S : Type 0} (setup : M → S) where
  setup_at : (xs ys : List M) → map setup xs ≡ map setup ys → (j : ℕ) (d : M) → setup (get_or xs j d) ≡ setup (get_or ys j d)
  setup_at xs ys is j d = sym (get_or-map setup xs j d) ∙ ap (λ (l : List S). get_or l j (setup d)) is ∙ get_or-map setup ys j d

  -- lists of machines with the same setups at each place
  same_setups : (xs ys : List M) → length xs ≡ length ys → ((j : ℕ) (d : M) → j < length xs → setup (get_or xs j d) ≡ setup (get_or ys j d)) → map setup xs ≡ map setup ys
  same_setups [] [] len each = refl
  same_setups [] (y ∷ ys) len each = absurd (omega (arith, len))
  same_setups (x ∷ xs) [] len each = absurd (omega (arith, len))
  same_setups (x ∷ xs) (y ∷ ys) len each =
      ap₂ (λ (s : S) (l : List S). s ∷ l) (each 0 x (omega arith)) (same_setups xs ys (omega (arith, len)) (λ j d below. each (suc j) d (omega (arith, below))))

  module _ (outputs : S → List Item → List Out) (consumed : M → List Item → Type 0) (saves : M → List ℕ → Type 0) (kinds : List ℕ) (parents : List (Option ℕ)) (old new : List M)
      (count : length kinds ≡ length old) (each : length old ≡ length parents) where
    module _ (all : List (List ℕ)) (loaded : LoadedTo setup consumed saves old new all (length kinds)) where
      pub loaded_setups : map setup new ≡ map setup old
      loaded_setups = same_setups new old loaded.count (λ j d below. let l = loaded.count in (loaded.loaded j d (omega (arith, below, l, count))).same)

      pub loaded_stand : (others : List M) → AllSave saves others all → map setup others ≡ map setup old → (earlier : List ℕ)
          → StandOn outputs (map setup old) parents (Stand consumed others) earlier → StandOn outputs (map setup old) parents (Stand consumed new) earlier
      loaded_stand others save alike earlier stand = λ j below.
          let l = loaded.count in
          let stood = stand j below in (
            omega (arith, below, l, each),
            λ d.
                let one = loaded.loaded j d (omega (arith, below, count, each)) in
                one.stands (get_or others j d) (input_at outputs (nodes_of (map setup old) parents) earlier j) (setup_at others old alike j d ∙ sym one.same) (save.each j d stood.0) (stood.1 d),
          )

    -- the word of a check of machines of these setups isn't refused
    pub never_refused : (word : List ℕ) (instance : ℕ) (why : CheckWhy) → RefusedAs setup consumed saves word kinds old new instance why → (earlier : List ℕ)
        → IsCheckBehind setup outputs consumed saves kinds parents (map setup old) word earlier → ⊥
    never_refused word instance Many refused earlier b = refused
    never_refused word instance Form refused earlier b = refused.2 (length earlier) b.on.check.all (b.bytes, b.word_is, b.on.check.check)
    never_refused word instance Fit refused earlier b =
        let same = (one_word word kinds refused.0 (length earlier) refused.1 b.on.check.all refused.2 (b.bytes, b.word_is, b.on.check.check)).1 in
        let within = refused.3 in
        let lens : length b.on.machines ≡ length old = sym (length-map b.on.machines setup) ∙ ap length b.on.setups_are ∙ length-map old setup in
        let d = some_of b.on.machines (omega (arith, within, lens, count)) in
        refused.5 d (get_or b.on.machines instance d) (setup_at b.on.machines old b.on.setups_are instance d)
        (subst (λ (l : List (List ℕ)). saves (get_or b.on.machines instance d) (get_or l instance [])) (sym same) (b.on.check.save.each instance d (omega (arith, within, lens, count))))

same_lists : (xs ys : List (List ℕ)) → length xs ≡ length ys → ((j : ℕ) → j < length xs → get_or xs j [] ≡ get_or ys j []) → xs ≡ ys
same_lists [] [] len each = refl
same_lists [] (y ∷ ys) len each = absurd (omega (arith, len))
same_lists (x ∷ xs) [] len each = absurd (omega (arith, len))
same_lists (x ∷ xs) (y ∷ ys) len each =
    ap₂ (λ (s : List ℕ) (l : List (List ℕ)). s ∷ l) (each 0 (omega arith)) (same_lists xs ys (omega (arith, len)) (λ j below. each (suc j) (omega (arith, below))))

module _ {M S : Type 0} (setup : M → S) (outputs : S → List Item → List Out) (consumed : M → List Item → Type 0) (saves : M → List ℕ → Type 0) (one_saved : OneSaved setup consumed saves)
    (kinds : List ℕ) (parents : List (Option ℕ)) (setups : List S) (each : length setups ≡ length parents) (word another earlier : List ℕ)
    (a : IsCheckBehind setup outputs consumed saves kinds parents setups word earlier) (b : IsCheckBehind setup outputs consumed saves kinds parents setups another earlier) where
  count : (c : List M) → map setup c ≡ setups → length c ≡ length setups
  count c is = sym (length-map c setup) ∙ ap length is

  -- setups and samples make the check
  pub one_check : a.bytes ≡ b.bytes
  one_check =
      let mine = count a.on.machines a.on.setups_are in
      let theirs = count b.on.machines b.on.setups_are in
      let mine_all = a.on.check.save.count in
      let theirs_all = b.on.check.save.count in
      let all : a.on.check.all ≡ b.on.check.all = same_lists a.on.check.all b.on.check.all (mine_all ∙ mine ∙ sym theirs ∙ sym theirs_all) (λ j below.
      let d = some_of a.on.machines (omega (arith, below, mine_all)) in
      let in_mine : j < length a.on.machines = omega (arith, below, mine_all) in
      let in_theirs : j < length b.on.machines = omega (arith, below, mine_all, mine, theirs) in
      let in_parents : j < length parents = omega (arith, below, mine_all, mine, each) in
      one_saved (get_or a.on.machines j d) (get_or b.on.machines j d) (input_at outputs (nodes_of setups parents) earlier j) (get_or a.on.check.all j []) (get_or b.on.check.all j [])
      (setup_at setup a.on.machines b.on.machines (a.on.setups_are ∙ sym b.on.setups_are) j d) ((a.on.stand j in_parents).1 d) ((b.on.stand j in_parents).1 d) (a.on.check.save.each j d in_mine) (b.on.check.save.each j d in_theirs)) in
      let tail = one_tail kinds b.on.check.all a.on.check.check.tail b.on.check.check.tail (subst (λ (l : List (List ℕ)). AreEntries kinds l a.on.check.check.tail) all a.on.check.check.entries) b.on.check.check.entries in
      a.on.check.check.form ∙ ap (λ (l : List ℕ). 1 ∷ to_be_bytes w64 (length earlier) ++ length kinds ∷ l) tail ∙ sym b.on.check.check.form
