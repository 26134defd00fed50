-- The alternatives of a condition, as they are bound one after another.
use Rattle.std.proofs.Common.{◌≡◌, ℕ, zero, suc, ◌+◌, ◌<◌, ◌≤◌, List, [], ◌∷◌, ◌++◌, length, drop, get_or, Result, Ok, Err, refl, sym, ◌∙◌, ap, subst, append_assoc, arith}
use Rattle.std.specs.String.{string_bytes}
use Rattle.la_base.specs.declared.samples.TheConstants.{MOST_PINS}
use Rattle.std.proofs.lemmas.List.{append-nil}
use Rattle.text_parts.specs.Reading.{then_read}
use Rattle.text_parts.specs.declared.chain.ChainWord.{ChainWord}
use Rattle.cond_words.specs.Binding.{Asks, Bound, IsBound, bind_terms, pins_after}
use Rattle.cond_words.specs.Grammar.{terms_of}
use Rattle.cond_words.specs.Words.{Meaning}
use Rattle.wait_cond.specs.declared.alt.Alt.{Alt}
use Rattle.cond_words.specs.declared.faults.ItemFault.{ItemFault}
use Rattle.cond_words.specs.declared.faults.BindError.{BindError}
use Rattle.cond_words.specs.declared.faults.BindError.TheVariants.{Fault, NoMemory}
use Rattle.cond_words.specs.declared.faults.BindFault.{BindFault}
use Rattle.run_asks.specs.Asking.{EachAsks, bind_all, in_entry, search_pins}
use Rattle.search_job.specs.Chosen.{AreTerms, Chooses, ChoosesOne, Chosen}

-- what was bound before what is read
abbrev behind : List (List Bound) → Result (List (List Bound)) BindFault → Result (List (List Bound)) BindFault
behind bounds read = then_read read (λ others. Ok (bounds ++ others))

-- the first k alternatives are bound
pub record ChosenSoFar (names : List (List ℕ)) (alternatives : List (List Meaning)) (k : ℕ) (pins : List ℕ) (alts : List Alt) : Type 0 where
  pub bounds : List (List Bound)
  pub reads : bind_all names 0 [] alternatives ≡ behind bounds (bind_all names k pins (drop k alternatives))
  pub pins_are : pins ≡ search_pins [] bounds
  pub asks : EachAsks [] bounds alts

behind_nothing : (read : Result (List (List Bound)) BindFault) → read ≡ behind [] read
behind_nothing (Ok bounds) = refl
behind_nothing (Err fault) = refl

behind_more : (bounds : List (List Bound)) (one : List Bound) (read : Result (List (List Bound)) BindFault) → behind bounds (then_read read (λ others. Ok (one ∷ others))) ≡ behind (bounds ++ one ∷ []) read
behind_more bounds one (Ok others) = ap (λ (l : List (List Bound)). Ok l) (sym (append_assoc bounds (one ∷ []) others))
behind_more bounds one (Err fault) = refl

pins_of-append : (pins : List ℕ) (bounds : List (List Bound)) (one : List Bound) → search_pins pins (bounds ++ one ∷ []) ≡ pins_after (search_pins pins bounds) one
pins_of-append pins [] one = refl
pins_of-append pins (b ∷ bounds) one = pins_of-append (pins_after pins b) bounds one

asks_more : (pins : List ℕ) (bounds : List (List Bound)) (alts : List Alt) (one : List Bound) (alt : Alt) → EachAsks pins bounds alts → Asks (pins_after (search_pins pins bounds) one) one alt → EachAsks pins (bounds ++ one ∷ []) (alts ++ alt ∷ [])
asks_more pins [] [] one alt each asks = (asks, tt)
asks_more pins [] (a ∷ alts) one alt each asks = absurd each
asks_more pins (b ∷ bounds) [] one alt each asks = absurd each
asks_more pins (b ∷ bounds) (a ∷ alts) one alt each asks = (each.0, asks_more (pins_after pins b) bounds alts one alt each.1 asks)

pub chosen_nothing : (names : List (List ℕ)) (alternatives : List (List Meaning)) → ChosenSoFar names alternatives 0 [] []
chosen_nothing names alternatives = record {
  bounds = [];
  reads = behind_nothing (bind_all names 0 [] alternatives);
  pins_are = refl;
  asks = tt;
}

module _ (names : List (List ℕ)) (alternatives : List (List Meaning)) (k : ℕ) (pins : List ℕ) (alts : List Alt) (s : ChosenSoFar names alternatives k pins alts) (terms : List Meaning)
    (next : drop k alternatives ≡ terms ∷ drop (k + 1) alternatives) where
  abbrev after : Result (List Bound) BindFault → Result (List (List Bound)) BindFault
  after read = then_read read (λ bounds. then_read (bind_all names (k + 1) (pins_after pins bounds) (drop (k + 1) alternatives)) (λ others. Ok (bounds ∷ others)))

  turn : bind_all names 0 [] alternatives ≡ behind s.bounds (after (in_entry k (bind_terms MOST_PINS names pins terms)))
  turn = s.reads ∙ ap (λ (l : List (List Meaning)). behind s.bounds (bind_all names k pins l)) next

  -- one more
  pub chosen_more : (new : List ℕ) (alt : Alt) → IsBound MOST_PINS names pins new terms alt → ChosenSoFar names alternatives (k + 1) new (alts ++ alt ∷ [])
  chosen_more new alt bound =
      let one = bound.bounds in
      let pins_now : new ≡ pins_after (search_pins [] s.bounds) one = bound.pins ∙ ap (λ (l : List ℕ). pins_after l one) s.pins_are in
      record {
        bounds = s.bounds ++ one ∷ [];
        reads = turn ∙ ap (λ (r : Result (List Bound) ItemFault). behind s.bounds (after (in_entry k r))) bound.read
            ∙ behind_more s.bounds one (bind_all names (k + 1) (pins_after pins one) (drop (k + 1) alternatives))
            ∙ ap (λ (l : List ℕ). behind (s.bounds ++ one ∷ []) (bind_all names (k + 1) l (drop (k + 1) alternatives))) (sym bound.pins);
        pins_are = pins_now ∙ sym (pins_of-append [] s.bounds one);
        asks = asks_more [] s.bounds alts one alt s.asks (subst (λ (l : List ℕ). Asks l one alt) pins_now bound.asks);
      }

  -- one that can't be bound
  pub chosen_stops : (fault : BindFault) → in_entry k (bind_terms MOST_PINS names pins terms) ≡ Err fault → bind_all names 0 [] alternatives ≡ Err fault
  chosen_stops fault refused = turn ∙ ap (λ (r : Result (List Bound) BindFault). behind s.bounds (after r)) refused

  -- an error of its binding is that of all
  pub choosing_stops : (new : List ℕ) (error : BindError) → ChoosesOne names k pins new terms (Err error) → Chooses names alternatives (Err error)
  choosing_stops new (Fault fault) refused = chosen_stops fault refused
  choosing_stops new NoMemory refused = tt

-- there are no more
pub chosen_ends : (names : List (List ℕ)) (alternatives : List (List Meaning)) (k : ℕ) (pins : List ℕ) (alts : List Alt) → ChosenSoFar names alternatives k pins alts → drop k alternatives ≡ [] → Chosen names alternatives pins alts
chosen_ends names alternatives k pins alts s none = record {
  bounds = s.bounds;
  bound = s.reads ∙ ap (λ (l : List (List Meaning)). behind s.bounds (bind_all names k pins l)) none ∙ ap (λ (l : List (List Bound)). Ok l) (append-nil s.bounds);
  pins_are = s.pins_are;
  asks = s.asks;
}

-- the terms of an alternative by its number
pub terms_at : (chains : List ChainWord) (alternatives : List (List Meaning)) → AreTerms chains alternatives → (k : ℕ) (chain : ChainWord) → k < length chains → chain ≡ get_or chains k chain
    → (terms : List Meaning) × (drop k alternatives ≡ terms ∷ drop (k + 1) alternatives) × (terms_of (string_bytes chain.text) ≡ Ok terms)
terms_at [] alternatives are k chain within is = absurd (omega (arith, within))
terms_at (c ∷ chains) [] are k chain within is = cc
terms_at (c ∷ chains) (terms ∷ alternatives) are zero chain within is =
    let here : terms_of (string_bytes c.text) ≡ Ok terms = cc in
    (terms, refl, ap (λ (w : ChainWord). terms_of (string_bytes w.text)) is ∙ here)
terms_at (c ∷ chains) (terms ∷ alternatives) are (suc k) chain within is =
    let rest : AreTerms chains alternatives = cc in
    let r = terms_at chains alternatives rest k chain (omega (arith, within)) is in
    let next : suc k + 1 ≡ suc (k + 1) = omega arith in
    (r.0, r.1 ∙ ap (λ (n : ℕ). r.0 ∷ drop n (terms ∷ alternatives)) (sym next), r.2)

-- there are as many
pub no_more_terms : (chains : List ChainWord) (alternatives : List (List Meaning)) → AreTerms chains alternatives → (k : ℕ) → length chains ≤ k → drop k alternatives ≡ []
no_more_terms [] [] are zero behind = refl
no_more_terms [] [] are (suc k) behind = refl
no_more_terms [] (terms ∷ alternatives) are k behind = cc
no_more_terms (c ∷ chains) [] are k behind = cc
no_more_terms (c ∷ chains) (terms ∷ alternatives) are zero behind = absurd (omega (arith, behind))
no_more_terms (c ∷ chains) (terms ∷ alternatives) are (suc k) behind = let rest : AreTerms chains alternatives = cc in no_more_terms chains alternatives rest k (omega (arith, behind))
