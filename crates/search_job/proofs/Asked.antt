-- What the settings of a search ask for.
use Rattle.std.proofs.Common.{◌≡◌, ℕ, ◌⊎◌, inl, List, [], ◌∷◌, map, All, Result, Ok, Err, refl, ◌∙◌, ap, arith, suc}
use Rattle.std.specs.Prelude.{IsOk}
use Rattle.std.specs.String.{string_bytes}
use Rattle.la_base.specs.declared.samples.Rate.{Rate}
use Rattle.text_parts.specs.Chains.{WordText, chain_of}
use Rattle.text_parts.specs.declared.chain.ChainWord.{ChainWord}
use Rattle.cond_words.specs.Grammar.{terms_of}
use Rattle.cond_words.specs.Words.{Meaning}
use Rattle.wait_cond.specs.declared.alt.Alt.{Alt}
use Rattle.cond_words.specs.declared.words.CondFault.{CondFault}
use Rattle.words.specs.Settings.{Values, meaning_of}
use Rattle.words.specs.declared.kinds.Job.TheVariants.{Find}
use Rattle.words.specs.declared.settings.Settings.{Settings}
use Rattle.cond_words.specs.declared.faults.BindFault.{BindFault}
use Rattle.run_asks.specs.Asking.{AsksFor, SearchRefused, Searches, StackRefused, bind_all}
use Rattle.search_job.specs.Chosen.{AreTerms, Chosen}

-- alternatives that can be read have terms
terms_exist : (chains : List ChainWord) → All (λ chain. IsOk (terms_of (string_bytes chain.text))) chains → (alternatives : List (List Meaning)) × AreTerms chains alternatives
terms_exist [] good = ([], refl)
terms_exist (c ∷ chains) good = by (terms_of (string_bytes c.text)) refl (good 0 c (omega arith)) (terms_exist chains (λ k d within. good (suc k) d (omega (arith, within))))
  where
    by : (r : Result (List Meaning) CondFault) → terms_of (string_bytes c.text) ≡ r → IsOk r → (alternatives : List (List Meaning)) × AreTerms chains alternatives → (alternatives : List (List Meaning)) × AreTerms (c ∷ chains) alternatives
    by (Ok terms) is ok more = (terms ∷ more.0, λ i. is i ∷ more.1 i)
    by (Err fault) is ok more = cc

terms_same : (chains : List ChainWord) → map (λ (chain : WordText). terms_of chain.text) (map chain_of chains) ≡ map (λ (chain : ChainWord). terms_of (string_bytes chain.text)) chains
terms_same [] = refl
terms_same (c ∷ chains) = ap (λ rest. terms_of (string_bytes c.text) ∷ rest) (terms_same chains)

-- a search has terms
pub the_search : (settings : Settings) → settings.job ≡ Find → All (λ chain. IsOk (terms_of (string_bytes chain.text))) settings.chains.items
    → (alternatives : List (List Meaning)) × AreTerms settings.chains.items alternatives × Searches (meaning_of settings) alternatives
the_search settings job good =
    let terms = terms_exist settings.chains.items good in
    (terms.0, terms.1, record { job = job; terms = terms_same settings.chains.items ∙ terms.1 })

module _ (values : Values) (names : List (List ℕ)) (rate : Rate) (alternatives : List (List Meaning)) (searches : Searches values alternatives) where
  pub search_asks : (pins : List ℕ) (alts : List Alt) → Chosen names alternatives pins alts → AsksFor values names pins alts
  search_asks pins alts chosen = record {
    search = record { alternatives = alternatives; searches = searches; bounds = chosen.bounds; bound = chosen.bound };
    pins_are = chosen.pins_are;
    asks = chosen.asks;
  }

  pub search_refused : (fault : BindFault) → bind_all names 0 [] alternatives ≡ Err fault → SearchRefused values names fault ⊎ StackRefused values names rate fault
  search_refused fault refused = inl (record { alternatives = alternatives; searches = searches; refused = refused })
