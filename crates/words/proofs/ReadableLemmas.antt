-- Words without a fault have chains that can be read.
use Rattle.std.proofs.Common.{◌≡◌, ◌≤◌, ◌<◌, ℕ, zero, suc, Bool, true, false, if◌then◌else◌, List, [], ◌∷◌, length, map, get_or, All, Option, Some, None, option_map, Result, Ok, Err, refl, sym, ◌∙◌, ap, arith}
use Rattle.std.specs.Prelude.{IsOk, nat_lt, slice_get}
use Rattle.std.proofs.lemmas.Bool.Decides.{nat_tests}
use Rattle.std.specs.String.{string_bytes}
use Rattle.std.proofs.lemmas.List.{length-map}
use Rattle.std.proofs.lemmas.Option.{slice_get-map}
use Rattle.text_parts.specs.Chains.{WordText, chain_of}
use Rattle.text_parts.specs.declared.chain.ChainWord.{ChainWord}
use Rattle.cond_words.specs.Words.{Meaning}
use Rattle.cond_words.specs.Grammar.{terms_of}
use Rattle.cond_words.specs.declared.words.CondFault.{CondFault}
use Rattle.words.specs.Readable.{IsReadable, IsShort}
use Rattle.words.specs.Settings.{cond_fault, fault_behind, few_or_many, fault_of, job_fault, many_at, or_else, too_many, words_taken}
use Rattle.words.specs.declared.kinds.Job.{Job}
use Rattle.words.specs.declared.kinds.Job.TheVariants.{Decode, Find, Make, Part}
use Rattle.words.specs.declared.kinds.WordCount.{WordCount}
use Rattle.words.specs.declared.kinds.WordWhy.TheVariants as why
use Rattle.words.specs.declared.kinds.WordFault.{WordFault}

-- the first chain that is too many
pub many_is : (taken : WordCount) (count : ℕ) (chains : List ChainWord) (chain : ChainWord) → taken.most < length chains → chain ≡ get_or chains taken.most chain → nat_lt (length (map chain_of chains)) taken.fewest ≡ false
    → few_or_many taken count (map chain_of chains) ≡ Some (record { word = chain.word; at = 0; why = too_many taken.most })
many_is taken count chains chain within is enough =
    ap (λ (b : Bool). if◌then◌else◌ {A = Option WordFault} b (Some (record { word = count; at = 0; why = why.Few })) (many_at taken.most (slice_get (map chain_of chains) taken.most))) enough
    ∙ ap (many_at taken.most) (slice_get-map chain_of chains taken.most ∙ ap (option_map chain_of) (slice_get_is chains taken.most chain within is))
  where
    slice_get_is : (xs : List ChainWord) (k : ℕ) (x : ChainWord) → k < length xs → x ≡ get_or xs k x → slice_get xs k ≡ Some x
    slice_get_is [] k x within is = absurd (omega arith)
    slice_get_is (y ∷ ys) zero x within is = ap (λ z. Some z) (sym is)
    slice_get_is (y ∷ ys) (suc k) x within is = slice_get_is ys k x (omega (arith, within)) is

good : (chains : List ChainWord) → None ≡ cond_fault (map chain_of chains) → All (λ chain. IsOk (terms_of (string_bytes chain.text))) chains
good [] none = λ k d within. absurd (omega (arith, within))
good (c ∷ chains) none = by (terms_of (string_bytes c.text)) refl none (good chains)
  where
    by : (r : Result (List Meaning) CondFault) → terms_of (string_bytes c.text) ≡ r → None ≡ or_else (fault_of c.word r) (cond_fault (map chain_of chains))
        → (None ≡ cond_fault (map chain_of chains) → All (λ chain. IsOk (terms_of (string_bytes chain.text))) chains) → (k : ℕ) (d : ChainWord) → k < length (c ∷ chains) → IsOk (terms_of (string_bytes (get_or (c ∷ chains) k d).text))
    by (Ok terms) is rest more zero d within = rw is refl
    by (Ok terms) is rest more (suc k) d within = more rest k d (omega (arith, within))
    by (Err fault) is rest more k d within = cc

-- neither too few nor too many
past : (most : ℕ) (xs : List WordText) (k : ℕ) → None ≡ many_at most (slice_get xs k) → length xs ≤ k
past most [] k none = omega arith
past most (x ∷ xs) zero none = cc
past most (x ∷ xs) (suc k) none = let rest = past most xs k none in omega arith

few : (taken : WordCount) (count : ℕ) (chains : List WordText) → None ≡ few_or_many taken count chains → (taken.fewest ≤ length chains) × (length chains ≤ taken.most)
few taken count chains none = by (nat_lt (length chains) taken.fewest) refl none
  where
    by : (b : Bool) → nat_lt (length chains) taken.fewest ≡ b → None ≡ (if b then Some (record { word = count; at = 0; why = why.Few }) else many_at taken.most (slice_get chains taken.most))
        → (taken.fewest ≤ length chains) × (length chains ≤ taken.most)
    by true is none = cc
    by false is none = (grind (arith, nat_tests), past taken.most chains taken.most none)

first_none : (a b : Option WordFault) → None ≡ or_else a b → (None ≡ a) × (None ≡ b)
first_none None b e = (refl, e)
first_none (Some fault) b e = cc

good_in : (job : Job) (chains : List ChainWord) → None ≡ job_fault job (map chain_of chains) → job ≡ Find → All (λ chain. IsOk (terms_of (string_bytes chain.text))) chains
good_in Decode chains none is = cc
good_in Find chains none is = good chains none
good_in Make chains none is = cc
good_in Part chains none is = cc

pub readable : (count : ℕ) (job : Job) (chains : List ChainWord) → None ≡ fault_behind count job (map chain_of chains) → All IsShort chains → IsReadable job chains
readable count job chains none short =
    let parts = first_none (few_or_many (words_taken job) count (map chain_of chains)) (job_fault job (map chain_of chains)) none in
    let n = few (words_taken job) count (map chain_of chains) parts.0 in
    let same = length-map chains chain_of in
    record {
      some = omega (arith, n.0, same);
      few = omega (arith, n.1, same);
      short = short;
      good = good_in job chains parts.1;
    }
