-- A tree that goes on from an earlier input.
use Rattle.std.proofs.Common.{◌≡◌, ℕ, zero, suc, ◌<◌, ◌≤◌, List, [], ◌∷◌, ◌++◌, map, length, drop, get_or, slice_get, Option, Some, None, sym, ◌∙◌, ap, subst, arith, append_assoc, append-nil}
use Rattle.std.proofs.lemmas.List.{append_cancel_left, map-append}
use Rattle.std.proofs.lemmas.Option.{slice_get-get_or, slice_get_within}
use Rattle.la_base.specs.declared.wires.Mark.{Mark}
use Rattle.la_base.specs.declared.wires.Out.{Out}
use Rattle.decoder_core.specs.Inputs.{Item, Sample}
use Rattle.decoder_core.specs.Promises.{KeepsFront}
use Rattle.decoder_core.specs.Trees.{packets_of}
use Rattle.tree_runs.specs.Floors.{Floored}
use Rattle.tree_runs.specs.Machines.{Definitions}
use Rattle.tree_runs.proofs.Lists.{packets-append}
use Rattle.stack_laws.specs.Links.{IsFront}
use Rattle.stack_laws.specs.Listings.{AreInputs}
use Rattle.stack_laws.specs.Rests.{behind, near_behind, whole_behind}
use Rattle.stack_laws.specs.Laws.{IsLawful}
use Rattle.stack_laws.specs.Settling.{RestsAreATree, RestsReadTheRest}
use Rattle.stack_laws.proofs.Lists.{behind_front}

module _ (whole : List Item → List Out) (prefix : KeepsFront whole) (was : List Item) where
  -- outputs of more input are those of what there was, and the rest
  pub split : (more : List Item) → whole (was ++ more) ≡ whole was ++ whole_behind whole was more
  split more = behind_front (whole was) (whole (was ++ more)) (prefix was more)

  pub nothing_behind : whole_behind whole was [] ≡ []
  nothing_behind = append_cancel_left (whole was) (whole_behind whole was []) [] (sym (split []) ∙ ap whole (append-nil was) ∙ sym (append-nil (whole was)))

  -- what is added there is added behind what there was
  adds_behind : (input feed : List Item) (added : List Out) → whole_behind whole was (input ++ feed) ≡ whole_behind whole was input ++ added → whole ((was ++ input) ++ feed) ≡ whole (was ++ input) ++ added
  adds_behind input feed added adds =
      ap whole (append_assoc was input feed) ∙ split (input ++ feed) ∙ ap (λ (l : List Out). whole was ++ l) adds ∙ sym (append_assoc (whole was) (whole_behind whole was input) added)
      ∙ ap (λ (l : List Out). l ++ added) (sym (split input))

  -- and the other way round
  adds_there : (input feed : List Item) (added : List Out) → whole ((was ++ input) ++ feed) ≡ whole (was ++ input) ++ added → whole_behind whole was (input ++ feed) ≡ whole_behind whole was input ++ added
  adds_there input feed added adds =
      append_cancel_left (whole was) (whole_behind whole was (input ++ feed)) (whole_behind whole was input ++ added)
      (sym (split (input ++ feed)) ∙ ap whole (sym (append_assoc was input feed)) ∙ adds ∙ ap (λ (l : List Out). l ++ added) (split input) ∙ append_assoc (whole was) (whole_behind whole was input) added)

  -- marks with a floor behind each feed
  pub floored_behind : (near : List Item → ℕ) (input : List Item) (feeds : List (List Item)) (marks : List Mark) → Floored (whole_behind whole was) (near_behind near was) input feeds marks → Floored whole near (was ++ input) feeds marks
  floored_behind near input [] marks none = none
  floored_behind near input (feed ∷ feeds) marks f = (
    f.0,
    f.1,
    f.2,
    adds_behind input feed f.0 f.3,
    subst (λ (l : List Item). near l ≤ f.1) (sym (append_assoc was input feed)) f.4,
    f.5,
    subst (λ (l : List Item). Floored whole near l feeds f.2) (sym (append_assoc was input feed)) (floored_behind near (input ++ feed) feeds f.2 f.6),
  )

module _ (parents : List (Option ℕ)) (by : Definitions) (was : ℕ → List Item) (lawful : IsLawful parents by) where
  rest_tree : IsLawful parents (behind by was)
  rest_tree = record {
    forest = lawful.forest;
    nothing = λ j. nothing_behind (by.whole j) (lawful.prefix j) (was j);
    prefix = λ j input more.
        let grows = lawful.prefix j (was j ++ input) more in
        (grows.0, adds_there (by.whole j) (lawful.prefix j) (was j) input more grows.0 grows.1);
  }

  module _ (earlier more : List ℕ) (now : ℕ → List Item) (reads : AreInputs parents by.whole earlier was) (on : AreInputs parents by.whole (earlier ++ more) now) where
    abbrev given_behind : ℕ → List Item → List Out
    given_behind p = whole_behind (by.whole p) (was p)

    abbrev rest : ℕ → List Item
    rest j = drop (length (was j)) (now j)

    child_grows : (j p : ℕ) → slice_get parents j ≡ Some (Some p) → IsFront (was p) (now p) → now j ≡ was j ++ packets_of (given_behind p (rest p))
    child_grows j p at front =
        on j (Some p) at ∙ ap (λ (l : List Item). packets_of (by.whole p l)) (behind_front (was p) (now p) front) ∙ ap packets_of (split (by.whole p) (lawful.prefix p) (was p) (rest p))
        ∙ packets-append (by.whole p (was p)) (given_behind p (rest p)) ∙ ap (λ (l : List Item). l ++ packets_of (given_behind p (rest p))) (sym (reads j (Some p) at))

    root_grows : (j : ℕ) → slice_get parents j ≡ Some None → now j ≡ was j ++ map Sample more
    root_grows j at = on j None at ∙ map-append Sample earlier more ∙ ap (λ (l : List Item). l ++ map Sample more) (sym (reads j None at))

    front_below : (n j : ℕ) → j < n → j < length parents → IsFront (was j) (now j)
    front_below zero j low within = absurd (omega (arith, low))
    front_below (suc n) j low within = way (λ p less. front_below n p (omega (arith, less, low)) (omega (arith, less, within))) (get_or parents j None) (slice_get-get_or parents j None within)
      where
        way : ((p : ℕ) → p < j → IsFront (was p) (now p)) → (parent : Option ℕ) → slice_get parents j ≡ Some parent → IsFront (was j) (now j)
        way lower None at = (map Sample more, root_grows j at)
        way lower (Some p) at = (packets_of (given_behind p (rest p)), child_grows j p at (lower p (lawful.forest j p at)))

    rest_is : (j : ℕ) (tail : List Item) → now j ≡ was j ++ tail → rest j ≡ tail
    rest_is j tail is = append_cancel_left (was j) (rest j) tail (sym (behind_front (was j) (now j) (tail, is)) ∙ is)

    rest_reads : AreInputs parents (behind by was).whole more rest
    rest_reads j None at = rest_is j (map Sample more) (root_grows j at)
    rest_reads j (Some p) at =
        rest_is j (packets_of (given_behind p (rest p)))
        (child_grows j p at (front_below (suc p) p (omega arith) (let less = lawful.forest j p at in let w = slice_get_within parents j (Some p) at in omega (arith, less, w))))

    rest_goes : (j : ℕ) → j < length parents → now j ≡ was j ++ rest j
    rest_goes j within = behind_front (was j) (now j) (front_below (suc j) j (omega arith) within)

pub rests_tree : RestsAreATree
rests_tree parents by was lawful = rest_tree parents by was lawful

pub rests_read : RestsReadTheRest
rests_read parents by earlier more was now lawful reads on =
    (rest parents by was lawful earlier more now reads on, rest_reads parents by was lawful earlier more now reads on, rest_goes parents by was lawful earlier more now reads on)
