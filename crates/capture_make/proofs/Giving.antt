-- What a source has left, as its samples are given.
use Rattle.std.proofs.Common.{◌≡◌, ℕ, suc, ◌+◌, ◌≤◌, List, ◌++◌, length, refl, sym, ◌∙◌, ap, arith, append_assoc, length-append}
use Rattle.std.specs.Prelude.{take, drop}
use Rattle.std.specs.List.{flat_map}
use Rattle.std.proofs.lemmas.List.{take-append-drop, take-append-le, length-take-le, drop-drop}
use Rattle.std.proofs.Math.Seq.{take-append-add}
use Rattle.capture_make.specs.Made.{block}
use Rattle.capture_make.specs.Behind.{all_behind, number_behind, sent_behind}

-- the samples of the next transaction are the first of those that are left
pub next_is : (number left : ℕ) → flat_map block (all_behind number (suc left)) ≡ block (sent_behind number) ++ flat_map block (all_behind (number_behind number) left)
next_is number left = refl

-- some of what is left was given
pub given_is : (samples rest : List ℕ) (at r : ℕ) → drop at samples ++ rest ≡ take r (drop at samples) ++ (drop (at + r) samples ++ rest)
given_is samples rest at r =
    ap (λ (l : List ℕ). l ++ rest) (sym (take-append-drop r (drop at samples)) ∙ ap (λ (l : List ℕ). take r (drop at samples) ++ l) (drop-drop r at samples))
    ∙ append_assoc (take r (drop at samples)) (drop (at + r) samples) rest

-- and written behind what a buffer holds
pub pasted : (f r : ℕ) (buf into rest : List ℕ) → f ≤ length buf → r ≤ length into → take (f + r) (take f buf ++ (into ++ rest)) ≡ take f buf ++ take r into
pasted f r buf into rest within few =
    let front = take f buf in
    let len : length front ≡ f = length-take-le f buf within in
    ap (λ (n : ℕ). take (n + r) (front ++ (into ++ rest))) (sym len)
    ∙ take-append-add front (into ++ rest) r
    ∙ ap (λ (l : List ℕ). front ++ l) (take-append-le r into rest few)

pub pasted_length : (f r : ℕ) (buf into rest : List ℕ) → f ≤ length buf → r ≤ length into → f + r ≤ length (take f buf ++ (into ++ rest))
pasted_length f r buf into rest within few =
    let all = length-append (take f buf) (into ++ rest) in
    let behind = length-append into rest in
    let front = length-take-le f buf within in
    omega (arith, all, behind, front, few)
