-- Notes at the front of the first queue that stand before all those of the others.
use Rattle.std.proofs.Common.{◌≡◌, ℕ, zero, suc, ◌<◌, List, [], ◌∷◌, ◌++◌, length, drop, set, Option, Some, refl, sym, ◌∙◌, ap, subst, arith}
use Rattle.std.specs.List.{All, slice_get}
use Rattle.std.proofs.lemmas.Option.{slice_get_within}
use Rattle.std.proofs.lemmas.List.{length-set}
use Rattle.note_order.specs.Order.{in_order}
use Rattle.note_order.specs.declared.entry.Entry.{Entry}
use Rattle.annot_merge.specs.Places.{GoesOn}
use Rattle.annot_merge.specs.Limits.{IsBefore}
use Rattle.annot_merge.specs.Queues.{Arranged, IsQueue, all_of, head_of}
use Rattle.annot_merge.specs.declared.limit.Lead.{Lead}
use Rattle.annot_merge.specs.declared.limit.Limit.{Limit}
use Rattle.annot_merge.proofs.LimitLemmas.{get_set_here, leads_on}
use Rattle.annot_merge.proofs.QueueLemmas.{arranged_set, map_length, queue_at, set_same, takes_first}

-- each of them goes on
abbrev pub EachGoesOn : Limit → List Entry → Type 0
EachGoesOn others [] = Unit {0}
EachGoesOn others (e ∷ es) = GoesOn others e × EachGoesOn others es

pub each_goes_on : (others : Limit) (es : List Entry) → All (λ e. GoesOn others e) es → EachGoesOn others es
each_goes_on others [] each = tt
each_goes_on others (e ∷ es) each = (each 0 e (omega arith), each_goes_on others es (λ k d low. each (suc k) d (omega (arith, low))))

pub set_set : {X : Type 0} (xs : List X) (i : ℕ) (x y : X) → set (set xs i x) i y ≡ set xs i y
set_set [] i x y = refl
set_set (z ∷ zs) zero x y = refl
set_set (z ∷ zs) (suc i) x y = ap (λ l. z ∷ l) (set_set zs i x y)

pub run_first : (lists : List (List Entry)) (heads : List (Option ℕ)) (lead : Lead) → Arranged lists heads lead → (run own : List Entry) → slice_get lists lead.least.instance ≡ Some (run ++ own) → EachGoesOn lead.others (drop 1 run)
    → in_order (all_of lists) ≡ run ++ in_order (all_of (set lists lead.least.instance own))
run_first lists heads lead a [] own at each = ap (λ (l : List (List Entry)). in_order (all_of l)) (sym (set_same lists lead.least.instance own at))
run_first lists heads lead a (e ∷ []) own at each = takes_first lists heads lead e own a at
run_first lists heads lead a (e ∷ f ∷ es) own at each =
    let i = lead.least.instance in
    let rest = f ∷ es ++ own in
    let q = queue_at lists i (e ∷ rest) a.queues at in
    let fits = each.0.1 in
    let queue : IsQueue i rest = record { ordered = q.ordered.1; of = q.of.1; fits = fits } in
    let first : IsBefore f.note.start i lead.others = subst (λ (k : ℕ). IsBefore f.note.start k lead.others) q.of.1.0 each.0.0 in
    let now = set heads i (Some f.note.start) in
    let next : Lead = record { least = record { start = f.note.start; instance = i }; others = lead.others } in
    let within = slice_get_within lists i (e ∷ rest) at in
    let wide : i < length now = omega (arith, within, length-set heads i (Some f.note.start), ap length a.heads_are, map_length head_of lists) in
    let arranged : Arranged (set lists i rest) now next = arranged_set lists heads lead i rest now next a queue refl (λ l. leads_on heads now f.note.start lead refl wide first l) in
    takes_first lists heads lead e rest a at
    ∙ ap (λ (l : List Entry). e ∷ l) (run_first (set lists i rest) now next arranged (f ∷ es) own (get_set_here lists i rest within) each.1
    ∙ ap (λ (l : List (List Entry)). f ∷ es ++ in_order (all_of l)) (set_set lists i rest own))
