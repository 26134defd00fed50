use Rattle.std.proofs.Common.{◌≡◌, ◌≤◌, ◌++◌, ◌∷◌, [], ◌∙◌, List, ℕ, length, subst}
use Rattle.std.proofs.lemmas.List.{append_assoc}
use Rattle.check_point.specs.Checks.{entry_bytes}
use Rattle.check_point.proofs.Pushes.{nothing_pushed, one_pushed}
use Rattle.check_point.proofs.write.+push_entries.Goals as goal

pub returns-in-Some-split_first : goal.returns-in-Some-split_first
returns-in-Some-split_first g t c =
    let saved = c.save-saved.result.items in
    let before = c.args.into.now.items in
    let place = c.in-Some.place.now in
    let few : length saved ≤ 240 = subst (λ (l : List ℕ). length l ≤ 240) c.as_slice.ensures.value c.as_slice.ensures.fits in
    let two : c.push-in-Some-split_first.new.self.items ≡ before ++ place ∷ length saved ∷ [] = c.push-in-Some-split_first.ensures.items ∙ (λ i. c.push.ensures.items i ++ c.len.ensures.value i ∷ []) ∙ append_assoc before (place ∷ []) (length saved ∷ []) in
    let mid : c.append.new.into.items ≡ before ++ entry_bytes place saved = c.append.ensures ∙ (λ i. two i ++ c.as_slice.ensures.value i) ∙ append_assoc before (place ∷ length saved ∷ []) saved in
    one_pushed g.M.Keep.saves c.args.kinds.now c.args.machines.now place c.in-Some.other_kinds.now c.in-Some-split_first.machine.now c.in-Some-split_first.others.now
    saved before c.append.new.into.items c.push_entries.new.into.items c.in-Some.ensures.cases.0 c.in-Some-split_first.ensures.cases.0
    c.save-saved.ensures few mid c.push_entries.ensures

pub returns-in_default : goal.returns-in_default
returns-in_default g t c = nothing_pushed g.M.Keep.saves c.args.kinds.now c.args.machines.now c.args.into.now.items c.in_default.ensures.cases c.requires.count
