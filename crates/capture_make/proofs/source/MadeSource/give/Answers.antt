use Rattle.std.proofs.Common.{◌≡◌, ℕ, List, ◌++◌, ◌+◌, ◌-◌, sym, ◌∙◌, ap, arith, length-drop}
use Rattle.std.specs.Prelude.{take, drop}
use Rattle.std.proofs.lemmas.List.{take_all}
use Rattle.std.specs.List.{flat_map}
use Rattle.capture_make.specs.Made.{block}
use Rattle.capture_make.specs.Behind.{all_behind}
use Rattle.capture_make.proofs.Giving.{given_is}
use Rattle.capture_make.proofs.source.MadeSource.give.Goals as goal

pub returns-clause-given : goal.returns-clause-given
returns-clause-given c =
    let s = c.args.self.now in
    let rest = flat_map block (all_behind s.number s.count) in
    let part : take (120 - s.at) (drop s.at s.samples) ≡ drop s.at s.samples = take_all (120 - s.at) (drop s.at s.samples) (omega (arith, length-drop s.at s.samples, s.whole)) in
    given_is s.samples rest s.at c.give-count.result
    ∙ ap (λ (l : List ℕ). take c.give-count.result l ++ (drop (s.at + c.give-count.result) s.samples ++ rest)) (sym part)
    ∙ ap (λ (l : List ℕ). l ++ (drop (s.at + c.give-count.result) s.samples ++ rest)) (sym c.give-count.ensures.given)
