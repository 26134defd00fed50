use Rattle.std.proofs.Common.{◌≡◌, ◌++◌, take, drop}
use Rattle.list_cuts.specs.Parts.{before_mark, first_mark, cuts}
use Rattle.list_cuts.proofs.parts.up_to.Given as goal

abbrev pub invariant-loop-place : goal.invariant-loop-place
invariant-loop-place g l =
    let cut = cuts (g.B.Test.passes l.begins) (g.E.Test.passes l.ends) in
    (take l.place l.list ++ before_mark cut (drop l.place l.list) ≡ before_mark cut l.list) × (first_mark cut (drop l.place l.list) ≡ first_mark cut l.list)
