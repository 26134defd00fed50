use Rattle.std.proofs.Common.{◌≡◌, ◌<◌, ◌≤◌, ◌∙◌, ◌∷◌, ap, sym, drop, length, Some, subst, ℕ, Option, IfSome}
use Rattle.stage_run.specs.Rows.{Kept, waiting, with_left}
use Rattle.stage_run.proofs.Rows.{put_back}
use Rattle.stage_run.proofs.row.Row.skip_but.Goals as goal

some_of : {T : Type 0} {n : ℕ} (left : Option T) (thing : T) → left ≡ Some thing → IfSome left (λ _. 0 < n) → 0 < n
some_of {T} {n} left thing is some = subst (λ (o : Option T). IfSome o (λ _. 0 < n)) is some

pub returns-in-Some : goal.returns-in-Some
returns-in-Some g c =
    let s = c.self.inside in
    put_back s.at s.count c.args.count s.room c.in-Some.thing (some_of c.args.left c.in-Some.thing c.in-Some.is c.requires.some) (subst (λ (r : Kept _). c.args.count ≤ length (waiting r)) (sym c.self.view_is) c.requires.within)
    ∙ ap (λ (r : Kept _). c.in-Some.thing ∷ drop c.args.count (waiting r)) c.self.view_is ∙ (λ i. with_left (sym c.in-Some.is i) (drop c.args.count (waiting c.args.self.now)))
