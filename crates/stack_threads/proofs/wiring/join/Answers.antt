use Rattle.std.proofs.Common.{◌<◌, ℕ, IfSome, Option, length, refl, subst, vec_len, arith}
use Rattle.stack_threads.proofs.Joining.{joined_child}
use Rattle.stack_threads.proofs.wiring.join.Goals as goal

pub returns-in_ok-push-in-Some : goal.returns-in_ok-push-in-Some
returns-in_ok-push-in-Some c =
    let p = c.in-Some.parent in
    let ends = c.args.ends.now in
    let within : p < vec_len ends = subst (λ (o : Option ℕ). IfSome o (λ q. q < vec_len ends)) c.in-Some.is c.requires.within in
    let low : p < length ends.items = omega (arith, within, ends.ok.0) in
    joined_child c.args.parent p c.args.rooms c.in_ok-sends-in-Some.sends c.in_ok-sends-in-Some.receives ends.items c.index_mut.result.now _ c.args.feeds.now.items c.in-Some.is low c.index_mut.ensures.value refl refl c.in_ok-push-in-Some.ensures.items c.in_ok-sends-in-Some.ensures
