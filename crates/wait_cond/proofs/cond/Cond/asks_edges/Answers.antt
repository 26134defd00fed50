use Rattle.std.proofs.Common.{List, Some, ap, subst, ℕ, bit_and}
use Rattle.std.specs.Int.Bits.{xor_self}
use Rattle.wait_cond.specs.Watching.{NeverMet}
use Rattle.wait_cond.specs.declared.alt.Alt.{Alt}
use Rattle.wait_cond.proofs.WatchLemmas.{never_met}
use Rattle.wait_cond.proofs.cond.Cond.asks_edges.Goals as goal

pub returns-then-self-ne0 : goal.returns-then-self-ne0
returns-then-self-ne0 c =
    let s = c.self.inside in
    record {
      stands = λ is now. subst (λ (l : List Alt). NeverMet l (Some now) now) c.self.view_is
          (never_met s.watched now now (ap (λ (n : ℕ). bit_and n s.watched) (xor_self now)) s.alts.items (c.self.invariant.0.watches c.if-self-ne0.true));
    }
