use Rattle.std.proofs.Common.{sym, ◌≡◌, ◌==◌, if◌then◌else◌, subst, ℕ, Bool, false, Some, None, arith}
use Rattle.std.proofs.lemmas.Bool.Decides.{nat_tests}
use Rattle.wait_cond.specs.Watching.{NeverMet}
use Rattle.wait_cond.proofs.Passing.{all_passed}
use Rattle.wait_cond.proofs.scan.Waiter.rests.Goals as goal

pub returns : goal.returns
returns c = record {
  none = λ is list w.
      let s = c.args.self.now in
      let run = c.args.run in
      let alts = s.cond in
      let some : (s.consumed == 0) ≡ false = grind (c.if-self-eq0.false, arith, nat_tests) in
      let same : s.last ≡ run.value = grind (c.if-self-run.false, arith, nat_tests) in
      let stands = c.asks_edges.ensures.stands is run.value in
      let here : NeverMet alts (if s.consumed == 0 then None else Some s.last) run.value =
      subst (λ (b : Bool). NeverMet alts (if b then None else Some s.last) run.value) (sym some) (subst (λ (n : ℕ). NeverMet alts (Some n) run.value) (sym same) stands) in
      all_passed list run alts s.consumed s.from s.last w here stands;
}
