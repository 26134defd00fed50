use Rattle.std.proofs.Common.{rules, true, false, ◌≡◌, ◌<◌, ◌∙◌, List, ℕ, [], get_or, length, arith, sym, ap, subst}
use Rattle.check_point.specs.Loading.{LoadedTo}
use Rattle.check_point.proofs.Loads.{at_place, behind_place, one_loaded}
use Rattle.check_point.proofs.load.load_all.Goals as goal

pub returns-then-not-load_at : goal.returns-then-not-load_at
returns-then-not-load_at g c = λ saves e.
    let m = g.M.Machine in
    let k = g.M.Keep in
    let n = c.loop-at.at in
    let i = c.loop-at.invariant.so_far saves e in
    let refused : c.load_at.result ≡ false = search (rules, c.if-not-load_at.true) in
    let same : c.load_at.new.machines ≡ c.loop-at.machines = c.load_at.ensures.same refused in
    let within : n < length c.args.kinds.now = omega (arith, c.loop-at-test.true) in
    let place : get_or saves n [] ≡ c.in-Some.saved.now = at_place c.args.kinds.now saves c.loop-at.rest.now c.in-Some.saved.now c.in-Some.behind.now n within c.in-Some.ensures.1 i.0 in (
      within,
      subst (λ (ms : List g.row.M.Denot). LoadedTo m.setup m.consumed k.saves c.args.machines.now ms saves n) (sym same) i.1,
      λ d other alike s. c.load_at.ensures.none refused d other (alike ∙ ap m.setup (sym (i.1.others n d (omega arith)))) (subst (λ (bytes : List ℕ). k.saves other bytes) place s),
    )

pub loop-at-preserved : goal.loop-at-preserved
loop-at-preserved g c =
    let m = g.M.Machine in
    let k = g.M.Keep in
    let n = c.loop-at.at in
    let within : n < length c.args.kinds.now = omega (arith, c.loop-at-test.true) in
    let done : c.load_at.result ≡ true = search (rules, c.if-not-load_at.false) in
    record {
      count = c.load_at.ensures.count ∙ c.loop-at.invariant.count;
      so_far = λ saves e.
          let i = c.loop-at.invariant.so_far saves e in
          let place : get_or saves n [] ≡ c.in-Some.saved.now = at_place c.args.kinds.now saves c.loop-at.rest.now c.in-Some.saved.now c.in-Some.behind.now n within c.in-Some.ensures.1 i.0 in (
            behind_place c.args.kinds.now saves c.loop-at.rest.now c.in-Some.saved.now c.in-Some.behind.now n within c.in-Some.ensures.1 i.0,
            one_loaded m.setup m.consumed k.saves c.args.machines.now saves c.loop-at.machines c.load_at.new.machines n c.in-Some.saved.now i.1 place c.load_at.ensures.count c.load_at.ensures.others (c.load_at.ensures.loaded done),
          );
    }
