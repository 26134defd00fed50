use Rattle.std.proofs.Common.{[], refl, arith}
use Rattle.wait_cond.proofs.Sets.{met_more, none_yet}
use Rattle.wait_cond.proofs.met.met_one.Goals as goal

pub returns-then-meets : goal.returns-then-meets
returns-then-meets c =
    let a = c.args in
    met_more a.before a.now a.from a.at [] a.alt.now 0 (none_yet a.before a.now a.from a.at) 0 refl (omega arith) c.if-meets.ensures
