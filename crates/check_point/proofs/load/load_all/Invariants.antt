use Rattle.std.proofs.Common.{◌≡◌, ℕ, List, drop, length}
use Rattle.check_point.specs.Checks.{AreEntries}
use Rattle.check_point.specs.Loading.{LoadedTo}
use Rattle.check_point.proofs.load.load_all.Given as goal

abbrev pub invariant-loop-at : goal.invariant-loop-at
invariant-loop-at g l =
    let m = g.M.Machine in
    record {
      count : length l.machines ≡ length l.fn.machines;
      so_far : (saves : List (List ℕ)) → AreEntries l.fn.kinds saves l.fn.bytes → AreEntries (drop l.at l.kinds) (drop l.at saves) l.rest × LoadedTo m.setup m.consumed g.M.Keep.saves l.fn.machines l.machines saves l.at;
    }
