use Rattle.std.proofs.Common.{◌≡◌, ◌^◌, ◌<◌, take}
use Rattle.la_base.specs.Naming.{number_after}
use Rattle.capture_csv.specs.Times.{twelve}
use Rattle.capture_csv.proofs.times.picos_of.Given as goal

abbrev pub invariant-loop-k : goal.invariant-loop-k
invariant-loop-k l = record {
  small : l.number < 10 ^ l.k;
  number : l.number ≡ number_after 0 (take l.k (twelve l.decimals));
}
