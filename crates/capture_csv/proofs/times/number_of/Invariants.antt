use Rattle.std.proofs.Common.{◌≡◌, ◌^◌, ◌<◌, drop, true}
use Rattle.std.specs.Str.{all_ascii_digits}
use Rattle.la_base.specs.Naming.{number_after}
use Rattle.capture_csv.proofs.times.number_of.Given as goal

abbrev pub invariant-loop-digit : goal.invariant-loop-digit
invariant-loop-digit l = record {
  small : l.number < 10 ^ l.digit-index;
  digits : all_ascii_digits (drop l.digit-index l.digits) ≡ true;
  number : number_after l.number (drop l.digit-index l.digits) ≡ number_after 0 l.digits;
}
