use Rattle.std.proofs.Common.{◌≡◌, ◌^◌, ◌<◌, drop}
use Rattle.std.specs.Str.{all_ascii_digits}
use Rattle.la_base.specs.Naming.{number_after}
use Rattle.capture_vcd.proofs.tokens.short_number.Given as goal

abbrev pub invariant-loop-byte : goal.invariant-loop-byte
invariant-loop-byte l = record {
  small : l.number < 10 ^ l.byte-index;
  digits : all_ascii_digits (drop l.byte-index l.text) ≡ all_ascii_digits l.text;
  number : number_after l.number (drop l.byte-index l.text) ≡ number_after 0 l.text;
}
