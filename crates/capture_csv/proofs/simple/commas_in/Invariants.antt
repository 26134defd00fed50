use Rattle.std.proofs.Common.{◌≡◌, ◌≤◌, take}
use Rattle.std.specs.List.{count_by}
use Rattle.capture_csv.specs.Values.{is_comma}
use Rattle.capture_csv.proofs.simple.commas_in.Given as goal

abbrev pub invariant-loop-byte : goal.invariant-loop-byte
invariant-loop-byte l = record {
  commas : l.count ≡ count_by is_comma (take l.byte-index l.text);
  few : l.count ≤ l.byte-index;
}
