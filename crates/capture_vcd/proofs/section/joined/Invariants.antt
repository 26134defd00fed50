use Rattle.std.proofs.Common.{◌≡◌, ◌++◌, map, drop}
use Rattle.capture_vcd.specs.Header.{joined}
use Rattle.capture_vcd.specs.Gathered.{placed}
use Rattle.capture_vcd.proofs.section.joined.Given as goal

abbrev pub invariant-loop-word : goal.invariant-loop-word
invariant-loop-word l = l.text.items ++ joined (map placed (drop l.word-index l.words)) ≡ joined (map placed l.words)
