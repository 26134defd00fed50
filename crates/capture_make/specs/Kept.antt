-- What a source of made captures has left.
use Rattle.std.specs.Prelude.{ℕ, ◌++◌, List, drop}
use Rattle.std.specs.List.{flat_map}
use Rattle.capture_make.specs.declared.source.MadeSource.{MadeSource}
use Rattle.capture_make.specs.Made.{block}
use Rattle.capture_make.specs.Behind.{all_behind}

-- the samples that are left of one transaction, and those of all behind it
abbrev pub left_in : MadeSource → List ℕ
left_in s = drop s.at s.samples ++ flat_map block (all_behind s.number s.count)
