-- The samples of several runs.
use Rattle.std.specs.Prelude.{ℕ, List, [], ◌∷◌, ◌++◌}
use Rattle.la_base.specs.Samples.{samples}
use Rattle.la_base.specs.declared.samples.Run.{Run}

-- the samples of runs, one after another
abbrev pub samples_of : List Run → List ℕ
samples_of [] = []
samples_of (run ∷ runs) = samples run ++ samples_of runs
