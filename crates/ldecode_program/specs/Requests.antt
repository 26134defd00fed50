-- What the first word asks of the program.
use Rattle.std.specs.Prelude.{ℕ, List, [], ◌∷◌, codes, if◌then◌else◌}
use Rattle.std.specs.Str.{bytes_eq}
use Rattle.ldecode_program.specs.declared.request.Request.{Request}
use Rattle.ldecode_program.specs.declared.request.Request.TheVariants.{Help, Version, Run}

-- help or the version, where the first word is its name; else a run of the words
abbrev pub requested : List (List ℕ) → Request
requested [] = Run
requested (word ∷ words) = if bytes_eq word (codes "--help") then Help else if bytes_eq word (codes "--version") then Version else Run
