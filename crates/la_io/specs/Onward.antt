-- What a buffer's calls keep of the sink behind it.
use Rattle.std.specs.Prelude.{ℕ, List, [], ◌++◌, Option}
use Rattle.std.specs.Io.KnownBytes.{Appends}
use Rattle.std.proofs.Common.{refl}
use Rattle.la_io.specs.Grown.{appends_nothing, appends_on}

-- a sink's bytes only grew, and it keeps what its own calls keep
pub record Onward {K : Type 0} (written : K → Option (List ℕ)) (goes_on : K → K → Type 0)
    (old new : K) : Type 0 where
  pub bytes : List ℕ
  pub grew : Appends (written old) (written new) bytes
  pub inner : goes_on old new

module _ {K : Type 0} (written : K → Option (List ℕ)) (goes_on : K → K → Type 0) where
  pub onward_still : (sink : K) → goes_on sink sink → Onward written goes_on sink sink
  onward_still sink inner = record {
    bytes = [];
    grew = appends_nothing (written sink);
    inner = inner;
  }

  pub onward_further : (first next last : K) → Onward written goes_on first next
      → Onward written goes_on next last → goes_on first last → Onward written goes_on first last
  onward_further first next last a b inner = record {
    bytes = a.bytes ++ b.bytes;
    grew = appends_on (written first) (written next) (written last) a.bytes b.bytes
        (a.bytes ++ b.bytes) a.grew b.grew refl;
    inner = inner;
  }
