-- Bytes taken from a source and not yet used.
use Rattle.std.specs.Prelude.{ℕ, ◌≡◌, ◌+◌, ◌==◌, not, List, ◌++◌, length, Option, Result, IfOk}
use Rattle.std.specs.Prelude.{OnErr}
use Rattle.std.specs.List.{filter}
use Rattle.std.specs.Io.KnownBytes.{Consumes, IsAtEnd}

-- the bytes, and how many were taken so far
pub record Front : Type 0 where
  pub bytes : List ℕ
  pub taken : ℕ

-- these bytes were taken, and no other
pub record Takes (old new : Front) (left_old left_new : Option (List ℕ))
    (bytes : List ℕ) : Type 0 where
  pub consumed : Consumes left_old left_new bytes
  pub held : new.bytes ≡ old.bytes ++ bytes
  pub taken : new.taken ≡ old.taken + length bytes

-- what a read gave, 0 at the end
pub record Reads {E : Type 0} (old new : Front) (left_old left_new : Option (List ℕ))
    (result : Result ℕ E) : Type 0 where
  pub bytes : List ℕ
  pub takes : Takes old new left_old left_new bytes
  pub count : IfOk result (λ count. length bytes ≡ count)
  pub at_end : IfOk result (λ count. count ≡ 0 → IsAtEnd left_new)
  pub none : OnErr result (length bytes ≡ 0)

-- the bytes but one kind of them
abbrev pub without : ℕ → List ℕ → List ℕ
without dropped bytes = filter (λ byte. not (byte == dropped)) bytes

-- what a read gave that keeps no byte of one kind: the bytes and the count are those before any is
-- dropped
pub record ReadsWithout {E : Type 0} (dropped : ℕ) (old new : Front)
    (left_old left_new : Option (List ℕ)) (result : Result ℕ E) : Type 0 where
  pub bytes : List ℕ
  pub consumed : Consumes left_old left_new bytes
  pub held : new.bytes ≡ old.bytes ++ without dropped bytes
  pub taken : new.taken ≡ old.taken + length bytes
  pub count : IfOk result (λ count. length bytes ≡ count)
  pub at_end : IfOk result (λ count. count ≡ 0 → IsAtEnd left_new)
  pub none : OnErr result (length bytes ≡ 0)
