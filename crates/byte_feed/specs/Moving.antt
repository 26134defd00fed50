-- What a reader takes of its source, and whether it was told the end.
use Rattle.std.specs.Prelude.{ℕ, ◌≡◌, ◌<◌, ◌≤◌, ◌+◌, ◌^◌, ◌⊎◌, Bool, true, false, List, [], ◌++◌}
use Rattle.std.specs.Prelude.{length, slice_index, Option, Result, Ok, Err}
use Rattle.std.specs.Io.KnownBytes.{Consumes, IsAtEnd}
use Rattle.la_io.specs.Causes.{Rose}
use Rattle.la_io.specs.Intake.{Front}
use Rattle.byte_feed.specs.Tokens.{is_blank}
use Rattle.byte_feed.specs.Blanks.{AllBlank, AllPlain}
use Rattle.byte_feed.specs.declared.fault.FeedFault.{FeedFault}
use Rattle.byte_feed.specs.declared.fault.FeedFault.TheVariants.{Read, TooLong, Bytes, Spent}

-- these bytes were taken; no more behind the end, and the end was told where it is known
pub record Moves (old new : Front) (was is : Bool) (left_old left_new : Option (List ℕ))
    (bytes : List ℕ) : Type 0 where
  pub consumed : Consumes left_old left_new bytes
  pub taken : new.taken ≡ old.taken + length bytes
  pub none : was ≡ true → bytes ≡ []
  pub stays : was ≡ true → is ≡ true
  pub kept : was ≡ true → left_new ≡ left_old
  pub told : is ≡ true → (was ≡ true) ⊎ (IsAtEnd left_new × (new.taken < 2 ^ 60))

-- a reading stopped: the source failed, or 2^60 bytes were taken, before the end
abbrev pub StopsAt : ℕ → Bool → FeedFault → Type 0
StopsAt taken is Read = (is ≡ false) × (taken < 2 ^ 60)
StopsAt taken is (TooLong at) = ⊥
StopsAt taken is Bytes = (is ≡ false) × (taken ≡ 2 ^ 60)
StopsAt taken is Spent = ⊥

-- one read: bytes came, or the end, or neither
abbrev pub Filled : ℕ → Bool → List ℕ → Result Bool FeedFault → Type 0
Filled taken is bytes (Ok true) = (is ≡ false) × (0 < length bytes)
Filled taken is bytes (Ok false) = (is ≡ true) × (bytes ≡ [])
Filled taken is bytes (Err fault) = (bytes ≡ []) × StopsAt taken is fault

pub record Fills (old new : Front) (was is : Bool) (left_old left_new : Option (List ℕ))
    (result : Result Bool FeedFault) : Type 0 where
  pub bytes : List ℕ
  pub moves : Moves old new was is left_old left_new bytes
  pub held : new.bytes ≡ old.bytes ++ bytes
  pub answer : Filled new.taken is bytes result

-- where a reading stands behind blanks: at a byte that is none, or at the end, or it stopped
abbrev pub Skipped : Front → Bool → Result Bool FeedFault → Type 0
Skipped new is (Ok true) = (0 < length new.bytes) × (is_blank (slice_index new.bytes 0) ≡ false)
Skipped new is (Ok false) = (is ≡ true) × (new.bytes ≡ [])
Skipped new is (Err fault) = (new.bytes ≡ []) × StopsAt new.taken is fault

-- blanks were passed over
pub record Skips (old new : Front) (was is : Bool) (left_old left_new : Option (List ℕ))
    (result : Result Bool FeedFault) : Type 0 where
  pub bytes : List ℕ
  pub moves : Moves old new was is left_old left_new bytes
  pub blanks : List ℕ
  pub all_blank : AllBlank blanks (length blanks)
  pub split : old.bytes ++ bytes ≡ blanks ++ new.bytes
  pub answer : Skipped new is result

-- how far a token at the front goes: to a blank, or to the end; or it is too long, or the reading
-- stopped in it
abbrev pub Reached : Front → Bool → Result ℕ FeedFault → Type 0
Reached new is (Ok count) = (count < 65536) × (count ≤ length new.bytes) × AllPlain new.bytes count
    × (count < length new.bytes → is_blank (slice_index new.bytes count) ≡ true)
    × (count ≡ length new.bytes → is ≡ true)
Reached new is (Err Read) =
    (is ≡ false) × (new.taken < 2 ^ 60) × (length new.bytes < 65536)
    × AllPlain new.bytes (length new.bytes)
Reached new is (Err (TooLong at)) =
    (65536 ≤ length new.bytes) × AllPlain new.bytes 65536 × (at + length new.bytes ≡ new.taken)
    × (new.taken ≤ 2 ^ 60)
Reached new is (Err Bytes) =
    (is ≡ false) × (new.taken ≡ 2 ^ 60) × (length new.bytes < 65536)
    × AllPlain new.bytes (length new.bytes)
Reached new is (Err Spent) = ⊥

-- a token was read to its end
pub record Reaches (old new : Front) (was is : Bool) (left_old left_new : Option (List ℕ))
    (result : Result ℕ FeedFault) : Type 0 where
  pub bytes : List ℕ
  pub moves : Moves old new was is left_old left_new bytes
  pub held : new.bytes ≡ old.bytes ++ bytes
  pub answer : Reached new is result

-- the source failed where the answer is Read, and only there
abbrev pub FeedCause : {T : Type 0} → ℕ → ℕ → Result T FeedFault → Type 0
FeedCause before now (Ok x) = now ≡ before
FeedCause before now (Err Read) = (before ≤ now) × Rose before now
FeedCause before now (Err (TooLong at)) = now ≡ before
FeedCause before now (Err Bytes) = now ≡ before
FeedCause before now (Err Spent) = now ≡ before
