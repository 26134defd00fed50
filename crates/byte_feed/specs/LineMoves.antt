-- How far a reader of lines has read.
use Rattle.std.specs.Prelude.{ℕ, ◌≡◌, ◌<◌, ◌≤◌, ◌+◌, ◌^◌, Bool, true, false, List, [], ◌++◌, length}
use Rattle.std.specs.Prelude.{slice_index, Option, Result, Ok, Err}
use Rattle.la_io.specs.Intake.{Front}
use Rattle.byte_feed.specs.Lines.{by_feeds, is_feed, kept, unmarked}
use Rattle.byte_feed.specs.Parts.{NoneEnds}
use Rattle.byte_feed.specs.Moving.{Filled, Moves, StopsAt}
use Rattle.byte_feed.specs.declared.fault.FeedFault.{FeedFault}
use Rattle.byte_feed.specs.declared.fault.FeedFault.TheVariants.{Read, TooLong, Bytes, Spent}

-- so many bytes at the front are of one line
abbrev pub AllIn : List ℕ → ℕ → Type 0
AllIn bytes count = NoneEnds by_feeds bytes count

-- a line of so many bytes is at the front, and its line feed behind it
pub record LineAt (bytes : List ℕ) (len : ℕ) : Type 0 where
  pub one : AllIn bytes len
  pub feed : is_feed (slice_index bytes len) ≡ true

-- one read: what came is held without its carriage returns
pub record FillsKept (old new : Front) (was is : Bool) (left_old left_new : Option (List ℕ))
    (result : Result Bool FeedFault) : Type 0 where
  pub bytes : List ℕ
  pub moves : Moves old new was is left_old left_new bytes
  pub held : new.bytes ≡ old.bytes ++ kept bytes
  pub answer : Filled new.taken is bytes result

-- where a reading stands at the front of a line: behind a mark before the first one, whatever
-- comes; or it stopped before it could tell
abbrev pub FrontPassed : {T : Type 0} → ℕ → List ℕ → Front → Bool → Result T FeedFault → Type 0
FrontPassed lines all new is (Ok x) =
    (more : List ℕ) → (is ≡ true → more ≡ []) → unmarked lines (all ++ more) ≡ new.bytes ++ more
FrontPassed lines all new is (Err fault) =
    (new.bytes ≡ all) × (length all < 3) × AllIn all (length all) × (unmarked lines all ≡ all)
    × StopsAt new.taken is fault

-- the front of a line was reached behind so many lines
pub record PassesFront {T : Type 0} (lines : ℕ) (old new : Front) (was is : Bool)
    (left_old left_new : Option (List ℕ)) (result : Result T FeedFault) : Type 0 where
  pub bytes : List ℕ
  pub moves : Moves old new was is left_old left_new bytes
  pub few : length new.bytes ≤ length old.bytes + length bytes
  pub answer : FrontPassed lines (old.bytes ++ kept bytes) new is result

-- how far a line at the front goes: to its end, or to that of the bytes; or it is too long, or the
-- reading stopped in it
abbrev pub LineReached : ℕ → Front → Bool → Result ℕ FeedFault → Type 0
LineReached lines new is (Ok count) =
    (count < 65536) × (count ≤ length new.bytes) × AllIn new.bytes count
    × (count < length new.bytes → is_feed (slice_index new.bytes count) ≡ true)
    × (count ≡ length new.bytes → is ≡ true)
LineReached lines new is (Err Read) =
    (is ≡ false) × (new.taken < 2 ^ 60) × (length new.bytes < 65536)
    × AllIn new.bytes (length new.bytes)
LineReached lines new is (Err (TooLong at)) =
    (65536 ≤ length new.bytes) × AllIn new.bytes 65536 × (at ≡ lines + 1) × (new.taken ≤ 2 ^ 60)
LineReached lines new is (Err Bytes) =
    (is ≡ false) × (new.taken ≡ 2 ^ 60) × (length new.bytes < 65536)
    × AllIn new.bytes (length new.bytes)
LineReached lines new is (Err Spent) = ⊥

-- a line was read to its end, behind so many lines
pub record ReachesEnd (lines : ℕ) (old new : Front) (was is : Bool)
    (left_old left_new : Option (List ℕ)) (result : Result ℕ FeedFault) : Type 0 where
  pub bytes : List ℕ
  pub moves : Moves old new was is left_old left_new bytes
  pub held : new.bytes ≡ old.bytes ++ kept bytes
  pub answer : LineReached lines new is result
