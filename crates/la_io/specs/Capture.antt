-- What the bytes of a capture give: a head, the settled samples and an ending.
use Rattle.std.specs.Prelude.{ℕ, ◌≡◌, List}
use Rattle.la_io.specs.declared.fault.CaptureFault.{CaptureFault}

-- how the bytes stop: the source told its end behind them, or it didn't
pub data Told : Type 0 where
  AtEnd : Told
  Cut : Told

-- the channels' names and the rate, as so many samples in so many seconds; or a fault of the
-- header; or the bytes are cut before the head is whole
pub data Head : Type 0 where
  Good : (names : List (List ℕ)) (num den : ℕ) → Head
  Bad : CaptureFault → Head
  Unread : Head

-- the bytes end where they may; or they have a fault; or they are cut and have none
pub data Ending : Type 0 where
  Clean : Ending
  Faulty : CaptureFault → Ending
  Open : Ending

-- what the bytes of a capture give
pub record Captured : Type 0 where
  pub head : Head
  pub settled : List ℕ
  pub ending : Ending

-- these samples are all that a capture settles, and this is its ending
pub record Ends (capture : Captured) (given : List ℕ) (how : Ending) : Type 0 where
  pub settled : capture.settled ≡ given
  pub ending : capture.ending ≡ how
