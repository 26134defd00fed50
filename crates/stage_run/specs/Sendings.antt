-- Things that were sent one behind another.
use Rattle.std.specs.Prelude.{ℕ, ◌≡◌, List, [], ◌∷◌}
use Rattle.la_base.specs.declared.wires.Feed.{Feed}
use Rattle.stack_laws.specs.Links.{IsNext}
use Rattle.stack_laws.specs.Moves.{NextFor, Sending, sends, sends_at}

module _ {T : Type 0} where
  -- each of these is the next of what was made, when it is sent
  abbrev pub MaySendAll : List T → Sending T → Type 0
  MaySendAll [] sending = Unit {0}
  MaySendAll (x ∷ xs) sending = IsNext sending.sent x sending.made × MaySendAll xs (sends x sending)

  abbrev pub sends_all : List T → Sending T → Sending T
  sends_all [] sending = sending
  sends_all (x ∷ xs) sending = sends_all xs (sends x sending)

  -- they were sent
  pub record Sends (xs : List T) (old new : Sending T) : Type 0 where
    pub may : MaySendAll xs old
    pub is : new ≡ sends_all xs old

-- the same for the child at a place
abbrev pub MayGiveAll : ℕ → List Feed → List (Sending Feed) → Type 0
MayGiveAll place [] children = Unit {0}
MayGiveAll place (feed ∷ feeds) children =
    NextFor place feed children × MayGiveAll place feeds (sends_at place feed children)

abbrev pub gives_all : ℕ → List Feed → List (Sending Feed) → List (Sending Feed)
gives_all place [] children = children
gives_all place (feed ∷ feeds) children = gives_all place feeds (sends_at place feed children)

pub record Gives (place : ℕ) (feeds : List Feed) (old new : List (Sending Feed)) : Type 0 where
  pub may : MayGiveAll place feeds old
  pub is : new ≡ gives_all place feeds old
