-- What a stage received and hasn't done yet, and what it has made and hasn't given yet.
use Rattle.std.specs.Prelude.{ℕ, zero, suc, ◌≡◌, ◌≤◌, ◌+◌, nat_eq, ◌&&◌, Bool, List, [], ◌∷◌, ◌++◌}
use Rattle.std.specs.Prelude.{map}
use Rattle.std.specs.Prelude.{length}
use Rattle.la_base.specs.Runs.{samples_of}
use Rattle.la_base.specs.declared.wires.Feed.{Feed}
use Rattle.la_base.specs.declared.wires.Mark.{Mark}
use Rattle.decoder_core.specs.Inputs.{Item, Sample, items_of}
use Rattle.stack_laws.specs.Feeds.{items_in}
use Rattle.stack_laws.specs.Heeding.{above_in, place_of}
use Rattle.stack_laws.specs.Moves.{Sending}
use Rattle.stage_ring.specs.Link.{sent, tx_link, tx_misses}
use Rattle.stage_run.specs.Inputs.{came}
use Rattle.stage_run.specs.Rows.{Kept, waiting}
use Rattle.stage_run.specs.declared.inbox.Inbox.{Inbox}
use Rattle.stage_run.specs.declared.outbox.Outbox.{Outbox}

-- what was received
abbrev pub received_of : Inbox → List Feed
received_of inbox = came inbox.input

-- the items that were received and aren't consumed
abbrev pub waiting_of : Inbox → List Item
waiting_of inbox = map Sample (samples_of (waiting inbox.runs)) ++ items_in (waiting inbox.feeds)

-- how much of it is left: items that aren't consumed, and feeds that weren't looked at
abbrev pub left_in : Inbox → ℕ
left_in inbox = length (waiting_of inbox) + length (waiting inbox.feeds)

-- whether nothing of it waits
abbrev pub is_idle : Inbox → Bool
is_idle inbox =
    nat_eq (length (waiting inbox.runs)) 0 && nat_eq (length (waiting inbox.feeds)) 0

-- the places that feeds tell were told before, with no more items before them: of a stage that was
-- told these feeds, and has consumed so many items
abbrev pub LieIn : List Feed → ℕ → List Feed → Type 0
LieIn received count [] = Unit {0}
LieIn received count (feed ∷ feeds) =
    (place_of feed ≤ above_in received count)
    × LieIn received (count + length (items_of feed)) feeds

-- a link was sent these, and these are kept for it
abbrev pub keeps : {T : Type 0} → List T → List T → Sending T
keeps kept sent = record { made = sent ++ kept; sent = sent }

-- the links that get a row, one after another: those before a place were given all of it, the one
-- at that place what of it is done, and those behind it nothing
abbrev pub served : ℕ → Kept Feed → List (List Feed) → List (Sending Feed)
served place row [] = []
served zero row (sent ∷ others) = keeps (waiting row) sent ∷ map (keeps row.list) others
served (suc place) row (sent ∷ others) = keeps [] sent ∷ served place row others

-- what was made for each child, and what of that was sent
abbrev pub children_of : Outbox → List (Sending Feed)
children_of outbox = served outbox.place outbox.fed (map sent outbox.children.items)

-- what was made for the marks, and what of that was sent
abbrev pub told_of : Outbox → Sending Mark
told_of outbox = keeps (waiting outbox.kept_marks) (sent outbox.marks)

-- nothing of what is kept was given yet
pub record IsFresh (outbox : Outbox) : Type 0 where
  pub told : outbox.kept_marks.at ≡ 0
  pub fed : outbox.fed.at ≡ 0
  pub place : outbox.place ≡ 0

-- whether nothing is kept
abbrev pub is_empty : Outbox → Bool
is_empty outbox =
    nat_eq (length outbox.kept_marks.list) 0 && nat_eq (length outbox.fed.list) 0
    && nat_eq outbox.place 0

-- there is room for so many more
abbrev pub HasRoom : ℕ → Outbox → Type 0
HasRoom kept outbox = (length outbox.kept_marks.list + kept ≤ 64) × (length outbox.fed.list + kept ≤ 64)

abbrev pub sum : List ℕ → ℕ
sum [] = 0
sum (n ∷ ns) = n + sum ns

-- how many things were given
abbrev pub given_by : Outbox → ℕ
given_by outbox =
    length (sent outbox.marks) + sum (map (λ child. length (sent child)) outbox.children.items)

-- how often a link had no room
abbrev pub missed_by : Outbox → ℕ
missed_by outbox = tx_misses outbox.marks + sum (map tx_misses outbox.children.items)

-- the same links
pub record SameLinks (old new : Outbox) : Type 0 where
  pub children : map tx_link new.children.items ≡ map tx_link old.children.items
  pub marks : tx_link new.marks ≡ tx_link old.marks

-- the same ends of links: nothing was given
pub record SameSent (old new : Outbox) : Type 0 where
  pub children : new.children ≡ old.children
  pub marks : new.marks ≡ old.marks
