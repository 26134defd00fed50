-- The notes that are held, each instance's apart.
use Rattle.std.specs.Prelude.{ℕ, suc, ◌≡◌, ◌<◌, ◌^◌, List, [], ◌∷◌, ◌++◌, drop, length, map, Option}
use Rattle.std.specs.Prelude.{Some, None, slice_get, slice_set}
use Rattle.note_order.specs.Order.{in_order}
use Rattle.note_order.specs.declared.entry.Entry.{Entry}
use Rattle.annot_merge.specs.Limits.{Leads}
use Rattle.annot_merge.specs.Merging.{InOrder, PutsIn}
use Rattle.annot_merge.specs.declared.limit.Lead.{Lead}
use Rattle.annot_merge.specs.declared.limit.Limit.{Limit}
use Rattle.annot_merge.specs.declared.queue.Queue.{Queue}

-- the notes of a queue that are held
abbrev pub live : Queue → List Entry
live queue = drop queue.first queue.entries.items

abbrev pub lists_of : List Queue → List (List Entry)
lists_of queues = map live queues

-- those of the first, then those of the second, and so on
abbrev pub all_of : List (List Entry) → List Entry
all_of [] = []
all_of (list ∷ lists) = list ++ all_of lists

-- the start of the first note
abbrev pub head_of : List Entry → Option ℕ
head_of [] = None
head_of (entry ∷ entries) = Some entry.note.start

abbrev pub Fits : Option ℕ → Type 0
Fits None = Unit {0}
Fits (Some start) = start < 2 ^ 64

-- each is a note of this instance
abbrev pub AreOf : ℕ → List Entry → Type 0
AreOf instance [] = Unit {0}
AreOf instance (entry ∷ entries) = (entry.instance ≡ instance) × AreOf instance entries

-- what an instance's queue holds
pub record IsQueue (instance : ℕ) (list : List Entry) : Type 0 where
  pub ordered : InOrder list
  pub of : AreOf instance list
  pub fits : Fits (head_of list)

-- what the queues of instances hold, the first of which has this number
abbrev pub AreQueues : ℕ → List (List Entry) → Type 0
AreQueues instance [] = Unit {0}
AreQueues instance (list ∷ lists) = IsQueue instance list × AreQueues (suc instance) lists

-- the starts of the first notes, and the least of them
pub record Arranged (lists : List (List Entry)) (heads : List (Option ℕ))
    (lead : Lead) : Type 0 where
  pub queues : AreQueues 0 lists
  pub heads_are : heads ≡ map head_of lists
  pub leads : Leads heads lead
  pub few : length lists < 2 ^ 32

-- all notes that are held, in order
abbrev pub listing_of : List Queue → List Entry
listing_of queues = in_order (all_of (lists_of queues))

-- the first of all stands here, and its place fits
pub record FirstAt (queues : List Queue) (place : Limit) : Type 0 where
  pub entry : Entry
  pub rest : List Entry
  pub whole : listing_of queues ≡ entry ∷ rest
  pub starts : entry.note.start ≡ place.start
  pub of : entry.instance ≡ place.instance
  pub low : entry.note.start < 2 ^ 64
  pub few : entry.instance < 2 ^ 32

-- notes at the front of an instance's queue are the first of all
pub record RunAt (queues : List Queue) (instance : ℕ) (run : List Entry) : Type 0 where
  pub own : List Entry
  pub is : slice_get (lists_of queues) instance ≡ Some (run ++ own)
  pub whole : listing_of queues
      ≡ run ++ in_order (all_of (slice_set (lists_of queues) instance own))

-- the last note of an instance was put in its place among those of the instance
pub record Settles (queues_old queues_new : List Queue) (heads_old heads_new : List (Option ℕ))
    (lead_old lead_new : Lead) (instance : ℕ) : Type 0 where
  pub after : Queue
  pub set_is : queues_new ≡ slice_set queues_old instance after
  pub puts : (queue : Queue) (before : List Entry) (entry : Entry)
      → slice_get queues_old instance ≡ Some queue → live queue ≡ before ++ entry ∷ []
      → InOrder before → PutsIn entry before (live after)
  pub heads_are : heads_new ≡ slice_set heads_old instance (head_of (live after))
  pub fits : Fits (head_of (live after))
  pub leads : Leads heads_old lead_old → Leads heads_new lead_new
