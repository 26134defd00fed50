-- What the writer, the readers and what is told stand for.
use Rattle.std.specs.Prelude.{ℕ, ◌≡◌, List, length, Option, Some, None, Result, Ok, Err}
use Rattle.std.specs.List.{filter}
use Rattle.logbook.specs.Pages.{Book}
use Rattle.view_store.specs.declared.views.Answer.{Answer}
use Rattle.view_store.specs.declared.views.ViewWriter.{ViewWriter}
use Rattle.view_store.specs.declared.views.ViewReader.{ViewReader}
use Rattle.view_store.specs.declared.views.Told.{Told}
use Rattle.la_base.specs.declared.names.NoMemory.{NoMemory}
use Rattle.view_store.specs.declared.added.Added.{Added}
use Rattle.view_store.specs.Listings.{Listing, IsFront, listing_of, is_between}

-- which shelf a writer is of
abbrev pub shelf_of : ViewWriter → Book
shelf_of writer = writer.front.seen.book

-- the listing that readers see
abbrev pub published : ViewWriter → Listing
published writer = listing_of writer.writer.desk.shown.value.front.seen.log

-- the listing that readers will see next
abbrev pub pending : ViewWriter → Listing
pending writer = listing_of writer.front.seen.log

-- which shelf a reader is of
abbrev pub reader_shelf : ViewReader → Book
reader_shelf reader = reader.front.seen.book

-- the longest listing that a reader saw or was told
abbrev pub known : ViewReader → Listing
known reader = listing_of reader.front.seen.log

abbrev pub told_shelf : Told → Book
told_shelf told = told.front.seen.book

-- the listing that was told
abbrev pub told_listing : Told → Listing
told_listing told = listing_of told.front.seen.log

-- what is answered over a listing: the notes that start in a range, in order; how many notes it
-- has; and whether it is ended
pub record Answers (listing : Listing) (start end : ℕ) (answer : Answer) : Type 0 where
  pub notes : answer.notes.items ≡ filter (is_between start end) listing.notes
  pub seen : answer.seen ≡ length listing.notes
  pub ended : answer.ended ≡ listing.ended

-- what one try of an ask came to: an answer over what then was added, behind what was known; or
-- nothing changed
abbrev pub Asked : List Added → List Added → ℕ → ℕ → Option (Result Answer NoMemory) → Type 0
Asked old new start end None = new ≡ old
Asked old new start end (Some (Ok answer)) =
    IsFront old new × Answers (listing_of new) start end answer
Asked old new start end (Some (Err none)) = new ≡ old
