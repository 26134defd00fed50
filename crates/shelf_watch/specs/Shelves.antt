-- What a shelf has of notes that were seen.
use Rattle.std.specs.Prelude.{ℕ, ◌≡◌, true, false, List, map}
use Rattle.std.proofs.Common.{MutBor}
use Rattle.la_base.specs.declared.wires.Note.{Note}
use Rattle.note_order.specs.declared.entry.Entry.{Entry}
use Rattle.view_store.specs.Listings.{IsFront, Listing}
use Rattle.view_store.specs.Views.{pending, published, shelf_of}
use Rattle.view_store.specs.declared.views.ViewWriter.{ViewWriter}

abbrev pub pair_of : Entry → ℕ × Note
pair_of entry = (entry.instance, entry.note)

-- the notes of entries with the numbers of their instances
abbrev pub pairs_of : List Entry → List (ℕ × Note)
pairs_of entries = map pair_of entries

-- a listing of the first of some notes, of which more may come
pub record IsFrontOf (notes : List (ℕ × Note)) (listing : Listing) : Type 0 where
  pub first : IsFront listing.notes notes
  pub going : listing.ended ≡ false

-- it is still the shelf that was lent; just these notes are pending on it, and more may come; the
-- first of them are published
pub record HasSeen (lent now : MutBor ViewWriter) (entries : List Entry) : Type 0 where
  pub same_reference : now.ghost_name ≡ lent.ghost_name
  pub shelf : shelf_of now.now ≡ shelf_of lent.now
  pub notes : (pending now.now).notes ≡ pairs_of entries
  pub going : (pending now.now).ended ≡ false
  pub front : IsFrontOf (pairs_of entries) (published now.now)

-- a listing, to which no more comes
abbrev pub ended_with : Listing → Listing
ended_with listing = record listing { ended = true }
