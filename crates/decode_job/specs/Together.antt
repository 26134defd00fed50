-- What is listed of the parts of a capture, one part behind another, beside the listing of the
-- whole.
use Rattle.std.specs.Prelude.{ℕ, ◌≡◌, List, [], ◌∷◌, ◌++◌}
use Rattle.la_base.specs.declared.wires.Out.{Out}
use Rattle.check_laws.specs.Parts.{all_of}
use Rattle.decoder_core.specs.Inputs.{Item}
use Rattle.decoder_core.specs.Trees.{Node, given}
use Rattle.note_order.specs.Order.{in_order}
use Rattle.note_order.specs.declared.entry.Entry.{Entry}
use Rattle.note_lister.specs.Lines.{note_lines}
use Rattle.stack_words.specs.Accepting.{Accepted, is_shown}
use Rattle.decode_job.specs.Listing.{given_behind, listed_notes, listing_of}

module _ {S : Type 0} (outputs : S → List Item → List Out) (accepted : Accepted)
    (nodes : List (Node S)) where
  -- the notes that the decoders add on each piece of a capture, those of one piece behind those of
  -- the piece before; of each piece in the order of a listing
  abbrev pub notes_of_parts : List ℕ → List (List ℕ) → List Entry
  notes_of_parts earlier [] = []
  notes_of_parts earlier (piece ∷ pieces) =
      listed_notes (is_shown accepted.shown) (given_behind outputs earlier piece nodes)
      ++ notes_of_parts (earlier ++ piece) pieces

  -- their listings
  abbrev pub listings_of_parts : List ℕ → List (List ℕ) → List ℕ
  listings_of_parts earlier [] = []
  listings_of_parts earlier (piece ∷ pieces) =
      listing_of accepted.instances (is_shown accepted.shown)
      (given_behind outputs earlier piece nodes)
      ++ listings_of_parts (earlier ++ piece) pieces

  -- the listings of pieces are the lines of notes that, put into the order of a listing, are just
  -- the notes of the listing of the whole
  pub record ListTheWhole (pieces : List (List ℕ)) : Type 0 where
    pub lines : listings_of_parts [] pieces
        ≡ note_lines accepted.instances (notes_of_parts [] pieces)
    pub notes : in_order (notes_of_parts [] pieces)
        ≡ listed_notes (is_shown accepted.shown) (given outputs (all_of pieces) nodes)
