-- What a tree of decoders is to write: the notes of the instances in order, a line each; or the
-- binary data of one of them.
use Rattle.std.specs.Prelude.{ℕ, ◌==◌, Bool, if◌then◌else◌, List, [], ◌∷◌, ◌++◌, map, length, drop}
use Rattle.std.specs.Prelude.{slice_get, Option, Some, None}
use Rattle.la_base.specs.declared.wires.Out.{Out}
use Rattle.la_base.specs.declared.wires.Out.TheVariants.{Note as NoteOut, Piece as PieceOut}
use Rattle.la_base.specs.declared.wires.Out.TheVariants.{Packet as PacketOut}
use Rattle.decoder_core.specs.Inputs.{Item}
use Rattle.decoder_core.specs.Trees.{Node, given}
use Rattle.note_order.specs.Order.{listed}
use Rattle.note_order.specs.declared.entry.Entry.{Entry}
use Rattle.tree_runs.specs.Listings.{notes_of, shown_from}
use Rattle.note_lister.specs.Lines.{note_lines}
use Rattle.stack_words.specs.Accepting.{Accepted, is_shown}
use Rattle.stack_words.specs.Instances.{Instance}

-- the notes of a listing of what instances give: those of all that are shown, by start, then by
-- instance, then as they were given
abbrev pub listed_notes : (ℕ → Bool) → List (List Out) → List Entry
listed_notes shown outs = listed (shown_from shown 0 (map notes_of outs))

-- the listing
abbrev pub listing_of : List Instance → (ℕ → Bool) → List (List Out) → List ℕ
listing_of instances shown outs = note_lines instances (listed_notes shown outs)

-- the listing of a tree of decoders
abbrev pub tree_listing : {S : Type 0} → (S → List Item → List Out) → List Instance → (ℕ → Bool)
    → List (Node S) → List ℕ → List ℕ
tree_listing outputs instances shown nodes samples =
    listing_of instances shown (given outputs samples nodes)

-- the bytes of one class of binary data among outputs
abbrev pub bytes_of : ℕ → List Out → List ℕ
bytes_of class [] = []
bytes_of class (NoteOut note ∷ outs) = bytes_of class outs
bytes_of class (PieceOut piece ∷ outs) =
    if piece.class == class then piece.byte ∷ bytes_of class outs else bytes_of class outs
bytes_of class (PacketOut packet ∷ outs) = bytes_of class outs

abbrev pub bytes_by : ℕ → Option (List Out) → List ℕ
bytes_by class None = []
bytes_by class (Some outs) = bytes_of class outs

-- the binary data of what instances give: the bytes of a class that one of them gives, in the order
-- in which it gives them
abbrev pub data_of : ℕ × ℕ → List (List Out) → List ℕ
data_of wanted outs = bytes_by wanted.1 (slice_get outs wanted.0)

-- the binary data of a tree of decoders
abbrev pub tree_bytes : {S : Type 0} → (S → List Item → List Out) → ℕ × ℕ → List (Node S) → List ℕ
    → List ℕ
tree_bytes outputs wanted nodes samples = data_of wanted (given outputs samples nodes)

-- what is to be written of what instances give: their listing, or in place of it the binary data
-- that is wanted
abbrev pub output_of : Accepted → Option (ℕ × ℕ) → List (List Out) → List ℕ
output_of accepted None outs = listing_of accepted.instances (is_shown accepted.shown) outs
output_of accepted (Some wanted) outs = data_of wanted outs

-- the notes of which lines are to be written: those of their listing; with binary data wanted none
abbrev pub notes_to_list : Accepted → Option (ℕ × ℕ) → List (List Out) → List Entry
notes_to_list accepted None outs = listed_notes (is_shown accepted.shown) outs
notes_to_list accepted (Some wanted) outs = []

-- what a stack's tree of decoders is to write
abbrev pub tree_output : {S : Type 0} → (S → List Item → List Out) → Accepted → List (Node S)
    → List ℕ → List ℕ
tree_output outputs accepted nodes samples =
    output_of accepted accepted.binary (given outputs samples nodes)

-- the notes of that
abbrev pub tree_notes : {S : Type 0} → (S → List Item → List Out) → Accepted → List (Node S)
    → List ℕ → List Entry
tree_notes outputs accepted nodes samples =
    notes_to_list accepted accepted.binary (given outputs samples nodes)

-- what instances give now behind what they gave before, place by place
abbrev pub rest_of : List (List Out) → List (List Out) → List (List Out)
rest_of [] now = []
rest_of (was ∷ others) [] = []
rest_of (was ∷ others) (outs ∷ more) = drop (length was) outs ∷ rest_of others more

-- what the decoders of a tree add on samples to what they gave on earlier ones
abbrev pub given_behind : {S : Type 0} → (S → List Item → List Out) → List ℕ → List ℕ
    → List (Node S) → List (List Out)
given_behind outputs earlier samples nodes =
    rest_of (given outputs earlier nodes) (given outputs (earlier ++ samples) nodes)

-- what a stack's tree of decoders is to write of that
abbrev pub tree_output_behind : {S : Type 0} → (S → List Item → List Out) → Accepted
    → List (Node S) → List ℕ → List ℕ → List ℕ
tree_output_behind outputs accepted nodes earlier samples =
    output_of accepted accepted.binary (given_behind outputs earlier samples nodes)
