-- What decoders that stand on one another read and give.
use Rattle.std.specs.Prelude.{ℕ, List, [], ◌∷◌, ◌++◌, map, slice_get, Option, Some, None}
use Rattle.la_base.specs.declared.wires.Out.{Out}
use Rattle.la_base.specs.declared.wires.Out.TheVariants.{Note as NoteOut, Piece as PieceOut}
use Rattle.la_base.specs.declared.wires.Out.TheVariants.{Packet as PacketOut}
use Rattle.decoder_core.specs.Inputs.{Item, Sample, Pack}

-- the packets among outputs, as the input of what stands on them
abbrev pub packets_of : List Out → List Item
packets_of [] = []
packets_of (NoteOut note ∷ outs) = packets_of outs
packets_of (PieceOut piece ∷ outs) = packets_of outs
packets_of (PacketOut packet ∷ outs) = Pack packet ∷ packets_of outs

-- the packets of a parent, if there is one
abbrev pub packets_in : Option (List Out) → List Item
packets_in None = []
packets_in (Some outs) = packets_of outs

-- what an instance reads: the samples, or the packets of the instance that it stands on, of those
-- before it
abbrev pub input_of : List ℕ → List (List Out) → Option ℕ → List Item
input_of samples before None = map Sample samples
input_of samples before (Some parent) = packets_in (slice_get before parent)

-- a decoder of a tree: its setup, and the place of the instance that it stands on
pub record Node (S : Type 0) : Type 0 where
  pub setup : S
  pub parent : Option ℕ

module _ {S : Type 0} (outputs : S → List Item → List Out) (samples : List ℕ) where
  -- all outputs of decoders on samples, behind those of the decoders before them
  abbrev pub outputs_behind : List (List Out) → List (Node S) → List (List Out)
  outputs_behind before [] = before
  outputs_behind before (node ∷ nodes) =
      outputs_behind (before ++ outputs node.setup (input_of samples before node.parent) ∷ []) nodes

  -- all outputs of the decoders of a tree on samples
  abbrev pub given : List (Node S) → List (List Out)
  given nodes = outputs_behind [] nodes
