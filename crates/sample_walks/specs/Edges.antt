-- The edges of line 0, as an example of a decoder: its definition, what it waits for, and what it
-- stands for.
use Rattle.std.specs.Prelude.{ℕ, Bool, true, false, List, [], ◌∷◌, map, Option, Some, None}
use Rattle.la_base.specs.Samples.{is_high}
use Rattle.la_base.specs.declared.wires.Out.{Out}
use Rattle.la_base.specs.declared.wires.Wire.TheVariants.{Nothing}
use Rattle.wait_cond.specs.declared.alt.Alt.{Alt}
use Rattle.list_cuts.specs.Bits.{bit_of}
use Rattle.list_cuts.specs.Neighbours.{at_neighbours}
use Rattle.decoder_core.specs.Outputs.{note_at}
use Rattle.sample_walks.specs.Walks.{EndsThere}
use Rattle.sample_walks.specs.Events.{EventWalk, by_events}

-- an edge: at which sample, and whether the line is high there
pub data Edge : Type 0 where
  To : ℕ → Bool → Edge

-- the edge at a sample, by the levels before it and at it
abbrev pub edge_by : ℕ → Bool → Bool → List Edge
edge_by at false true = To at true ∷ []
edge_by at true false = To at false ∷ []
edge_by at false false = []
edge_by at true true = []

-- there is none at the first sample
abbrev pub edge_at : ℕ → Option ℕ → ℕ → List Edge
edge_at at None now = []
edge_at at (Some before) now = edge_by at (is_high before 0) (is_high now 0)

-- its note: class 0, its place, and the level behind it
abbrev pub edge_note : Edge → Out
edge_note (To at level) = note_at 0 at (bit_of level)

-- the notes of some edges
abbrev pub notes_of : List Edge → List Out
notes_of edges = map edge_note edges

-- *outputs*: a note for each edge
unfoldable pub edge_notes : List ℕ → List Out
edge_notes samples = notes_of (at_neighbours edge_at samples)

-- the one alternative that is waited for: an edge of line 0
abbrev pub edge_alt : Alt
edge_alt = record { low = 0; high = 0; rise = 0; fall = 0; edge = 1; steady = 0; skip = 0 }

abbrev pub edge_alts : List Alt
edge_alts = edge_alt ∷ []

-- the walk from edge to edge: nothing is kept, and nothing is open
abbrev pub edge_walk : EventWalk (Unit {0}) Edge
edge_walk = record {
  event_at = edge_at;
  begin = tt;
  next = λ h e. tt;
  gives = λ h e. edge_note e ∷ [];
  alts = λ h. edge_alts;
  near = λ h q. q;
  event_of = λ h at value met. To at (is_high value 0);
  wire = Nothing;
}

-- the samples end with an edge, or there are none
abbrev pub EndsAtEdge : List ℕ → Type 0
EndsAtEdge list = EndsThere (by_events edge_walk) list
