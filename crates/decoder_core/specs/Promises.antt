-- What a decoder promises. *Outputs*: `outs` is all that the decoder's definition gives on a whole
-- input, at one setup. *Stands for*: `stands` says that a machine holds what it has to know of a
-- list of samples, which ends with the machine's last stop; its condition `alts` is pending from
-- there on.
use Rattle.std.specs.Prelude.{ℕ, ◌≡◌, ◌+◌, ◌≤◌, List, [], ◌∷◌, ◌++◌, take, length, slice_index}
use Rattle.std.specs.List.Sorted.{IsNonDecreasing}
use Rattle.la_base.specs.Kinds.{wire_of}
use Rattle.la_base.specs.declared.wires.Wire.{Wire}
use Rattle.la_base.specs.declared.wires.Out.{Out}
use Rattle.la_base.specs.declared.wires.Out.TheVariants.{Note as NoteOut, Piece as PieceOut}
use Rattle.la_base.specs.declared.wires.Out.TheVariants.{Packet as PacketOut}
use Rattle.wait_cond.specs.declared.alt.Alt.{Alt}
use Rattle.wait_cond.specs.Stops.{IsStop, NoneMet}

-- each note among outputs starts at the floor or later
abbrev pub NotesFrom : ℕ → List Out → Type 0
NotesFrom floor [] = Unit {0}
NotesFrom floor (NoteOut note ∷ outs) = (floor ≤ note.start) × NotesFrom floor outs
NotesFrom floor (PieceOut piece ∷ outs) = NotesFrom floor outs
NotesFrom floor (PacketOut packet ∷ outs) = NotesFrom floor outs

-- each packet among outputs starts at this sample or later
abbrev pub PacketsFrom : ℕ → List Out → Type 0
PacketsFrom floor [] = Unit {0}
PacketsFrom floor (NoteOut note ∷ outs) = PacketsFrom floor outs
PacketsFrom floor (PieceOut piece ∷ outs) = PacketsFrom floor outs
PacketsFrom floor (PacketOut packet ∷ outs) = (floor ≤ packet.start) × PacketsFrom floor outs

-- where the packets among outputs start
abbrev pub packet_starts : List Out → List ℕ
packet_starts [] = []
packet_starts (NoteOut note ∷ outs) = packet_starts outs
packet_starts (PieceOut piece ∷ outs) = packet_starts outs
packet_starts (PacketOut packet ∷ outs) = packet.start ∷ packet_starts outs

-- *floor*: each note that a longer input adds starts at this sample or later
abbrev pub IsFloor : {X : Type 0} → (List X → List Out) → List X → ℕ → Type 0
IsFloor {X} outs input floor =
    (more : List X) (new : List Out) → outs (input ++ more) ≡ outs input ++ new
    → NotesFrom floor new

-- *floor* of packets: each packet that a longer input adds starts at this sample or later
abbrev pub GivesFrom : {X : Type 0} → (List X → List Out) → List X → ℕ → Type 0
GivesFrom {X} outs input floor =
    (more : List X) (new : List Out) → outs (input ++ more) ≡ outs input ++ new
    → PacketsFrom floor new

-- *nothing*: no input gives nothing
abbrev pub GivesNothing : {X : Type 0} → (List X → List Out) → Type 0
GivesNothing outs = outs [] ≡ []

-- *prefix*: the outputs of a longer input begin with those of this one
abbrev pub KeepsFront : {X : Type 0} → (List X → List Out) → Type 0
KeepsFront {X} outs =
    (input more : List X) → (new : List Out) × (outs (input ++ more) ≡ outs input ++ new)

-- *order*: the starts of the packets never fall
abbrev pub PacketsInOrder : {X : Type 0} → (List X → List Out) → Type 0
PacketsInOrder {X} outs = (input : List X) → IsNonDecreasing (packet_starts (outs input))

-- *few*: one more sample or packet adds at most 16 outputs
abbrev pub AddsFew : {X : Type 0} → (List X → List Out) → Type 0
AddsFew {X} outs =
    (input : List X) (item : X) → length (outs (input ++ item ∷ [])) ≤ length (outs input) + 16

-- no sample of `more` meets an alternative, in the wait that began behind `seen`
abbrev pub Rests : List Alt → List ℕ → List ℕ → Type 0
Rests alts seen more = NoneMet (seen ++ more) alts (length seen) (length (seen ++ more))

-- the wait that began behind `seen` stops in `more`: at this place, value and set of alternatives
pub record StopsIn (alts : List Alt) (seen more : List ℕ) (at value met : ℕ) : Type 0 where
  pub stop : IsStop (seen ++ more) alts (length seen) at met
  pub value_is : value ≡ slice_index (seen ++ more) at

-- *quiet*: samples that don't meet the condition leave the outputs as they were
abbrev pub IsQuiet : (List ℕ → List Out) → (List ℕ → Type 0) → List Alt → Type 0
IsQuiet outs stands alts =
    (seen more : List ℕ) → stands seen → Rests alts seen more → outs (seen ++ more) ≡ outs seen

-- *loud*: a stop extends the outputs by those that were put behind the earlier ones, and by
-- nothing else
abbrev pub IsLoud : (List ℕ → List Out) → (List ℕ → Type 0) → List Alt → ℕ → ℕ → ℕ → List Out
    → List Out → Type 0
IsLoud outs stands alts at value met earlier into =
    (seen more : List ℕ) → stands seen → StopsIn alts seen more at value met
    → (new : List Out) × (into ≡ earlier ++ new)
    × (outs (take (at + 1) (seen ++ more)) ≡ outs seen ++ new)

-- after a stop a machine stands for the samples up to it, and the stop itself
abbrev pub StandsThere : (List ℕ → Type 0) → (List ℕ → Type 0) → List Alt → ℕ → ℕ → ℕ → Type 0
StandsThere old new alts at value met =
    (seen more : List ℕ) → old seen → StopsIn alts seen more at value met
    → new (take (at + 1) (seen ++ more))

-- *one machine*: two machines of one setup that stand for the same samples are equal
abbrev pub OneMachine : {L S : Type 0} → (L → S) → (L → List ℕ → Type 0) → Type 0
OneMachine {L} setup stands =
    (one other : L) (list : List ℕ) → setup one ≡ setup other → stands one list → stands other list
    → one ≡ other

-- *one stop*: setup and samples fix the place of the last stop; where one machine has no further
-- stop, no other has one
abbrev pub OneLastStop : {L S : Type 0} → (L → S) → (L → List ℕ → Type 0) → (L → List Alt) → Type 0
OneLastStop {L} setup stands alts =
    (one other : L) (seen more : List ℕ) → setup one ≡ setup other → stands one seen
    → stands other (seen ++ more) → Rests (alts one) seen more → more ≡ []

-- each packet among outputs is of this wire
abbrev pub PacketsOn : Wire → List Out → Type 0
PacketsOn wire [] = Unit {0}
PacketsOn wire (NoteOut note ∷ outs) = PacketsOn wire outs
PacketsOn wire (PieceOut piece ∷ outs) = PacketsOn wire outs
PacketsOn wire (PacketOut packet ∷ outs) = (wire_of packet.kind ≡ wire) × PacketsOn wire outs

-- *wire*: each packet that is put out is of this wire
abbrev pub GivesOn : {X : Type 0} → Wire → (List X → List Out) → Type 0
GivesOn {X} wire outs = (input : List X) → PacketsOn wire (outs input)
