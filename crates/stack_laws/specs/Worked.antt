-- A worked run of two instances over links of one slot.
use Rattle.std.specs.Prelude.{ℕ, ◌≡◌, false, List, [], ◌∷◌, Option, Some, None}
use Rattle.std.proofs.Math.Nat.{le_refl}
use Rattle.la_base.specs.declared.samples.Run.{Run}
use Rattle.la_base.specs.declared.wires.Feed.TheVariants.{Run as RunFeed, Packet as PacketFeed}
use Rattle.la_base.specs.declared.wires.Feed.TheVariants.{From, End}
use Rattle.la_base.specs.declared.wires.Mark.TheVariants.{Note as NoteMark, Floor as FloorMark}
use Rattle.la_base.specs.declared.wires.Mark.TheVariants.{End as EndMark}
use Rattle.la_base.specs.declared.wires.Note.{Note}
use Rattle.la_base.specs.declared.wires.Packet.{Packet}
use Rattle.la_base.specs.declared.wires.PacketKind.TheVariants.{UartFrame}
use Rattle.la_base.specs.declared.wires.Out.{Out}
use Rattle.la_base.specs.declared.wires.Out.TheVariants.{Note as NoteOut, Packet as PacketOut}
use Rattle.note_order.specs.Order.{entry_of}
use Rattle.decoder_core.specs.Inputs.{Item, Sample, Pack}
use Rattle.tree_runs.specs.Machines.{Definitions}
use Rattle.stack_laws.specs.Running.{opening}
use Rattle.stack_laws.specs.Events.{Event, Read, Root, Take, Close, Step, Give, Tell, Gather, Print}
use Rattle.stack_laws.specs.Events.{MayAll, after_all}
use Rattle.stack_laws.specs.Laws.{IsDone}

-- a note of a class, and a packet, at sample 0
abbrev pub note : ℕ → Note
note class = record { class = class; start = 0; end = 0; a = 0; b = 0; in_order = le_refl 0 }

abbrev pub packet : Packet
packet = record { kind = UartFrame; start = 0; end = 0; a = 0; b = 0; in_order = le_refl 0 }

-- one sample
abbrev pub run : Run
run = record { value = 0; len = 1; not_empty = le_refl 1 }

-- each sample gives a note and a packet, and each packet a note of another class
abbrev pub echoes : List Item → List Out
echoes [] = []
echoes (Sample value ∷ items) = NoteOut (note 0) ∷ PacketOut packet ∷ echoes items
echoes (Pack p ∷ items) = NoteOut (note 1) ∷ echoes items

abbrev pub all_echo : Definitions
all_echo = record { whole = λ j. echoes; near = λ j input. 0 }

abbrev pub places : List (Option ℕ)
places = None ∷ Some 0 ∷ []

-- the first note is printed while the feed goes on, the second once all of the first instance was
-- gathered
abbrev pub history : List Event
history =
    Read (Some run) ∷ Root 0 (RunFeed run) ∷ Take 0 (RunFeed run)
    ∷ Step 0 (Sample 0 ∷ []) (NoteOut (note 0) ∷ PacketOut packet ∷ []) (Some 0)
    ∷ Give 0 1 (PacketFeed packet)
    ∷ Tell 0 (NoteMark (note 0)) ∷ Gather 0 (NoteMark (note 0)) false
    ∷ Print (entry_of 0 (note 0)) false
    ∷ Take 1 (PacketFeed packet) ∷ Step 1 (Pack packet ∷ []) (NoteOut (note 1) ∷ []) (Some 0)
    ∷ Give 0 1 (From 0) ∷ Take 1 (From 0)
    ∷ Read None ∷ Root 0 End ∷ Take 0 End ∷ Close 0 ∷ Give 0 1 End
    ∷ Tell 0 (FloorMark 0) ∷ Gather 0 (FloorMark 0) false
    ∷ Tell 0 EndMark ∷ Gather 0 EndMark false
    ∷ Tell 1 (NoteMark (note 1)) ∷ Gather 1 (NoteMark (note 1)) false
    ∷ Print (entry_of 1 (note 1)) false
    ∷ Take 1 End ∷ Close 1
    ∷ Tell 1 (FloorMark 0) ∷ Gather 1 (FloorMark 0) false
    ∷ Tell 1 EndMark ∷ Gather 1 EndMark false ∷ []

-- these events may happen one after another; both notes are printed then, and all is done
pub record WorkedRun : Type 0 where
  pub may : MayAll places all_echo 1 history opening
  pub prints : (after_all places history opening).printed
      ≡ entry_of 0 (note 0) ∷ entry_of 1 (note 1) ∷ []
  pub done : IsDone places (after_all places history opening)
