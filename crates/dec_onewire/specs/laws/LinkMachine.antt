-- What a decoder of the link waits for, what it keeps of a line between two edges, and how one edge
-- changes that.
use Rattle.std.specs.Prelude.{ℕ, ◌-◌, ◌^◌, nat_le, nat_lt, Bool, true, false, if◌then◌else◌, List}
use Rattle.std.specs.Prelude.{[], ◌∷◌, Option, Some, None}
use Rattle.la_base.specs.Samples.{is_high}
use Rattle.la_base.specs.declared.wires.Out.{Out}
use Rattle.la_base.specs.declared.wires.Wire.TheVariants.{OwLink as LinkWire}
use Rattle.la_base.specs.declared.samples.Rate.{Rate}
use Rattle.wait_cond.specs.declared.alt.Alt.{Alt}
use Rattle.list_cuts.specs.Neighbours.{last_of}
use Rattle.sample_walks.specs.Events.{EventWalk, by_events}
use Rattle.sample_walks.specs.Walks.{walked, EndsThere}
use Rattle.dec_onewire.specs.declared.link.held.Held.{Held}
use Rattle.dec_onewire.specs.declared.link.options.Lengths.{Lengths}
use Rattle.dec_onewire.specs.declared.link.options.OwLinkOpts.{OwLinkOpts}
use Rattle.dec_onewire.specs.Link.{Edge, To, Pulse, Signal, Reset, Presence, Bit, edge_at, pulses}
use Rattle.dec_onewire.specs.Link.{is_reset, signal_outs, fall_of, open_at, lengths_of}

-- an edge of a line
abbrev pub edge_alt : ℕ → Alt
edge_alt line =
    record { low = 0; high = 0; rise = 0; fall = 0; edge = 2 ^ line; steady = 0; skip = 0 }

-- whether a pulse of so many samples is a reset
abbrev pub reset_by : Lengths → ℕ → Bool
reset_by lengths width = nat_le lengths.reset width

-- whether a pulse that falls here answers the reset that has ended there
abbrev pub answers_by : Lengths → Option ℕ → ℕ → Bool
answers_by lengths None fall = false
answers_by lengths (Some end) fall = nat_le (fall - end) lengths.window

-- what a pulse says, by where the pulse before it has ended, if that was a reset
abbrev pub signal_by : Lengths → Option ℕ → ℕ → ℕ → Signal
signal_by lengths reset_end fall rise =
    if reset_by lengths (rise - fall) then Reset
    else if answers_by lengths reset_end fall then Presence
    else Bit (nat_lt (rise - fall) lengths.bit)

-- what it gives
abbrev pub pulse_gives : Lengths → Option ℕ → ℕ → ℕ → List Out
pulse_gives lengths reset_end fall rise =
    signal_outs fall rise (signal_by lengths reset_end fall rise)

-- what a rise gives, by where the line fell
abbrev pub rise_gives : Lengths → Option ℕ → Option ℕ → ℕ → List Out
rise_gives lengths None reset_end at = []
rise_gives lengths (Some fall) reset_end at = pulse_gives lengths reset_end fall at

-- where the last pulse has ended behind a rise, if it was a reset
abbrev pub end_by : Lengths → Option ℕ → Option ℕ → ℕ → Option ℕ
end_by lengths None reset_end at = reset_end
end_by lengths (Some fall) reset_end at = if reset_by lengths (at - fall) then Some at else None

-- what an edge gives
abbrev pub gives : Lengths → Held → Edge → List Out
gives lengths held (To at true) = rise_gives lengths held.fall held.reset_end at
gives lengths held (To at false) = []

-- what is then kept
abbrev pub next : Lengths → Held → Edge → Held
next lengths held (To at true) =
    record { fall = None; reset_end = end_by lengths held.fall held.reset_end at }
next lengths held (To at false) = record { fall = Some at; reset_end = held.reset_end }

-- where the pulse starts that hasn't ended yet, else the number of samples
abbrev pub near_by : Held → ℕ → ℕ
near_by held count = open_at held.fall count

-- where a pulse has ended, if it was a reset
abbrev pub end_of : Lengths → Option Pulse → Option ℕ
end_of lengths None = None
end_of lengths (Some pulse) = if is_reset lengths pulse then Some pulse.rise else None

-- what is kept of edges
abbrev pub held_after : Lengths → List Edge → Held
held_after lengths list =
    record { fall = fall_of (last_of list); reset_end = end_of lengths (last_of (pulses list)) }

-- the walk from edge to edge
abbrev pub link_walk : ℕ → Lengths → EventWalk Held Edge
link_walk line lengths = record {
  event_at = edge_at line;
  begin = record { fall = None; reset_end = None };
  next = next lengths;
  gives = gives lengths;
  alts = λ h. edge_alt line ∷ [];
  near = near_by;
  event_of = λ h at value met. To at (is_high value line);
  wire = LinkWire;
}

-- the last sample is one with an edge, or there is none
abbrev pub EndsAtEdge : OwLinkOpts → Rate → List ℕ → Type 0
EndsAtEdge opts rate list = EndsThere (by_events (link_walk opts.dq (lengths_of opts rate))) list

-- what is kept of samples
abbrev pub held_at : OwLinkOpts → Rate → List ℕ → Held
held_at opts rate list = walked (by_events (link_walk opts.dq (lengths_of opts rate))) list
