-- The link of 1-Wire on a whole list of samples, by Maxim's application note 126, "1-Wire
-- Communication Through Software", tables "1-Wire Operations" and "1-Wire Master Timing". Whoever
-- speaks pulls the line low for a while. The master does so for long to reset all devices, and they
-- answer with a pulse soon after; of the pulses that carry bits a short one is a 1, whoever sends
-- it, and a longer one a 0. What is long, soon and short is set by options, in nanoseconds.
use Rattle.std.specs.Prelude.{ℕ, ◌-◌, nat_lt, nat_le, Bool, true, false, ◌&&◌, if◌then◌else◌, List}
use Rattle.std.specs.Prelude.{[], ◌∷◌, length, Option, Some, None}
use Rattle.la_base.specs.Samples.{is_high}
use Rattle.la_base.specs.declared.samples.Rate.{Rate}
use Rattle.la_base.specs.declared.wires.Out.{Out}
use Rattle.la_base.specs.declared.wires.PacketKind.TheVariants.{OwReset, OwPresence, OwBit}
use Rattle.list_cuts.specs.Bits.{bit_of}
use Rattle.list_cuts.specs.Neighbours.{at_neighbours, last_of}
use Rattle.decoder_core.specs.Outputs.{span_note, span_packet}
use Rattle.rate_math.specs.Counts.{samples_of_ns}
use Rattle.dec_onewire.specs.declared.link.options.Lengths.{Lengths}
use Rattle.dec_onewire.specs.declared.link.options.OwLinkOpts.{OwLinkOpts}

-- an edge of the line: at which sample, and whether the line is high there
pub data Edge : Type 0 where
  To : ℕ → Bool → Edge

-- the edge at sample k, by whether the line was high before it and is high at it
abbrev pub edge_by : ℕ → Bool → Bool → List Edge
edge_by k false true = To k true ∷ []
edge_by k true false = To k false ∷ []
edge_by k false false = []
edge_by k true true = []

-- there is none at the first sample
abbrev pub edge_at : ℕ → ℕ → Option ℕ → ℕ → List Edge
edge_at line k None now = []
edge_at line k (Some before) now = edge_by k (is_high before line) (is_high now line)

-- all edges of a line
abbrev pub edges : ℕ → List ℕ → List Edge
edges line samples = at_neighbours (edge_at line) samples

-- a pulse: the line is low from its fall on, up to its rise
pub record Pulse : Type 0 where
  pub fall : ℕ
  pub rise : ℕ

-- an edge ends a pulse: it rises, and the one before it fell
abbrev pub pulse_by : ℕ → Bool → ℕ → Bool → List Pulse
pulse_by fall false rise true = record { fall = fall; rise = rise } ∷ []
pulse_by fall false rise false = []
pulse_by fall true rise level = []

-- that pulse, by the edge before an edge
abbrev pub pulse_at : ℕ → Option Edge → Edge → List Pulse
pulse_at place None edge = []
pulse_at place (Some (To fall was)) (To rise is) = pulse_by fall was rise is

-- all whole pulses: each a fall and the next rise
abbrev pub pulses : List Edge → List Pulse
pulses list = at_neighbours pulse_at list

-- how many samples a reset has at least, how many lie between its rise and the fall of its answer
-- at most, and how many a 0 has at least: the times of the options, rounded up
abbrev pub lengths_of : OwLinkOpts → Rate → Lengths
lengths_of opts rate = record {
  reset = samples_of_ns rate.num rate.den opts.reset;
  window = samples_of_ns rate.num rate.den opts.window;
  bit = samples_of_ns rate.num rate.den opts.bit;
}

-- what a pulse says
pub data Signal : Type 0 where
  Reset : Signal
  Presence : Signal
  Bit : Bool → Signal

-- a reset is long
abbrev pub is_reset : Lengths → Pulse → Bool
is_reset lengths pulse = nat_le lengths.reset (pulse.rise - pulse.fall)

-- a pulse answers a reset: this is the pulse right before it, and it falls soon after that has
-- risen
abbrev pub answers : Lengths → Option Pulse → Pulse → Bool
answers lengths None pulse = false
answers lengths (Some before) pulse =
    is_reset lengths before && nat_le (pulse.fall - before.rise) lengths.window

-- what a pulse says, by the pulse before it: a long one is a reset, one that answers a reset is a
-- presence, and any other one is a bit, which is 1 where it is short
abbrev pub signal_of : Lengths → Option Pulse → Pulse → Signal
signal_of lengths before pulse =
    if is_reset lengths pulse then Reset
    else if answers lengths before pulse then Presence
    else Bit (nat_lt (pulse.rise - pulse.fall) lengths.bit)

-- what a pulse from its fall to its rise gives that says this
abbrev pub signal_outs : ℕ → ℕ → Signal → List Out
signal_outs fall rise Reset = span_note 0 fall rise 0 0 ∷ span_packet OwReset fall rise 0 0 ∷ []
signal_outs fall rise Presence =
    span_note 1 fall rise 0 0 ∷ span_packet OwPresence fall rise 0 0 ∷ []
signal_outs fall rise (Bit bit) =
    span_note 2 fall rise (bit_of bit) 0 ∷ span_packet OwBit fall rise (bit_of bit) 0 ∷ []

-- what a pulse gives, by the pulse before it
abbrev pub pulse_outs : Lengths → ℕ → Option Pulse → Pulse → List Out
pulse_outs lengths place before pulse =
    signal_outs pulse.fall pulse.rise (signal_of lengths before pulse)

-- what the edges of a line give
abbrev pub edges_outs : Lengths → List Edge → List Out
edges_outs lengths list = at_neighbours (pulse_outs lengths) (pulses list)

-- *outputs*: all that samples give
unfoldable pub link_outs : OwLinkOpts → Rate → List ℕ → List Out
link_outs opts rate samples = edges_outs (lengths_of opts rate) (edges opts.dq samples)

-- where the line fell, if the last edge is a fall
abbrev pub fall_of : Option Edge → Option ℕ
fall_of None = None
fall_of (Some (To fall false)) = Some fall
fall_of (Some (To rise true)) = None

-- where an open pulse starts, else the number of samples
abbrev pub open_at : Option ℕ → ℕ → ℕ
open_at None count = count
open_at (Some fall) count = fall

-- *near*: where the pulse starts that hasn't ended yet, else the number of samples
unfoldable pub link_near : OwLinkOpts → List ℕ → ℕ
link_near opts samples = open_at (fall_of (last_of (edges opts.dq samples))) (length samples)
