-- What decoders of 1-Wire stand for, and how they are opened.
use Rattle.std.specs.Prelude.{ℕ, ◌≡◌, ◌<◌, ◌≤◌, ◌^◌, List, [], ◌∷◌, Result, Ok, Err}
use Rattle.la_base.specs.declared.samples.Rate.{Rate}
use Rattle.la_base.specs.declared.wires.Packet.{Packet}
use Rattle.decoder_core.specs.declared.faults.OptFault.{OptFault}
use Rattle.decoder_core.specs.declared.faults.OptFault.TheVariants.{Range, Rate as TooSlow}
use Rattle.packet_walks.specs.declared.walking.Walking.{Walking}
use Rattle.wait_cond.specs.declared.alt.Alt.{Alt}
use Rattle.dec_onewire.specs.declared.link.held.Line.{Line}
use Rattle.dec_onewire.specs.declared.link.held.OwLink.{OwLink}
use Rattle.dec_onewire.specs.declared.link.options.Lengths.{Lengths}
use Rattle.dec_onewire.specs.declared.link.options.OwLinkOpts.{OwLinkOpts}
use Rattle.dec_onewire.specs.declared.net.held.Held.{Held as NetHeld}
use Rattle.dec_onewire.specs.declared.net.held.OwNetOpts.{OwNetOpts}
use Rattle.dec_onewire.specs.Link.{lengths_of}
use Rattle.dec_onewire.specs.laws.LinkMachine.{edge_alt, EndsAtEdge, held_at}
use Rattle.dec_onewire.specs.laws.NetMachine.{held_of}

-- the line of a decoder of the link
abbrev pub line_of : OwLink → Line
line_of machine = machine.line

-- what it waits for: always an edge
abbrev pub alts_of : OwLink → List Alt
alts_of machine = edge_alt machine.line.opts.dq ∷ []

-- a decoder of the link stands for samples that end with an edge, or for none: it keeps what they
-- leave to keep, and has the lengths of its options
abbrev pub StandsFor : OwLink → List ℕ → Type 0
StandsFor machine list =
    EndsAtEdge machine.line.opts machine.line.rate list
    × (machine.held ≡ held_at machine.line.opts machine.line.rate list)
    × (machine.lengths ≡ lengths_of machine.line.opts machine.line.rate)

-- each option is in its range, where a sample has `most` bits; the times are in nanoseconds
pub record LinkInRange (most : ℕ) (opts : OwLinkOpts) : Type 0 where
  pub dq : opts.dq < most
  pub reset : (1 ≤ opts.reset) × (opts.reset ≤ 10 ^ 9)
  pub window : (1 ≤ opts.window) × (opts.window ≤ 10 ^ 9)
  pub bit : (1 ≤ opts.bit) × (opts.bit ≤ 10 ^ 9)

-- a 1 may have a sample and still be shorter than a 0, and a 0 may be shorter than a reset
abbrev pub FastEnough : Lengths → Type 0
FastEnough lengths = (2 ≤ lengths.bit) × (lengths.bit < lengths.reset)

-- a decoder of these options at this rate that stands for no samples; Range exactly where an option
-- is out of range, else Rate exactly where the rate is too low
abbrev pub LinkOpens : ℕ → OwLinkOpts → Rate → Result OwLink OptFault → Type 0
LinkOpens most opts rate (Ok machine) =
    LinkInRange most opts × FastEnough (lengths_of opts rate) × ((line_of machine).opts ≡ opts)
    × ((line_of machine).rate ≡ rate) × StandsFor machine []
LinkOpens most opts rate (Err Range) = ¬ LinkInRange most opts
LinkOpens most opts rate (Err TooSlow) =
    LinkInRange most opts × (¬ FastEnough (lengths_of opts rate))

abbrev pub NetDecoder : Type 0
NetDecoder = Walking NetHeld OwNetOpts

-- a decoder of the network stands for packets: it keeps what they leave to keep
abbrev pub NetStandsFor : NetDecoder → List Packet → Type 0
NetStandsFor machine packets = machine.held ≡ held_of packets

-- a decoder of the network that stands for no packets; nothing is refused
abbrev pub NetOpens : Result NetDecoder OptFault → Type 0
NetOpens (Ok machine) = NetStandsFor machine []
NetOpens (Err fault) = ⊥
