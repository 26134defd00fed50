-- What a decoder of MIDI stands for, and how it is opened.
use Rattle.std.specs.Prelude.{◌≡◌, List, [], Result, Ok, Err}
use Rattle.la_base.specs.declared.wires.Packet.{Packet}
use Rattle.decoder_core.specs.declared.faults.OptFault.{OptFault}
use Rattle.packet_walks.specs.declared.walking.Walking.{Walking}
use Rattle.dec_midi.specs.declared.held.Held.{Held}
use Rattle.dec_midi.specs.declared.held.MidiOpts.{MidiOpts}
use Rattle.dec_midi.specs.laws.Steps.{held_of}

abbrev pub MidiDecoder : Type 0
MidiDecoder = Walking Held MidiOpts

-- a decoder stands for packets: it keeps what they leave to keep
abbrev pub StandsFor : MidiDecoder → List Packet → Type 0
StandsFor machine packets = machine.held ≡ held_of packets

-- a decoder that stands for no packets; nothing is refused
abbrev pub Opens : Result MidiDecoder OptFault → Type 0
Opens (Ok machine) = StandsFor machine []
Opens (Err fault) = ⊥
