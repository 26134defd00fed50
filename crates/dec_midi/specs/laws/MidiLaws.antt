-- What MIDI promises of its outputs, and that packets make its decoder.
use Rattle.std.proofs.Common.{◌≡◌, List, refl}
use Rattle.la_base.specs.declared.wires.Packet.{Packet}
use Rattle.la_base.specs.declared.wires.Wire.TheVariants.{Uart as UartWire, Nothing as NoWire}
use Rattle.packet_walks.specs.Outputs.{PacketOuts}
use Rattle.packet_walks.specs.laws.WalkLaws.{walk_promises}
use Rattle.packet_walks.specs.laws.Walking.{one_walking}
use Rattle.dec_midi.specs.declared.held.MidiOpts.{MidiOpts}
use Rattle.dec_midi.specs.Midi.{midi_outs}
use Rattle.dec_midi.specs.Opening.{MidiDecoder, StandsFor}
use Rattle.dec_midi.specs.laws.Steps.{held_of, midi_walk}
use Rattle.dec_midi.specs.laws.Pushed.{midi_pushed}
use Rattle.dec_midi.specs.laws.Sound.{midi_fits, midi_sound}

pub midi_promises : PacketOuts UartWire NoWire midi_outs
midi_promises =
    walk_promises midi_walk midi_outs held_of midi_pushed NoWire midi_fits midi_sound UartWire

pub one_midi : (one other : MidiDecoder) (packets : List Packet) → StandsFor one packets
    → StandsFor other packets → one ≡ other
one_midi one other packets stands also =
    one_walking (λ (opts : MidiOpts). held_of) one other packets refl stands also
