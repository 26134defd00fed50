-- Real time apart from everything else.
use Rattle.std.specs.Prelude.{◌≡◌, ◌%◌, Bool, true, false, ◌&&◌, ◌==◌, not, List}
use Rattle.std.specs.List.{filter}
use Rattle.la_base.specs.declared.wires.Out.{Out}
use Rattle.la_base.specs.declared.wires.Out.TheVariants.{Note as NoteOut}
use Rattle.la_base.specs.declared.wires.Packet.{Packet}
use Rattle.dec_midi.specs.declared.held.Sort.{Sort}
use Rattle.dec_midi.specs.declared.held.Sort.TheVariants.{RealTime}
use Rattle.dec_midi.specs.Midi.{is_byte, sort_of, midi_outs}

abbrev pub is_real_time_sort : Sort → Bool
is_real_time_sort RealTime = true
is_real_time_sort other = false

abbrev pub is_real_time : Packet → Bool
is_real_time packet = is_byte packet && is_real_time_sort (sort_of (packet.a % 256))

-- packets without the bytes of real time
abbrev pub without_real_time : List Packet → List Packet
without_real_time packets = filter (λ packet. not (is_real_time packet)) packets

-- outputs other than the notes of real time, which are those of class 11
abbrev pub is_other : Out → Bool
is_other (NoteOut note) = not (note.class == 11)
is_other output = true

abbrev pub other_outs : List Out → List Out
other_outs outs = filter is_other outs

-- the other outputs are those of the packets without the bytes of real time
abbrev pub RealTimeStandsAlone : Type 0
RealTimeStandsAlone = (packets : List Packet)
    → other_outs (midi_outs packets) ≡ midi_outs (without_real_time packets)
