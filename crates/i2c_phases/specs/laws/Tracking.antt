-- What is kept of the packets of I2C for one device: how far the open phase has come.
use Rattle.std.specs.Prelude.{ℕ, ◌≡◌, ◌⊎◌, ◌==◌, ◌&&◌, Bool, true, false, if◌then◌else◌, List, []}
use Rattle.std.specs.Prelude.{◌∷◌, ◌++◌}
use Rattle.la_base.specs.declared.wires.Packet.{Packet}
use Rattle.list_cuts.specs.Parts.{parts}
use Rattle.i2c_phases.specs.declared.tracker.Role.{Role}
use Rattle.i2c_phases.specs.declared.tracker.Role.TheVariants.{Fresh, Late, AskedWrite, AskedRead}
use Rattle.i2c_phases.specs.declared.tracker.Role.TheVariants.{AskedCall, Writing, Reading, Called}
use Rattle.i2c_phases.specs.declared.tracker.Role.TheVariants.{WasReset, Other}
use Rattle.i2c_phases.specs.declared.tracker.Event.{Event}
use Rattle.i2c_phases.specs.declared.tracker.Event.TheVariants.{Begins, WriteByte, ReadByte, Resets}
use Rattle.i2c_phases.specs.declared.tracker.Event.TheVariants.{Passes}
use Rattle.i2c_phases.specs.declared.tracker.Track.{Track}
use Rattle.i2c_phases.specs.Phases.{Meaning, Nothing, Writes, Reads, Reset, is_start, is_stop}
use Rattle.i2c_phases.specs.Phases.{is_address, is_data, is_ack, is_mark, byte_of, last_part}

abbrev pub no_phase : Track
no_phase = record { begun = false; start = 0; role = Other }

abbrev pub answered : Packet → Role → Role
answered packet role = if packet.a == 0 then role else Other

module _ (device : ℕ) (resets : Bool) where
  -- what an address asks of the device; `first` says that no data stands before it
  abbrev pub asked : Bool → Packet → Role
  asked first packet =
      if packet.a == device && packet.b == 0 then AskedWrite
      else (if packet.a == device && packet.b == 1 then AskedRead
      else (if resets && (first && (packet.a == 0 && packet.b == 0)) then AskedCall else Other))

  -- how far a phase has come behind one more packet
  abbrev pub inside : Role → Packet → Role
  inside Fresh packet =
      if is_address packet.kind then asked true packet
      else (if is_data packet.kind then Late else Fresh)
  inside Late packet = if is_address packet.kind then asked false packet else Late
  inside AskedWrite packet = if is_ack packet.kind then answered packet Writing else AskedWrite
  inside AskedRead packet = if is_ack packet.kind then answered packet Reading else AskedRead
  inside AskedCall packet =
      if is_ack packet.kind then answered packet Called
      else (if is_data packet.kind then Other else AskedCall)
  inside Writing packet = Writing
  inside Reading packet = Reading
  inside Called packet =
      if is_data packet.kind then (if byte_of packet == 6 then WasReset else Other) else Called
  inside WasReset packet = WasReset
  inside Other packet = Other

  -- and behind several
  abbrev pub ends : Role → List Packet → Role
  ends role [] = role
  ends role (packet ∷ packets) = ends (inside role packet) packets

  -- what is kept of the last part, and of all packets
  abbrev pub track_of : List Packet → Track
  track_of [] = no_phase
  track_of (packet ∷ packets) =
      if is_start packet.kind
      then (record { begun = true; start = packet.start; role = ends Fresh packets }) else no_phase

  unfoldable pub track : List Packet → Track
  track packets = track_of (last_part (parts is_mark packets))

  -- what is kept behind one more packet
  abbrev pub track_next : Track → Packet → Track
  track_next kept packet =
      if is_start packet.kind then (record { begun = true; start = packet.start; role = Fresh })
      else (if is_stop packet.kind then no_phase
      else (record { begun = kept.begun; start = kept.start; role = inside kept.role packet }))

-- what a packet is to the device: one that is no start or stop, and any
abbrev pub told : Role → Packet → Event
told Fresh packet = Passes
told Late packet = Passes
told AskedWrite packet = Passes
told AskedRead packet = Passes
told AskedCall packet = Passes
told Writing packet = if is_data packet.kind then WriteByte else Passes
told Reading packet = if is_data packet.kind then ReadByte else Passes
told Called packet =
    if is_data packet.kind then (if byte_of packet == 6 then Resets else Passes) else Passes
told WasReset packet = Passes
told Other packet = Passes

abbrev pub event : Role → Packet → Event
event role packet =
    if is_start packet.kind then Begins
    else (if is_stop packet.kind then Passes else told role packet)

-- what a packet that is this to the device makes of the meanings of all phases
abbrev pub Comes : Event → Packet → List Meaning → List Meaning → Type 0
Comes Begins p old now = now ≡ old ++ Nothing ∷ []
Comes WriteByte p old now =
    (before : List Meaning) × (bytes : List Packet) × (old ≡ before ++ Writes bytes ∷ [])
    × (now ≡ before ++ Writes (bytes ++ p ∷ []) ∷ [])
Comes ReadByte p old now =
    (before : List Meaning) × (bytes : List Packet) × (old ≡ before ++ Reads bytes ∷ [])
    × (now ≡ before ++ Reads (bytes ++ p ∷ []) ∷ [])
Comes Resets p old now =
    (before : List Meaning) × (old ≡ before ++ Nothing ∷ []) × (now ≡ before ++ Reset ∷ [])
Comes Passes p old now =
    (now ≡ old)
    ⊎ ((before : List Meaning) × (old ≡ before ++ Nothing ∷ [])
    × ((now ≡ before ++ Writes [] ∷ []) ⊎ (now ≡ before ++ Reads [] ∷ [])))
