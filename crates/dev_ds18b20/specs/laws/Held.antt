-- What a thermometer keeps between two packets, and how one packet changes that.
use Rattle.std.specs.Prelude.{ℕ, nat_lt, ◌==◌, if◌then◌else◌, List, [], ◌∷◌, ◌++◌, length, max}
use Rattle.std.specs.Prelude.{take, Option, Some, None}
use Rattle.la_base.specs.declared.wires.Out.{Out}
use Rattle.la_base.specs.declared.wires.Packet.{Packet}
use Rattle.packet_walks.specs.laws.Steps.{Steps}
use Rattle.dev_ds18b20.specs.declared.spot.Spot.{Spot}
use Rattle.dev_ds18b20.specs.declared.held.Stage.{Stage}
use Rattle.dev_ds18b20.specs.declared.held.Stage.TheVariants.{Foreign, Own, Reads, Writes, Told}
use Rattle.dev_ds18b20.specs.declared.held.Transaction.{Transaction}
use Rattle.dev_ds18b20.specs.Probe.{is_byte, is_own, behind_own, bytes_in, note_over, spot_of}
use Rattle.dev_ds18b20.specs.Probe.{scratchpad_outs, written_outs}

abbrev pub opened : ℕ → Stage → List Spot → Transaction
opened start stage bytes = record { start = start; stage = stage; bytes = bytes }

-- what is kept of the bytes behind a function, of which so many and one more are told together
abbrev pub gathered : ℕ → ℕ → Stage → List Spot → Transaction
gathered start most stage bytes =
    if nat_lt most (length bytes) then opened start Told [] else opened start stage bytes

abbrev pub function_kept : ℕ → ℕ → List Spot → Transaction
function_kept start function bytes =
    if function == 190 then gathered start 8 Reads bytes
    else if function == 78 then gathered start 2 Writes bytes
    else opened start Told []

-- what is kept of the bytes of a transaction of its own
abbrev pub bytes_kept : ℕ → List Spot → Transaction
bytes_kept start [] = opened start Own []
bytes_kept start (function ∷ bytes) = function_kept start function.byte bytes

abbrev pub own_kept : ℕ → Option (List Packet) → Transaction
own_kept start None = opened start Foreign []
own_kept start (Some packets) = bytes_kept start (bytes_in packets)

-- what is kept of a transaction, by its reset and the packets behind it
abbrev pub transaction_kept : Packet → List Packet → Transaction
transaction_kept first packets = own_kept first.start (behind_own packets)

-- what stands behind a function
abbrev pub stage_behind : ℕ → Stage
stage_behind function = if function == 190 then Reads else if function == 78 then Writes else Told

-- what a byte gives that comes behind others
abbrev pub gathers_give : ℕ → (List Spot → Spot → List Out) → List Spot → Spot → List Out
gathers_give most give bytes byte =
    if nat_lt (length bytes) most then [] else give (take most bytes) byte

abbrev pub byte_gives : Stage → List Spot → Spot → List Out
byte_gives Foreign bytes byte = []
byte_gives Own bytes byte = note_over 0 byte byte byte.byte 0 ∷ []
byte_gives Reads bytes byte = gathers_give 8 scratchpad_outs bytes byte
byte_gives Writes bytes byte = gathers_give 2 written_outs bytes byte
byte_gives Told bytes byte = []

abbrev pub transaction_gives : Transaction → Packet → List Out
transaction_gives kept packet =
    if is_byte packet.kind then byte_gives kept.stage kept.bytes (spot_of packet) else []

-- what is kept behind a byte that comes behind others
abbrev pub gathers_next : ℕ → ℕ → Stage → List Spot → Spot → Transaction
gathers_next start most stage bytes byte =
    if nat_lt (length bytes) most then opened start stage (bytes ++ byte ∷ [])
    else opened start Told []

-- what is kept behind one more packet
abbrev pub stage_next : ℕ → Stage → List Spot → Packet → Transaction
stage_next start Foreign bytes packet = opened start (if is_own packet then Own else Foreign) bytes
stage_next start Own bytes packet =
    opened start (if is_byte packet.kind then stage_behind (spot_of packet).byte else Own) bytes
stage_next start Reads bytes packet =
    if is_byte packet.kind then gathers_next start 8 Reads bytes (spot_of packet)
    else opened start Reads bytes
stage_next start Writes bytes packet =
    if is_byte packet.kind then gathers_next start 2 Writes bytes (spot_of packet)
    else opened start Writes bytes
stage_next start Told bytes packet = opened start Told bytes

abbrev pub transaction_next : Transaction → Packet → Transaction
transaction_next kept packet = stage_next kept.start kept.stage kept.bytes packet

-- behind all that a transaction tells nothing of it is open
abbrev pub near_at : Stage → ℕ → ℕ → ℕ
near_at Told start last = max start last
near_at stage start last = start

abbrev pub probe_steps : Steps Transaction
probe_steps = record {
  opens = λ packet. opened packet.start Foreign [];
  next = transaction_next;
  gives = transaction_gives;
  closes = λ kept. [];
  near = λ kept last. near_at kept.stage kept.start last;
}
