-- A serial flash of the 25 series on SPI, on a whole list of packets: what is told of its
-- *transactions*, each of which runs from a select to the next deselect. The first word that the
-- master sends in one is the instruction; what follows it is by data sheets of the series, as
-- Winbond's W25Q, section "Instructions": "Read JEDEC ID", "Read Status Register", "Write Status
-- Register", "Read Data", "Fast Read", "Page Program", "Sector Erase", "Block Erase", "Chip Erase".
-- Spans, counts and summaries are this project's own.
use Rattle.std.specs.Prelude.{ℕ, ◌+◌, ◌-◌, ◌*◌, ◌%◌, ◌^◌, min, Bool, true, false, ◌||◌, ◌==◌}
use Rattle.std.specs.Prelude.{if◌then◌else◌, List, [], ◌∷◌, length}
use Rattle.std.specs.List.{filter, flat_map}
use Rattle.la_base.specs.declared.wires.Out.{Out}
use Rattle.la_base.specs.declared.wires.Packet.{Packet}
use Rattle.la_base.specs.declared.wires.PacketKind.{PacketKind}
use Rattle.la_base.specs.declared.wires.PacketKind.TheVariants.{SpiSelect, SpiWord, SpiDeselect}
use Rattle.list_cuts.specs.Along.{along}
use Rattle.decoder_core.specs.Outputs.{span_note, span_piece}
use Rattle.packet_walks.specs.Transactions.{Device, transaction_outs, transaction_near}
use Rattle.dev_flash25.specs.declared.held.Command.{Command}
use Rattle.dev_flash25.specs.declared.held.Command.TheVariants.{Id, Status, WriteStatus, Read}
use Rattle.dev_flash25.specs.declared.held.Command.TheVariants.{FastRead, Program, EraseSector}
use Rattle.dev_flash25.specs.declared.held.Command.TheVariants.{EraseBlock, EraseChip, Other}

abbrev pub is_select : PacketKind → Bool
is_select SpiSelect = true
is_select other = false

abbrev pub is_word : PacketKind → Bool
is_word SpiWord = true
is_word other = false

abbrev pub is_deselect : PacketKind → Bool
is_deselect SpiDeselect = true
is_deselect other = false

-- the byte that the master sends in a word, and the one that the flash sends: the lowest eight bits
abbrev pub mosi : Packet → ℕ
mosi word = word.a % 256

abbrev pub miso : Packet → ℕ
miso word = word.b % 256

-- the words among packets
abbrev pub words_in : List Packet → List Packet
words_in packets = filter (λ packet. is_word packet.kind) packets

-- which instruction a byte is, of those behind which more is told
abbrev pub command_of : ℕ → Command
command_of byte =
    if byte == 159 then Id
    else if byte == 5 then Status
    else if byte == 1 then WriteStatus
    else if byte == 3 then Read
    else if byte == 11 then FastRead
    else if byte == 2 then Program
    else if byte == 32 then EraseSector
    else if byte == 216 then EraseBlock
    else if byte == 199 || byte == 96 then EraseChip
    else Other

-- a note and a piece of one word
abbrev pub word_note : ℕ → Packet → ℕ → ℕ → Out
word_note class word a b = span_note class word.start word.end a b

abbrev pub word_piece : ℕ → Packet → ℕ → Out
word_piece class word byte = span_piece class word.start word.end byte

-- three bytes as a number, the first the highest
abbrev pub three_bytes : ℕ → ℕ → ℕ → ℕ
three_bytes first second third = (first * 256 + second) * 256 + third

-- what the first three words give with those behind them; fewer give nothing
abbrev pub with_three : (Packet → Packet → Packet → List Packet → List Out) → List Packet → List Out
with_three give [] = []
with_three give (x ∷ []) = []
with_three give (x ∷ y ∷ []) = []
with_three give (x ∷ y ∷ z ∷ others) = give x y z others

-- the identification, which the flash sends
abbrev pub id_outs : Packet → Packet → Packet → List Packet → List Out
id_outs x y z others = span_note 1 x.start z.end (three_bytes (miso x) (miso y) (miso z)) 0 ∷ []

-- a status that the flash sends, and one that is written
abbrev pub status_outs : Packet → List Out
status_outs word = word_note 2 word (miso word) 0 ∷ []

abbrev pub written_outs : Packet → List Out
written_outs word = word_note 3 word (mosi word) 0 ∷ []

-- the address that three words say
abbrev pub address : Packet → Packet → Packet → ℕ
address x y z = three_bytes (mosi x) (mosi y) (mosi z)

-- an address, and what is told of the words behind it
abbrev pub addressed : (ℕ → List Packet → List Out) → Packet → Packet → Packet → List Packet
    → List Out
addressed give x y z others =
    span_note 4 x.start z.end (address x y z) 0 ∷ give (address x y z) others

-- a byte that is read, and one that is programmed, at an address
abbrev pub read_outs : ℕ → Packet → List Out
read_outs at word = word_note 5 word (miso word) at ∷ word_piece 0 word (miso word) ∷ []

abbrev pub program_outs : ℕ → Packet → List Out
program_outs at word = word_note 6 word (mosi word) at ∷ word_piece 1 word (mosi word) ∷ []

-- the address of a byte that is programmed, by its place behind the address: it stays in its page
-- of 256 bytes
abbrev pub in_page : ℕ → ℕ → ℕ
in_page at place = at - at % 256 + (at + place) % 256

-- reading goes on over the end of the 24 bits of an address
abbrev pub reads : ℕ → List Packet → List Out
reads at words = along (λ before word. read_outs ((at + length before) % 2 ^ 24) word) words

abbrev pub programs : ℕ → List Packet → List Out
programs at words = along (λ before word. program_outs (in_page at (length before)) word) words

-- behind the address of a fast read stands a word that says nothing
abbrev pub behind_dummy : List Packet → List Packet
behind_dummy [] = []
behind_dummy (dummy ∷ words) = words

abbrev pub fast_reads : ℕ → List Packet → List Out
fast_reads at words = reads at (behind_dummy words)

-- an address is all that an erase has
abbrev pub erases : ℕ → List Packet → List Out
erases at words = []

-- what the words behind an instruction give
abbrev pub behind : Command → List Packet → List Out
behind Id words = with_three id_outs words
behind Status words = flat_map status_outs words
behind WriteStatus words = flat_map written_outs words
behind Read words = with_three (addressed reads) words
behind FastRead words = with_three (addressed fast_reads) words
behind Program words = with_three (addressed programs) words
behind EraseSector words = with_three (addressed erases) words
behind EraseBlock words = with_three (addressed erases) words
behind EraseChip words = []
behind Other words = []

-- what the words of a transaction give
abbrev pub words_outs : List Packet → List Out
words_outs [] = []
words_outs (command ∷ words) =
    word_note 0 command (mosi command) 0 ∷ behind (command_of (mosi command)) words

-- the summary of so many bytes of data, if there are any; their number stays at 2^60 once it has
-- reached that
abbrev pub data_summary : ℕ → ℕ → ℕ → ℕ → ℕ → List Out
data_summary class first last at count =
    if count == 0 then [] else span_note class first last (min count (2 ^ 60)) at ∷ []

-- the summary of a transaction, by its instruction, the start of that, the end of the last word,
-- and the words behind it
abbrev pub summary : Command → ℕ → ℕ → List Packet → List Out
summary Id first last words = []
summary Status first last words = []
summary WriteStatus first last words = []
summary Read first last words =
    with_three (λ x y z others. data_summary 7 first last (address x y z) (length others)) words
summary FastRead first last words =
    with_three
    (λ x y z others. data_summary 7 first last (address x y z) (length (behind_dummy others))) words
summary Program first last words =
    with_three (λ x y z others. data_summary 8 first last (address x y z) (length others)) words
summary EraseSector first last words =
    with_three (λ x y z others. span_note 9 first last 0 (address x y z) ∷ []) words
summary EraseBlock first last words =
    with_three (λ x y z others. span_note 10 first last 0 (address x y z) ∷ []) words
summary EraseChip first last words = span_note 11 first last 0 0 ∷ []
summary Other first last words = []

-- the last of some words
abbrev pub last_in : Packet → List Packet → Packet
last_in word [] = word
last_in word (next ∷ words) = last_in next words

-- what the deselect gives behind the words of a transaction
abbrev pub words_summary : List Packet → List Out
words_summary [] = []
words_summary (command ∷ words) =
    summary (command_of (mosi command)) command.start (last_in command words).end words

-- a flash by its transactions: a select inside of one begins nothing
abbrev pub flash : Device
flash = record {
  begins = λ packet. is_select packet.kind;
  ends = λ packet. is_deselect packet.kind;
  inside = λ packets. words_outs (words_in packets);
  closing = λ packets. words_summary (words_in packets);
}

-- *outputs*: all that packets give
abbrev pub flash_outs : List Packet → List Out
flash_outs packets = transaction_outs flash packets

-- *near*: the start of the select that opened the present transaction; where none is open, the
-- place from which on all that come start
abbrev pub flash_near : List Packet → ℕ → ℕ
flash_near packets from = transaction_near flash packets from
