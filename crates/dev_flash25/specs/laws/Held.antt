-- What a flash keeps between two packets, and how one packet changes that.
use Rattle.std.specs.Prelude.{ℕ, ◌+◌, ◌-◌, ◌%◌, ◌^◌, min, Bool, true, false, ◌==◌, if◌then◌else◌}
use Rattle.std.specs.Prelude.{List, [], ◌∷◌, length}
use Rattle.la_base.specs.declared.wires.Out.{Out}
use Rattle.la_base.specs.declared.wires.Packet.{Packet}
use Rattle.decoder_core.specs.Outputs.{span_note}
use Rattle.packet_walks.specs.laws.Steps.{Steps}
use Rattle.dev_flash25.specs.declared.held.Command.{Command}
use Rattle.dev_flash25.specs.declared.held.Command.TheVariants.{Id, Status, WriteStatus, Read}
use Rattle.dev_flash25.specs.declared.held.Command.TheVariants.{FastRead, Program, EraseSector}
use Rattle.dev_flash25.specs.declared.held.Command.TheVariants.{EraseBlock, EraseChip, Other}
use Rattle.dev_flash25.specs.declared.held.Said.{Said}
use Rattle.dev_flash25.specs.declared.held.Said.TheVariants.{Nothing, One, Two, Dummy, Whole}
use Rattle.dev_flash25.specs.declared.held.Words.{Words}
use Rattle.dev_flash25.specs.declared.held.Words.TheVariants.{Empty, Begun}
use Rattle.dev_flash25.specs.declared.held.Open.{Open}
use Rattle.dev_flash25.specs.Flash.{is_word, mosi, miso, words_in, command_of, word_note}
use Rattle.dev_flash25.specs.Flash.{three_bytes, status_outs, written_outs, read_outs, program_outs}
use Rattle.dev_flash25.specs.Flash.{last_in}

-- whether three bytes behind an instruction make up a number, and whether a word behind them says
-- nothing
abbrev pub has_number : Command → Bool
has_number Id = true
has_number Status = false
has_number WriteStatus = false
has_number Read = true
has_number FastRead = true
has_number Program = true
has_number EraseSector = true
has_number EraseBlock = true
has_number EraseChip = false
has_number Other = false

abbrev pub has_dummy : Command → Bool
has_dummy FastRead = true
has_dummy command = false

-- how many addresses there are up to where data go on at the front
abbrev pub room_of : Command → ℕ
room_of Program = 256
room_of command = 2 ^ 24

-- the byte of a word that belongs to the number, and the class of its note
abbrev pub number_byte : Command → Packet → ℕ
number_byte Id word = miso word
number_byte command word = mosi word

abbrev pub number_class : Command → ℕ
number_class Id = 1
number_class command = 4

module _ (c : Command) where
  -- what is kept of the words behind a whole number, of which the data are told
  abbrev pub whole_kept : ℕ → List Packet → Said
  whole_kept number words =
      Whole number ((number + length words) % room_of c) (min (length words) (2 ^ 60))

  abbrev pub dummy_kept : ℕ → List Packet → Said
  dummy_kept number [] = Dummy number
  dummy_kept number (dummy ∷ words) = whole_kept number words

  abbrev pub rest_kept : ℕ → List Packet → Said
  rest_kept number words = if has_dummy c then dummy_kept number words else whole_kept number words

  -- what is kept of the words behind an instruction
  abbrev pub number_kept : List Packet → Said
  number_kept [] = Nothing
  number_kept (x ∷ []) = One (number_byte c x) x.start
  number_kept (x ∷ y ∷ []) = Two (number_byte c x) (number_byte c y) x.start
  number_kept (x ∷ y ∷ z ∷ others) =
      rest_kept (three_bytes (number_byte c x) (number_byte c y) (number_byte c z)) others

  abbrev pub said_kept : List Packet → Said
  said_kept words = if has_number c then number_kept words else Nothing

  -- how one more word changes it
  abbrev pub whole_begun : ℕ → Said
  whole_begun number = Whole number (number % room_of c) 0

  abbrev pub rest_begun : ℕ → Said
  rest_begun number = if has_dummy c then Dummy number else whole_begun number

  abbrev pub number_next : Said → Packet → Said
  number_next Nothing word = One (number_byte c word) word.start
  number_next (One first start) word = Two first (number_byte c word) start
  number_next (Two first second start) word =
      rest_begun (three_bytes first second (number_byte c word))
  number_next (Dummy number) word = whole_begun number
  number_next (Whole number place count) word =
      Whole number ((place + 1) % room_of c) (min count (2 ^ 60 - 1) + 1)

  abbrev pub said_next : Said → Packet → Said
  said_next said word = if has_number c then number_next said word else said

-- what a word gives that stands for itself
abbrev pub each_outs : Command → Packet → List Out
each_outs Status word = status_outs word
each_outs WriteStatus word = written_outs word
each_outs command word = []

-- what a word of data gives
abbrev pub data_outs : Command → ℕ → ℕ → Packet → List Out
data_outs Read number place word = read_outs place word
data_outs FastRead number place word = read_outs place word
data_outs Program number place word = program_outs (number - number % 256 + place) word
data_outs command number place word = []

-- what one more word gives
abbrev pub said_gives : Command → Said → Packet → List Out
said_gives c Nothing word = each_outs c word
said_gives c (One first start) word = []
said_gives c (Two first second start) word =
    span_note (number_class c) start word.end (three_bytes first second (number_byte c word)) 0 ∷ []
said_gives c (Dummy number) word = []
said_gives c (Whole number place count) word = data_outs c number place word

-- the summary behind a whole number, and that of an instruction that has none
abbrev pub count_summary : ℕ → ℕ → ℕ → ℕ → ℕ → List Out
count_summary class first last number count =
    if count == 0 then [] else span_note class first last count number ∷ []

abbrev pub whole_summary : Command → ℕ → ℕ → ℕ → ℕ → List Out
whole_summary Read first last number count = count_summary 7 first last number count
whole_summary FastRead first last number count = count_summary 7 first last number count
whole_summary Program first last number count = count_summary 8 first last number count
whole_summary EraseSector first last number count = span_note 9 first last 0 number ∷ []
whole_summary EraseBlock first last number count = span_note 10 first last 0 number ∷ []
whole_summary command first last number count = []

abbrev pub bare_summary : Command → ℕ → ℕ → List Out
bare_summary EraseChip first last = span_note 11 first last 0 0 ∷ []
bare_summary command first last = []

abbrev pub said_summary : Command → ℕ → ℕ → Said → List Out
said_summary c first last Nothing = bare_summary c first last
said_summary c first last (One byte start) = []
said_summary c first last (Two byte other start) = []
said_summary c first last (Dummy number) = []
said_summary c first last (Whole number place count) = whole_summary c first last number count

-- what is kept of the words of a transaction; how one more changes it, and what that gives; and
-- what the deselect gives
abbrev pub words_kept : List Packet → Words
words_kept [] = Empty
words_kept (command ∷ words) =
    Begun (command_of (mosi command)) command.start (last_in command words).end
    (said_kept (command_of (mosi command)) words)

abbrev pub words_next : Words → Packet → Words
words_next Empty word = Begun (command_of (mosi word)) word.start word.end Nothing
words_next (Begun command from end said) word =
    Begun command from word.end (said_next command said word)

abbrev pub words_give : Words → Packet → List Out
words_give Empty word = word_note 0 word (mosi word) 0 ∷ []
words_give (Begun command from end said) word = said_gives command said word

abbrev pub words_close : Words → List Out
words_close Empty = []
words_close (Begun command from end said) = said_summary command from end said

-- what is kept of a transaction that is open, by its select and the packets behind it
abbrev pub open_kept : Packet → List Packet → Open
open_kept first packets = record { start = first.start; words = words_kept (words_in packets) }

abbrev pub open_next : Open → Packet → Open
open_next kept packet =
    if is_word packet.kind then record { start = kept.start; words = words_next kept.words packet }
    else kept

abbrev pub open_gives : Open → Packet → List Out
open_gives kept packet = if is_word packet.kind then words_give kept.words packet else []

abbrev pub flash_steps : Steps Open
flash_steps = record {
  opens = λ packet. record { start = packet.start; words = Empty };
  next = open_next;
  gives = open_gives;
  closes = λ kept. words_close kept.words;
  near = λ kept last. kept.start;
}
