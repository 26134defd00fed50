-- What is kept of an open transaction, as plain parts.
use Rattle.std.specs.Prelude.{ℕ, ◌≡◌, ◌==◌, if◌then◌else◌, refl}
use Rattle.dev_flash25.specs.declared.held.Command.{Command}
use Rattle.dev_flash25.specs.declared.held.Command.TheVariants.{Id, Status, WriteStatus, Read}
use Rattle.dev_flash25.specs.declared.held.Command.TheVariants.{FastRead, Program, EraseSector}
use Rattle.dev_flash25.specs.declared.held.Command.TheVariants.{EraseBlock, EraseChip, Other}
use Rattle.dev_flash25.specs.declared.held.Said.{Said}
use Rattle.dev_flash25.specs.declared.held.Said.TheVariants.{Nothing, One, Two, Dummy, Whole}
use Rattle.dev_flash25.specs.declared.held.Words.{Words}
use Rattle.dev_flash25.specs.declared.held.Words.TheVariants.{Empty, Begun}
use Rattle.dev_flash25.specs.declared.held.Open.{Open}

abbrev pub command_place : Command → ℕ
command_place Id = 0
command_place Status = 1
command_place WriteStatus = 2
command_place Read = 3
command_place FastRead = 4
command_place Program = 5
command_place EraseSector = 6
command_place EraseBlock = 7
command_place EraseChip = 8
command_place Other = 9

abbrev pub command_at : ℕ → Command
command_at place =
    if place == 0 then Id
    else if place == 1 then Status
    else if place == 2 then WriteStatus
    else if place == 3 then Read
    else if place == 4 then FastRead
    else if place == 5 then Program
    else if place == 6 then EraseSector
    else if place == 7 then EraseBlock
    else if place == 8 then EraseChip
    else Other

abbrev pub SaidParts : Type 0
SaidParts = ℕ × ((ℕ × (ℕ × ℕ)) × (ℕ × (ℕ × ℕ)))

-- the place of its variant; the first two bytes of a number and their start; a number, the place of
-- the next byte and how many have come
abbrev pub said_parts : Said → SaidParts
said_parts Nothing = (0, ((0, (0, 0)), (0, (0, 0))))
said_parts (One first start) = (1, ((first, (0, start)), (0, (0, 0))))
said_parts (Two first second start) = (2, ((first, (second, start)), (0, (0, 0))))
said_parts (Dummy number) = (3, ((0, (0, 0)), (number, (0, 0))))
said_parts (Whole number place count) = (4, ((0, (0, 0)), (number, (place, count))))

abbrev pub said_of : SaidParts → Said
said_of parts =
    if parts.0 == 0 then Nothing
    else if parts.0 == 1 then One parts.1.0.0 parts.1.0.1.1
    else if parts.0 == 2 then Two parts.1.0.0 parts.1.0.1.0 parts.1.0.1.1
    else if parts.0 == 3 then Dummy parts.1.1.0
    else Whole parts.1.1.0 parts.1.1.1.0 parts.1.1.1.1

abbrev pub WordsParts : Type 0
WordsParts = (ℕ × ℕ) × ((ℕ × ℕ) × SaidParts)

-- whether an instruction has come, and its place; where it starts and the last word ends; what the
-- words have said
abbrev pub words_parts : Words → WordsParts
words_parts Empty = ((0, 0), ((0, 0), said_parts Nothing))
words_parts (Begun command from end said) =
    ((1, command_place command), ((from, end), said_parts said))

abbrev pub words_of : WordsParts → Words
words_of parts =
    if parts.0.0 == 0 then Empty
    else Begun (command_at parts.0.1) parts.1.0.0 parts.1.0.1 (said_of parts.1.1)

abbrev pub Parts : Type 0
Parts = ℕ × WordsParts

-- where its select starts, and its words
abbrev pub open_parts : Open → Parts
open_parts kept = (kept.start, words_parts kept.words)

abbrev pub open_of : Parts → Open
open_of parts = record { start = parts.0; words = words_of parts.1 }

command_back : (command : Command) → command_at (command_place command) ≡ command
command_back Id = refl
command_back Status = refl
command_back WriteStatus = refl
command_back Read = refl
command_back FastRead = refl
command_back Program = refl
command_back EraseSector = refl
command_back EraseBlock = refl
command_back EraseChip = refl
command_back Other = refl

said_back : (said : Said) → said_of (said_parts said) ≡ said
said_back Nothing = refl
said_back (One first start) = refl
said_back (Two first second start) = refl
said_back (Dummy number) = refl
said_back (Whole number place count) = refl

words_back : (words : Words) → words_of (words_parts words) ≡ words
words_back Empty = refl
words_back (Begun command from end said) =
    λ i. Begun (command_back command i) from end (said_back said i)

-- the parts tell what is kept
pub open_back : (kept : Open) → open_of (open_parts kept) ≡ kept
open_back kept = λ i. record { start = kept.start; words = words_back kept.words i }
