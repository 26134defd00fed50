-- The walk over packets of SPI is sound.
use Rattle.std.proofs.Common.{ℕ, ◌≤◌, Bool, true, false, if◌then◌else◌, ◌==◌, List, [], ◌∷◌, length}
use Rattle.std.proofs.Common.{arith}
use Rattle.std.specs.Prelude.{min}
use Rattle.std.proofs.Math.Nat.{le_refl}
use Rattle.la_base.specs.declared.wires.Out.{Out}
use Rattle.la_base.specs.declared.wires.Packet.{Packet}
use Rattle.decoder_core.specs.Outputs.{span_note}
use Rattle.decoder_core.specs.Promises.{NotesFrom}
use Rattle.packet_walks.specs.laws.Steps.{NoPackets, Sound}
use Rattle.dev_flash25.specs.declared.held.Command.{Command}
use Rattle.dev_flash25.specs.declared.held.Command.TheVariants.{Id, Status, WriteStatus, Read}
use Rattle.dev_flash25.specs.declared.held.Command.TheVariants.{FastRead, Program, EraseSector}
use Rattle.dev_flash25.specs.declared.held.Command.TheVariants.{EraseBlock, EraseChip, Other}
use Rattle.dev_flash25.specs.declared.held.Said.{Said}
use Rattle.dev_flash25.specs.declared.held.Said.TheVariants.{Nothing, One, Two, Dummy, Whole}
use Rattle.dev_flash25.specs.declared.held.Words.{Words}
use Rattle.dev_flash25.specs.declared.held.Words.TheVariants.{Empty, Begun}
use Rattle.dev_flash25.specs.declared.held.Open.{Open}
use Rattle.dev_flash25.specs.Flash.{is_word, flash}
use Rattle.dev_flash25.specs.laws.Held.{has_number, has_dummy, rest_begun, number_next, said_next}
use Rattle.dev_flash25.specs.laws.Held.{each_outs, data_outs, said_gives, count_summary}
use Rattle.dev_flash25.specs.laws.Held.{whole_summary, bare_summary, said_summary, words_next}
use Rattle.dev_flash25.specs.laws.Held.{words_give, words_close, open_next, open_gives, flash_steps}
use Rattle.dev_flash25.specs.laws.Held.{whole_begun}

-- what has begun starts no earlier than the select, and the select no later than the last packet
abbrev said_fits : ℕ → Said → Type 0
said_fits low Nothing = Unit {0}
said_fits low (One first start) = low ≤ start
said_fits low (Two first second start) = low ≤ start
said_fits low (Dummy number) = Unit {0}
said_fits low (Whole number place count) = Unit {0}

abbrev words_fit : ℕ → Words → Type 0
words_fit low Empty = Unit {0}
words_fit low (Begun command from end said) = (low ≤ from) × (low ≤ end) × said_fits low said

abbrev pub flash_fits : Open → ℕ → Type 0
flash_fits kept last = (kept.start ≤ last) × words_fit kept.start kept.words

-- at most 16 outputs, none of them a packet
abbrev Few : List Out → Type 0
Few outs = (length outs ≤ 16) × NoPackets outs

few_each : (c : Command) (w : Packet) → Few (each_outs c w)
few_each Id w = (omega arith, tt)
few_each Status w = (omega arith, tt)
few_each WriteStatus w = (omega arith, tt)
few_each Read w = (omega arith, tt)
few_each FastRead w = (omega arith, tt)
few_each Program w = (omega arith, tt)
few_each EraseSector w = (omega arith, tt)
few_each EraseBlock w = (omega arith, tt)
few_each EraseChip w = (omega arith, tt)
few_each Other w = (omega arith, tt)

few_data : (c : Command) (number place : ℕ) (w : Packet) → Few (data_outs c number place w)
few_data Id number place w = (omega arith, tt)
few_data Status number place w = (omega arith, tt)
few_data WriteStatus number place w = (omega arith, tt)
few_data Read number place w = (omega arith, tt)
few_data FastRead number place w = (omega arith, tt)
few_data Program number place w = (omega arith, tt)
few_data EraseSector number place w = (omega arith, tt)
few_data EraseBlock number place w = (omega arith, tt)
few_data EraseChip number place w = (omega arith, tt)
few_data Other number place w = (omega arith, tt)

few_said : (c : Command) (said : Said) (w : Packet) → Few (said_gives c said w)
few_said c Nothing w = few_each c w
few_said c (One first start) w = (omega arith, tt)
few_said c (Two first second start) w = (omega arith, tt)
few_said c (Dummy number) w = (omega arith, tt)
few_said c (Whole number place count) w = few_data c number place w

few_words : (words : Words) (w : Packet) → Few (words_give words w)
few_words Empty w = (omega arith, tt)
few_words (Begun command from end said) w = few_said command said w

few_gives : (kept : Open) (p : Packet) → Few (open_gives kept p)
few_gives kept p = by (is_word p.kind)
  where
    by : (t : Bool) → Few (if t then words_give kept.words p else [])
    by true = few_words kept.words p
    by false = (omega arith, tt)

-- a summary is one note, if any, which starts where the instruction does
abbrev OneNote : ℕ → List Out → Type 0
OneNote low outs = (length outs ≤ 16) × NoPackets outs × NotesFrom low outs

module _ (low from end : ℕ) (after : low ≤ min from end) where
  one_count : (class number count : ℕ) → OneNote low (count_summary class from end number count)
  one_count class number count = by (count == 0)
    where
      by : (t : Bool) → OneNote low (if t then [] else span_note class from end count number ∷ [])
      by true = (omega arith, tt, tt)
      by false = (omega arith, tt, (after, tt))

  one_whole : (c : Command) (number count : ℕ) → OneNote low (whole_summary c from end number count)
  one_whole Id number count = (omega arith, tt, tt)
  one_whole Status number count = (omega arith, tt, tt)
  one_whole WriteStatus number count = (omega arith, tt, tt)
  one_whole Read number count = one_count 7 number count
  one_whole FastRead number count = one_count 7 number count
  one_whole Program number count = one_count 8 number count
  one_whole EraseSector number count = (omega arith, tt, (after, tt))
  one_whole EraseBlock number count = (omega arith, tt, (after, tt))
  one_whole EraseChip number count = (omega arith, tt, tt)
  one_whole Other number count = (omega arith, tt, tt)

  one_bare : (c : Command) → OneNote low (bare_summary c from end)
  one_bare Id = (omega arith, tt, tt)
  one_bare Status = (omega arith, tt, tt)
  one_bare WriteStatus = (omega arith, tt, tt)
  one_bare Read = (omega arith, tt, tt)
  one_bare FastRead = (omega arith, tt, tt)
  one_bare Program = (omega arith, tt, tt)
  one_bare EraseSector = (omega arith, tt, tt)
  one_bare EraseBlock = (omega arith, tt, tt)
  one_bare EraseChip = (omega arith, tt, (after, tt))
  one_bare Other = (omega arith, tt, tt)

  one_said : (c : Command) (said : Said) → OneNote low (said_summary c from end said)
  one_said c Nothing = one_bare c
  one_said c (One first start) = (omega arith, tt, tt)
  one_said c (Two first second start) = (omega arith, tt, tt)
  one_said c (Dummy number) = (omega arith, tt, tt)
  one_said c (Whole number place count) = one_whole c number count

few_closing : (words : Words) → Few (words_close words)
few_closing Empty = (omega arith, tt)
few_closing (Begun command from end said) =
    let one = one_said 0 from end (omega arith) command said in
    (one.0, one.1)

notes_closing : (low : ℕ) (words : Words) → words_fit low words → NotesFrom low (words_close words)
notes_closing low Empty fit = tt
notes_closing low (Begun command from end said) fit = let first = fit.0 in let last = fit.1 in
    (one_said low from end (omega (arith, first, last)) command said).2

-- a word of a transaction whose select starts there
module _ (low : ℕ) (w : Packet) (after : low ≤ w.start) where
  here : low ≤ min w.start w.end
  here = omega (arith, after, w.in_order)

  notes_each : (c : Command) → NotesFrom low (each_outs c w)
  notes_each Id = tt
  notes_each Status = (here, tt)
  notes_each WriteStatus = (here, tt)
  notes_each Read = tt
  notes_each FastRead = tt
  notes_each Program = tt
  notes_each EraseSector = tt
  notes_each EraseBlock = tt
  notes_each EraseChip = tt
  notes_each Other = tt

  notes_data : (c : Command) (number place : ℕ) → NotesFrom low (data_outs c number place w)
  notes_data Id number place = tt
  notes_data Status number place = tt
  notes_data WriteStatus number place = tt
  notes_data Read number place = (here, tt)
  notes_data FastRead number place = (here, tt)
  notes_data Program number place = (here, tt)
  notes_data EraseSector number place = tt
  notes_data EraseBlock number place = tt
  notes_data EraseChip number place = tt
  notes_data Other number place = tt

  notes_said : (c : Command) (said : Said) → said_fits low said
      → NotesFrom low (said_gives c said w)
  notes_said c Nothing fit = notes_each c
  notes_said c (One first start) fit = tt
  notes_said c (Two first second start) fit = (omega (arith, fit, here), tt)
  notes_said c (Dummy number) fit = tt
  notes_said c (Whole number place count) fit = notes_data c number place

  notes_words : (words : Words) → words_fit low words → NotesFrom low (words_give words w)
  notes_words Empty fit = (here, tt)
  notes_words (Begun command from end said) fit = notes_said command said fit.2

  fits_rest : (c : Command) (number : ℕ) → said_fits low (rest_begun c number)
  fits_rest c number = by (has_dummy c)
    where
      by : (t : Bool) → said_fits low (if t then Dummy number else whole_begun c number)
      by true = tt
      by false = tt

  fits_number : (c : Command) (said : Said) → said_fits low said
      → said_fits low (number_next c said w)
  fits_number c Nothing fit = after
  fits_number c (One first start) fit = fit
  fits_number c (Two first second start) fit = fits_rest c _
  fits_number c (Dummy number) fit = tt
  fits_number c (Whole number place count) fit = tt

  fits_said : (c : Command) (said : Said) → said_fits low said → said_fits low (said_next c said w)
  fits_said c said fit = by (has_number c)
    where
      by : (t : Bool) → said_fits low (if t then number_next c said w else said)
      by true = fits_number c said fit
      by false = fit

  fits_words : (words : Words) → words_fit low words → words_fit low (words_next words w)
  fits_words Empty fit = (after, omega (arith, after, w.in_order), tt)
  fits_words (Begun command from end said) fit =
      (fit.0, omega (arith, after, w.in_order), fits_said command said fit.2)

module _ (kept : Open) (last : ℕ) (p : Packet) (fit : flash_fits kept last)
    (after : last ≤ p.start) where
  later : kept.start ≤ p.start
  later = let below = fit.0 in omega (arith, below, after)

  fits_next : flash_fits (open_next kept p) p.start
  fits_next = by (is_word p.kind)
    where
      by : (t : Bool) → flash_fits
          (if t then record { start = kept.start; words = words_next kept.words p } else kept)
          p.start
      by true = (later, fits_words kept.start p later kept.words fit.1)
      by false = (later, fit.1)

  notes_gives : NotesFrom kept.start (open_gives kept p)
  notes_gives = by (is_word p.kind)
    where
      by : (t : Bool) → NotesFrom kept.start (if t then words_give kept.words p else [])
      by true = notes_words kept.start p later kept.words fit.1
      by false = tt

start_stays : (kept : Open) (p : Packet) → kept.start ≤ (open_next kept p).start
start_stays kept p = by (is_word p.kind)
  where
    by : (t : Bool)
        → kept.start ≤ (if t then record { start = kept.start; words = words_next kept.words p }
        else kept).start
    by true = le_refl kept.start
    by false = le_refl kept.start

pub flash_sound : Sound flash flash_steps flash_fits
flash_sound = record {
  opens_fits = λ p. (le_refl p.start, tt);
  next_fits = fits_next;
  later_fits = λ kept last from fit later. let below = fit.0 in
      (omega (arith, below, later), fit.1);
  opens_near = λ p. le_refl p.start;
  next_near = λ kept last p fit after. start_stays kept p;
  near_below = λ kept last fit. fit.0;
  few = λ kept p. (few_gives kept p).0;
  few_closing = λ kept. (few_closing kept.words).0;
  no_packet = λ kept p. (few_gives kept p).1;
  no_packet_closing = λ kept. (few_closing kept.words).1;
  notes = notes_gives;
  notes_closing = λ kept last fit. notes_closing kept.start kept.words fit.1;
}
