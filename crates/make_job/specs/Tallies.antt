-- Notes as they are counted, one by one.
use Rattle.std.specs.Prelude.{ℕ, ◌≡◌, ◌+◌, ◌%◌, ◌^◌, List, length}
use Rattle.la_base.specs.declared.wires.Mark.{Mark}
use Rattle.la_base.specs.declared.wires.Note.{Note}
use Rattle.listing_out.specs.declared.summaries.Tally.{Tally}
use Rattle.annot_merge.specs.Marks.{notes_in}
use Rattle.make_job.specs.Making.{sum_of}
use Rattle.make_job.specs.declared.tally_taker.TallyTaker.{TallyTaker}

-- how many notes, in a word of 64 bits, and the sum of their values modulo 2^32
abbrev pub word_tally : List Note → Tally
word_tally notes = record { count = length notes % 2 ^ 64; sum = sum_of notes % 2 ^ 32 }

-- one more note
abbrev pub with_note : Tally → Note → Tally
with_note tally note =
    record { count = (tally.count + 1) % 2 ^ 64; sum = (tally.sum + note.a) % 2 ^ 32 }

-- the notes among the marks of both instances are counted
pub record Counted (taker : TallyTaker) (marks : ℕ → List Mark) : Type 0 where
  pub bus : taker.bus ≡ word_tally (notes_in (marks 0))
  pub line : taker.line ≡ word_tally (notes_in (marks 1))
