-- What decoders gave, in numbers.
use Rattle.std.specs.Prelude.{ℕ, List, ◌++◌, codes}
use Rattle.std.specs.Fmt.{decimal}
use Rattle.kind_table.specs.Kinds.{kind_row}
use Rattle.kind_table.specs.declared.kinds.Kind.{Kind}
use Rattle.kind_table.specs.declared.kinds.Kind.TheVariants.{I2c, Uart}
use Rattle.listing_out.specs.declared.summaries.Tally.{Tally}

-- the line of the first instance of a kind
abbrev pub tally_line : Kind → Tally → List ℕ
tally_line kind tally =
    (kind_row kind).name ++ codes "-1: " ++ decimal tally.count ++ codes " notes, sum "
    ++ decimal tally.sum ++ codes "\n"

-- three lines: so many samples, and what a bus and a serial line gave
abbrev pub summary : ℕ → Tally → Tally → List ℕ
summary samples bus line =
    codes "samples: " ++ decimal samples ++ codes "\n" ++ tally_line I2c bus ++ tally_line Uart line
