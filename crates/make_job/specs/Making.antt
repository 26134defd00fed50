-- What `make` writes: how many samples a made capture has; and for each decoder of the stack that
-- reads it how many notes it gives, and the sum of their values.
use Rattle.std.specs.Prelude.{ℕ, ◌+◌, ◌%◌, ◌^◌, List, [], ◌∷◌, length, Option, Some, None, codes}
use Rattle.std.specs.Io.KnownBytes.{Appends}
use Rattle.std.proofs.Common.{arith}
use Rattle.la_base.specs.declared.samples.Rate.{Rate}
use Rattle.la_base.specs.declared.wires.Note.{Note}
use Rattle.la_base.specs.declared.wires.Out.{Out}
use Rattle.la_io.specs.Causes.{AppendsFront}
use Rattle.text_parts.specs.Chains.{WordText}
use Rattle.capture_make.specs.Made.{made}
use Rattle.decoder_core.specs.Trees.{Node, given}
use Rattle.decoder_set.specs.Setups.{outs_of}
use Rattle.kind_table.specs.declared.kinds.Kind.TheVariants.{I2c, Uart}
use Rattle.decoder_set.specs.declared.setup.Setup.{Setup}
use Rattle.listing_out.specs.Summaries.{summary}
use Rattle.listing_out.specs.declared.summaries.Tally.{Tally}
use Rattle.tree_runs.specs.Listings.{notes_of}
use Rattle.run_status.specs.declared.status.Status.{Status}
use Rattle.run_status.specs.declared.status.Status.TheVariants.{Done, Words, Stack, Bind, ReadFault}
use Rattle.run_status.specs.declared.status.Status.TheVariants.{Check, Capture, WriteFault, NoMemory}

-- the stack that reads a made capture, as its words
abbrev pub made_chains : List WordText
made_chains =
    record { word = 0; text = codes "i2c:scl=D0:sda=D1" }
    ∷ record { word = 1; text = codes "uart:rx=D2:baud=100000" } ∷ []

-- a million samples a second
abbrev pub made_rate : Rate
made_rate = record { num = 1000000; den = 1; above_zero = (omega arith, omega arith) }

-- its decoders: I2C with SCL in bit 0 and SDA in bit 1, and a serial line in bit 2 at 100000 baud
abbrev pub bus_setup : Setup
bus_setup =
    record {
      kind = I2c;
      values = record { given = Some 0 ∷ Some 1 ∷ None ∷ None ∷ None ∷ None ∷ None ∷ None ∷ [] };
      rate = made_rate;
    }

abbrev pub line_setup : Setup
line_setup =
    record {
      kind = Uart;
      values = record {
        given = Some 2 ∷ Some 100000 ∷ None ∷ None ∷ None ∷ None ∷ None ∷ None ∷ [];
      };
      rate = made_rate;
    }

abbrev pub made_nodes : List (Node Setup)
made_nodes =
    record { setup = bus_setup; parent = None } ∷ record { setup = line_setup; parent = None } ∷ []

-- the sum of the values of notes
abbrev pub sum_of : List Note → ℕ
sum_of [] = 0
sum_of (note ∷ notes) = note.a + sum_of notes

-- how many notes, and the sum of their values modulo 2^32
abbrev pub tally_of : List Note → Tally
tally_of notes = record { count = length notes; sum = sum_of notes % 2 ^ 32 }

-- the notes that outputs of two decoders have, counted
abbrev pub summed : ℕ → List (List Out) → List ℕ
summed samples [] = []
summed samples (bus ∷ []) = []
summed samples (bus ∷ line ∷ others) =
    summary samples (tally_of (notes_of bus)) (tally_of (notes_of line))

-- *what is written* of a made capture: of this seed, with so many transactions
abbrev pub made_listing : ℕ → ℕ → List ℕ
made_listing seed count =
    summed (length (made seed count)) (given outs_of (made seed count) made_nodes)

-- what a status says of it: nothing can fail but writing, and memory
abbrev pub MadeBy : ℕ → ℕ → Option (List ℕ) → Option (List ℕ) → Status → Type 0
MadeBy seed count old new Done = Appends old new (made_listing seed count)
MadeBy seed count old new (Words fault) = ⊥
MadeBy seed count old new (Stack fault) = ⊥
MadeBy seed count old new (Bind fault) = ⊥
MadeBy seed count old new (Check fault) = ⊥
MadeBy seed count old new ReadFault = ⊥
MadeBy seed count old new (Capture fault) = ⊥
MadeBy seed count old new WriteFault = AppendsFront old new (made_listing seed count)
MadeBy seed count old new NoMemory = Appends old new []
