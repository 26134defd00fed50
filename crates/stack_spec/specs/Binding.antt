-- A stack that is bound to channels, or the first fault.
use Rattle.std.specs.Prelude.{ℕ, ◌-◌, ◌==◌, nat_lt, List, [], ◌∷◌, ◌++◌, length, map, replicate}
use Rattle.std.specs.Prelude.{Option, Some, None, Result, Ok, Err, if◌then◌else◌}
use Rattle.std.specs.List.{position_or_len, enumerate_from, flat_map}
use Rattle.la_base.specs.Naming.{find_channel}
use Rattle.la_base.specs.declared.samples.Rate.{Rate}
use Rattle.text_parts.specs.Reading.{read_parts, then_read}
use Rattle.kind_table.specs.Kinds.{kind_row}
use Rattle.decoder_set.specs.Faults.{too_slow}
use Rattle.decoder_set.specs.declared.setup.Setup.{Setup}
use Rattle.cond_words.specs.Binding.{first_uses}
use Rattle.cond_words.specs.declared.faults.BindWhy.{BindWhy}
use Rattle.cond_words.specs.declared.faults.BindWhy.TheVariants as why
use Rattle.cond_words.specs.declared.faults.BindFault.{BindFault}
use Rattle.stack_words.specs.Instances.{Value, Channel, Number, Instance, given_at}

-- what a row of an instance's options is bound to: nothing, where it isn't given; a number; a
-- channel with its bit
pub data RowBound : Type 0 where
  Absent : RowBound
  Plain : ℕ → RowBound
  On : ℕ → ℕ → RowBound

-- the channels of rows, in their order
abbrev pub channels : List RowBound → List ℕ
channels [] = []
channels (Absent ∷ rows) = channels rows
channels (Plain number ∷ rows) = channels rows
channels (On channel bit ∷ rows) = channel ∷ channels rows

-- pins, and behind them the channels that aren't pins, each once, in the order of their first use
abbrev pub with_channels : List ℕ → List ℕ → List ℕ
with_channels pins channels = pins ++ first_uses pins channels

-- a fault of an instance at a row
abbrev pub bind_fault : {X : Type 0} → ℕ → ℕ → BindWhy → Result X BindFault
bind_fault entry item why = Err (record { entry = entry; item = item; why = why })

-- what was judged, with its fault at a row of an instance
abbrev pub at_item : {X : Type 0} → ℕ → ℕ → Result X BindWhy → Result X BindFault
at_item entry item (Ok x) = Ok x
at_item entry item (Err why) = bind_fault entry item why

-- the bit of a channel: its place among the pins, or the next one behind them
abbrev pub bit_of : List ℕ → ℕ → ℕ
bit_of pins channel = position_or_len (λ pin. pin == channel) pins

-- the channel that was found, if one was, at its bit: there are no more than `most` pins
abbrev pub on_channel : ℕ → List ℕ → Option ℕ → Result RowBound BindWhy
on_channel most pins None = Err why.Unknown
on_channel most pins (Some channel) =
    if nat_lt (bit_of pins channel) most then Ok (On channel (bit_of pins channel))
    else Err why.TooMany

-- what a row is given, bound behind these pins
abbrev pub bind_value : ℕ → List (List ℕ) → List ℕ → Option Value → Result RowBound BindWhy
bind_value most names pins None = Ok Absent
bind_value most names pins (Some (Number number)) = Ok (Plain number)
bind_value most names pins (Some (Channel reference)) =
    on_channel most pins (find_channel names reference)

-- a row with what it is given, behind those before it
abbrev pub row_at : ℕ → List (List ℕ) → List ℕ → ℕ → List RowBound → ℕ × Option Value
    → Result RowBound BindFault
row_at most names pins entry before part =
    at_item entry part.0 (bind_value most names (with_channels pins (channels before)) part.1)

-- the rows of an instance's kind, each with what it is given
abbrev pub given_rows : Instance → List (ℕ × Option Value)
given_rows instance =
    map (λ p. (p.0, given_at instance.options p.0))
    (enumerate_from 0 (kind_row instance.kind).options)

-- the value of an option: for a channel its bit
abbrev pub value_of : RowBound → Option ℕ
value_of Absent = None
value_of (Plain number) = Some number
value_of (On channel bit) = Some bit

-- the most options that a kind has
abbrev pub most_options : ℕ
most_options = 8

-- the values of all options: those of the rows, and none behind them
abbrev pub values_of : List RowBound → List (Option ℕ)
values_of rows = map value_of rows ++ replicate (most_options - length rows) None

-- an instance that is bound: its setup, and its channels in the order of the rows
pub record BoundInstance : Type 0 where
  pub setup : Setup
  pub uses : List ℕ

-- the pins of instances: all channels, each once, in the order of their first use
abbrev pub stack_pins : List BoundInstance → List ℕ
stack_pins instances = with_channels [] (flat_map (λ instance. instance.uses) instances)

-- the setup of an instance whose rows are bound
abbrev pub setup_of : Rate → Instance → List RowBound → Setup
setup_of rate instance rows =
    record { kind = instance.kind; values = record { given = values_of rows }; rate = rate }

-- an instance whose rows are bound: Rate where the rate is too low for it
abbrev pub opened_at : Rate → ℕ → Instance → List RowBound → Result BoundInstance BindFault
opened_at rate entry instance rows =
    if too_slow instance.kind (values_of rows) rate then bind_fault entry 0 why.Rate
    else Ok (record { setup = setup_of rate instance rows; uses = channels rows })

-- the rows of an instance behind these pins
abbrev pub rows_bound : ℕ → List (List ℕ) → List ℕ → ℕ → Instance → Result (List RowBound) BindFault
rows_bound most names pins entry instance =
    read_parts (row_at most names pins entry) [] (given_rows instance)

-- an instance behind these pins: its rows in their order, then its rate
abbrev pub instance_bound : ℕ → List (List ℕ) → Rate → List ℕ → ℕ → Instance
    → Result BoundInstance BindFault
instance_bound most names rate pins entry instance =
    then_read (rows_bound most names pins entry instance) (opened_at rate entry instance)

-- an instance with its number, behind those before it
abbrev pub bound_at : ℕ → List (List ℕ) → Rate → List BoundInstance → ℕ × Instance
    → Result BoundInstance BindFault
bound_at most names rate before part = instance_bound most names rate (stack_pins before) part.0 part.1

-- all instances in their order, or the first fault
abbrev pub bound_of : ℕ → List (List ℕ) → Rate → List Instance
    → Result (List BoundInstance) BindFault
bound_of most names rate instances =
    read_parts (bound_at most names rate) [] (enumerate_from 0 instances)
