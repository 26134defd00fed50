-- What the steps of binding answer.
use Rattle.std.specs.Prelude.{ℕ, ◌≡◌, ◌≤◌, List, [], Option, Some, None, Result, Ok, Err, length}
use Rattle.std.specs.Prelude.{map, All, IfSome}
use Rattle.la_base.specs.declared.samples.Rate.{Rate}
use Rattle.decoder_set.specs.Opening.{HasConsumed, setup_of as setup_in}
use Rattle.decoder_set.specs.declared.any.AnyDecoder.{AnyDecoder}
use Rattle.kind_table.specs.declared.values.OptValues.{OptValues}
use Rattle.cond_words.specs.Binding.{AllBelow, Distinct}
use Rattle.cond_words.specs.Steps.{with_pin}
use Rattle.cond_words.specs.declared.faults.BindWhy.{BindWhy}
use Rattle.cond_words.specs.declared.faults.BindError.{BindError}
use Rattle.cond_words.specs.declared.faults.BindError.TheVariants as error
use Rattle.cond_words.specs.declared.faults.BindFault.{BindFault}
use Rattle.stack_spec.specs.declared.bound.Bound.{Bound}
use Rattle.stack_spec.specs.Binding.{RowBound, Absent, Plain, On, channels, with_channels, value_of}
use Rattle.stack_spec.specs.Binding.{values_of, BoundInstance, stack_pins, bound_of}
use Rattle.stack_words.specs.Instances.{Instance}

-- pins of a capture with so many channels: each once, no more than `most`
pub record ArePins (most count : ℕ) (pins : List ℕ) : Type 0 where
  pub distinct : Distinct pins
  pub few : length pins ≤ most
  pub below : AllBelow count pins

-- the pins behind a row
abbrev pub pins_behind : List ℕ → RowBound → List ℕ
pins_behind pins Absent = pins
pins_behind pins (Plain number) = pins
pins_behind pins (On channel bit) = with_pin pins channel

-- a row was bound
pub record BindsRow (read : Result RowBound BindWhy) (old new : List ℕ)
    (value : Option ℕ) : Type 0 where
  pub row : RowBound
  pub reads : read ≡ Ok row
  pub pins : new ≡ pins_behind old row
  pub value_is : value ≡ value_of row

-- what binding a row answers
abbrev pub RowStep : Result RowBound BindWhy → List ℕ → List ℕ → Result (Option ℕ) BindWhy → Type 0
RowStep read old new (Ok value) = BindsRow read old new value
RowStep read old new (Err why) = read ≡ Err why

-- the rows of an instance were bound
pub record BindsRows (read : Result (List RowBound) BindFault) (old new : List ℕ)
    (values : List (Option ℕ)) : Type 0 where
  pub rows : List RowBound
  pub reads : read ≡ Ok rows
  pub pins : new ≡ with_channels old (channels rows)
  pub values_are : values ≡ values_of rows

-- what binding all rows answers
abbrev pub RowsStep : Result (List RowBound) BindFault → List ℕ → List ℕ
    → Result OptValues BindFault → Type 0
RowsStep read old new (Ok values) = BindsRows read old new values.given
RowsStep read old new (Err fault) = read ≡ Err fault

-- an instance was bound: a decoder of its setup that has consumed nothing
pub record BindsInstance (read : Result BoundInstance BindFault) (old new : List ℕ)
    (decoder : AnyDecoder) : Type 0 where
  pub instance : BoundInstance
  pub reads : read ≡ Ok instance
  pub pins : new ≡ with_channels old instance.uses
  pub setup : setup_in decoder ≡ instance.setup
  pub consumed : HasConsumed decoder []

-- what binding an instance answers
abbrev pub InstanceStep : Result BoundInstance BindFault → List ℕ → List ℕ
    → Result AnyDecoder BindFault → Type 0
InstanceStep read old new (Ok decoder) = BindsInstance read old new decoder
InstanceStep read old new (Err fault) = read ≡ Err fault

-- the fault that an error tells; want of memory tells none
abbrev pub bind_fault_in : BindError → Option BindFault
bind_fault_in (error.Fault fault) = Some fault
bind_fault_in error.NoMemory = None

-- decoders of these setups that have consumed nothing, on these pins and parents
pub record IsBound (most : ℕ) (names : List (List ℕ)) (rate : Rate) (instances : List Instance)
    (bound : Bound) : Type 0 where
  pub read : List BoundInstance
  pub reads : bound_of most names rate instances ≡ Ok read
  pub setups : map setup_in bound.machines.items ≡ map (λ instance. instance.setup) read
  pub consumed : All (λ decoder. HasConsumed decoder []) bound.machines.items
  pub parents : bound.parents.items ≡ map (λ instance. instance.parent) instances
  pub pins : bound.pins.items ≡ stack_pins read

-- what an answer means: the stack is bound, or its first fault
abbrev pub Binds : ℕ → List (List ℕ) → Rate → List Instance → Result Bound BindError → Type 0
Binds most names rate instances (Ok bound) = IsBound most names rate instances bound
Binds most names rate instances (Err error) =
    IfSome (bind_fault_in error) (λ fault. bound_of most names rate instances ≡ Err fault)
