-- What the values of the code mean.
use Rattle.std.specs.Prelude.{map, Option, Some, None}
use Rattle.std.specs.String.{string_bytes}
use Rattle.stack_words.specs.Instances.{Value, Given, Instance}
use Rattle.stack_words.specs.Instances as value
use Rattle.stack_words.specs.declared.faults.StackError.{StackError}
use Rattle.stack_words.specs.declared.faults.StackError.TheVariants as error
use Rattle.stack_words.specs.declared.faults.StackFault.{StackFault}
use Rattle.stack_words.specs.declared.faults.StackWhy.{StackWhy}
use Rattle.stack_words.specs.declared.instance.GivenOption.{GivenOption}
use Rattle.stack_words.specs.declared.instance.GivenValue.{GivenValue}
use Rattle.stack_words.specs.declared.instance.GivenValue.TheVariants as given
use Rattle.stack_words.specs.declared.instance.Instance as code
use Rattle.stack_words.specs.declared.instance.Refused.{Refused}
use Rattle.stack_words.specs.declared.instance.Refused.TheVariants as refused

-- the value of an option in the code
abbrev pub meaning_of : GivenValue → Value
meaning_of (given.Channel reference) = value.Channel (string_bytes reference)
meaning_of (given.Number number) = value.Number number

-- an option that is given, in the code
abbrev pub given_of : GivenOption → Given
given_of option = record { row = option.row; value = meaning_of option.value }

-- an instance in the code
abbrev pub instance_of : code.Instance → Instance
instance_of instance =
    record {
      kind = instance.kind;
      number = instance.number;
      options = map given_of instance.options.items;
      parent = instance.parent;
    }

-- the fault that an error tells; want of memory tells none
abbrev pub stack_fault_in : StackError → Option StackFault
stack_fault_in (error.Fault fault) = Some fault
stack_fault_in error.NoMemory = None

-- the reason that a refusal tells; want of memory tells none
abbrev pub why_in : Refused → Option StackWhy
why_in (refused.Why why) = Some why
why_in refused.NoMemory = None
