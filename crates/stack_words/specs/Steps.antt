-- What reading a part or a chain does to the instances that were read before.
use Rattle.std.specs.Prelude.{ℕ, ◌≡◌, List, ◌++◌, Result, Ok, Err, IfSome}
use Rattle.stack_words.specs.Chains.{Link}
use Rattle.stack_words.specs.Instances.{Instance}
use Rattle.stack_words.specs.Meaning.{stack_fault_in}
use Rattle.stack_words.specs.declared.faults.StackError.{StackError}
use Rattle.stack_words.specs.declared.faults.StackFault.{StackFault}

-- a part was read: it names this place, and its new instances joined those before
pub record Links (read : Result Link StackFault) (old new : List Instance)
    (place : ℕ) : Type 0 where
  pub added : List Instance
  pub reads : read ≡ Ok (record { place = place; new = added })
  pub joined : new ≡ old ++ added

-- what reading a part answers
abbrev pub PartStep : Result Link StackFault → List Instance → List Instance → Result ℕ StackError
    → Type 0
PartStep read old new (Ok place) = Links read old new place
PartStep read old new (Err error) = IfSome (stack_fault_in error) (λ fault. read ≡ Err fault)

-- a chain was read: its new instances joined those before
pub record Joins (read : Result (List Instance) StackFault) (old new : List Instance) : Type 0 where
  pub added : List Instance
  pub reads : read ≡ Ok added
  pub joined : new ≡ old ++ added

-- what reading a chain answers
abbrev pub ChainStep : Result (List Instance) StackFault → List Instance → List Instance
    → Result (Unit {0}) StackError → Type 0
ChainStep read old new (Ok done) = Joins read old new
ChainStep read old new (Err error) = IfSome (stack_fault_in error) (λ fault. read ≡ Err fault)
