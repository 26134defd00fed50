-- Chains whose stacks and faults are worked by hand.
use Rattle.std.specs.Prelude.{ℕ, ◌≡◌, List, [], ◌∷◌, Some, None, Ok, codes}
use Rattle.std.proofs.Common.{refl}
use Rattle.std.specs.Fmt.{digits}
use Rattle.text_parts.specs.Chains.{WordText}
use Rattle.kind_table.specs.declared.kinds.Kind.TheVariants.{I2c}
use Rattle.stack_words.specs.declared.faults.StackWhy.TheVariants as why
use Rattle.stack_words.specs.Instances.{Instance, Channel}
use Rattle.stack_words.specs.Options.{stack_fault}
use Rattle.stack_words.specs.Accepting.{stack_of}

abbrev word : ℕ → List ℕ → WordText
word number text = record { word = number; text = text }

abbrev instance : ℕ → List ℕ → List ℕ → Instance
instance number scl sda = record {
  kind = I2c;
  number = number;
  options = record { row = 0; value = Channel scl } ∷ record { row = 1; value = Channel sda } ∷ [];
  parent = None;
}

-- two buses, and a chain that names the first and adds nothing; the second is shown, and data read
-- on the first is wanted
pub two_buses_and_a_name :
    stack_of (word 2 (codes "i2c:scl=D0:sda=D1") ∷ word 3 (codes "i2c:scl=A:sda=7")
    ∷ word 5 (codes "i2c-1") ∷ [])
    (Some (word 6 (codes "i2c-2"))) (Some (word 8 (codes "i2c-1:read")))
    ≡ Ok (record {
      instances = instance 1 (codes "D0") (codes "D1")
          ∷ instance 2 (codes "A") (codes "7") ∷ [];
      shown = Some (1 ∷ []);
      binary = Some (0, 1);
    })
unfolding digits
two_buses_and_a_name = refl

pub missing : stack_of (word 3 (codes "i2c:scl=D0") ∷ []) None None ≡ stack_fault 3 0 why.Missing
missing = refl

pub no_second_instance_on_the_first : stack_of
    (word 0 (codes "i2c:scl=D0:sda=D1,i2c:x") ∷ []) None None ≡ stack_fault 0 18 why.Mismatch
no_second_instance_on_the_first = refl

pub no_bytes_on_a_line_of_seven_bits : stack_of
    (word 0 (codes "uart:rx=D0:bits=7,midi") ∷ []) None None ≡ stack_fault 0 18 why.Mismatch
no_bytes_on_a_line_of_seven_bits = refl

pub an_empty_instance : stack_of (word 0 (codes "i2c:scl=D0:sda=D1,") ∷ []) None None
    ≡ stack_fault 0 18 why.Unknown
an_empty_instance = refl

pub a_name_that_is_not_there : stack_of
    (word 0 (codes "i2c:scl=D0:sda=D1") ∷ word 1 (codes "i2c-2") ∷ []) None None
    ≡ stack_fault 1 0 why.NoParent
unfolding digits
a_name_that_is_not_there = refl

pub an_option_twice : stack_of (word 0 (codes "i2c:scl=D0:scl=D1") ∷ []) None None
    ≡ stack_fault 0 11 why.Repeat
an_option_twice = refl

pub an_empty_option : stack_of (word 0 (codes "i2c:") ∷ []) None None ≡ stack_fault 0 4 why.Value
an_empty_option = refl

pub a_class_without_a_name : stack_of (word 0 (codes "i2c:scl=D0:sda=D1") ∷ []) None
    (Some (word 4 (codes "i2c-1"))) ≡ stack_fault 4 5 why.Unknown
unfolding digits
a_class_without_a_name = refl
