-- Reading a list of parts: each part is judged with the values of those before it, and the first
-- fault ends it.
use Rattle.std.specs.Prelude.{List, [], ◌∷◌, ◌++◌, Result, Ok, Err, Option, Some, None, ◌≡◌, IfSome}

-- a value that was read goes on to what is read with it, and a fault ends the reading
abbrev pub then_read : {X Y F : Type 0} → Result X F → (X → Result Y F) → Result Y F
then_read (Ok x) next = next x
then_read (Err fault) next = Err fault

-- the values before, and then those of the parts; or the first fault
abbrev pub read_parts : {P V F : Type 0} → (List V → P → Result V F) → List V → List P
    → Result (List V) F
read_parts judge before [] = Ok before
read_parts judge before (part ∷ parts) =
    then_read (judge before part) (λ value. read_parts judge (before ++ value ∷ []) parts)

-- the values of parts up to the first fault, and that fault
abbrev pub after_one : {P V F : Type 0} → (List V → List P → List V × Option F) → List V → List P
    → Result V F → List V × Option F
after_one more before parts (Ok value) = more (before ++ value ∷ []) parts
after_one more before parts (Err fault) = (before, Some fault)

abbrev pub read_front : {P V F : Type 0} → (List V → P → Result V F) → List V → List P
    → List V × Option F
read_front judge before [] = (before, None)
read_front judge before (part ∷ parts) =
    after_one (λ values rest. read_front judge values parts) before parts (judge before part)

-- the fault of the first part that has one: all before it are read, and it is judged behind their
-- values
pub record IsFirstFault {P V F : Type 0} (judge : List V → P → Result V F) (before : List V)
    (parts : List P) (fault : F) : Type 0 where
  pub front : List P
  pub part : P
  pub back : List P
  pub values : List V
  pub split : parts ≡ front ++ part ∷ back
  pub good : read_parts judge before front ≡ Ok values
  pub bad : judge values part ≡ Err fault

-- a fault that reading answers is the first one
abbrev pub FaultIsFirst : Type 0 → Type 0 → Type 0 → Type 0
FaultIsFirst P V F =
    (judge : List V → P → Result V F) (before : List V) (parts : List P) (fault : F)
    → read_parts judge before parts ≡ Err fault → IsFirstFault judge before parts fault

-- the first fault is what reading answers
abbrev pub FirstIsFault : Type 0 → Type 0 → Type 0 → Type 0
FirstIsFault P V F =
    (judge : List V → P → Result V F) (before : List V) (parts : List P) (fault : F)
    → IsFirstFault judge before parts fault → read_parts judge before parts ≡ Err fault

-- a call whose errors without a fault are want of memory answers what reading gives
abbrev pub Gives : {X Y E F : Type 0} → (X → Y) → (E → Option F) → Result Y F → Result X E → Type 0
Gives view fault_in read (Ok x) = read ≡ Ok (view x)
Gives view fault_in read (Err e) = IfSome (fault_in e) (λ fault. read ≡ Err fault)
