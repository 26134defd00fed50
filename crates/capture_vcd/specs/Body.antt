-- The body of a VCD file: its statements, and the times and changes that they tell.
use Rattle.std.specs.Prelude.{ℕ, pos, ◌+◌, ◌-◌, ◌*◌, ◌/◌, ◌^◌, ◌==◌, ◌||◌, ◌&&◌, not, nat_le}
use Rattle.std.specs.Prelude.{nat_lt, Bool, false, if◌then◌else◌, List, [], ◌∷◌, length, drop, map}
use Rattle.std.specs.Prelude.{slice_index, take, reverse, codes, Option, Some, None, Result, Ok}
use Rattle.std.specs.Prelude.{Err}
use Rattle.std.specs.List.{list_all, range_with_len}
use Rattle.la_base.specs.Naming.{same_name}
use Rattle.la_io.specs.declared.fault.CaptureFault.{CaptureFault}
use Rattle.la_io.specs.declared.fault.CaptureFault.TheVariants.{Token, TimeBack, TimeLarge}
use Rattle.la_base.specs.Naming.{number_after}
use Rattle.text_parts.specs.Numbers.{is_number}
use Rattle.text_parts.specs.Places.{Placed}
use Rattle.capture_vcd.specs.Header.{says}

-- what a statement says: a time; a change of a code to a value of digits, the highest first; or it
-- is none
pub data Statement : Type 0 where
  Time : (at time : ℕ) → Statement
  Change : (code digits : List ℕ) → Statement
  Wrong : (at : ℕ) → Statement

-- the bytes 0, 1, x, X, z and Z
abbrev pub is_digit : ℕ → Bool
is_digit byte =
    (byte == 48) || (byte == 49) || (byte == 120) || (byte == 88) || (byte == 122) || (byte == 90)

-- what a token begins with
abbrev pub first_is : ℕ → ℕ → ℕ → Bool
first_is byte lower upper = (byte == lower) || (byte == upper)

-- what a token is by its text: a time, a value of one digit with its code behind it, digits whose
-- code is the next token, a value that is skipped with the next token, the beginning of a comment,
-- or a keyword that is passed over
abbrev pub is_time : List ℕ → Bool
is_time [] = false
is_time (first ∷ rest) = first == 35

abbrev pub is_scalar : List ℕ → Bool
is_scalar [] = false
is_scalar (first ∷ code) = is_digit first && not (length code == 0)

abbrev pub is_vector : List ℕ → Bool
is_vector [] = false
is_vector (first ∷ digits) =
    first_is first 98 66 && not (length digits == 0) && list_all is_digit digits

abbrev pub is_skipped : List ℕ → Bool
is_skipped [] = false
is_skipped (first ∷ rest) = first_is first 114 82 || first_is first 115 83

abbrev pub is_comment : List ℕ → Bool
is_comment text = same_name (codes "$comment") text

abbrev pub is_passed : List ℕ → Bool
is_passed [] = false
is_passed (first ∷ rest) = first == 36

-- the statement of a time
abbrev pub time_of : Placed → Statement
time_of token =
    if is_number (drop 1 token.1) then Time token.0 (number_after 0 (drop 1 token.1))
    else Wrong token.0

-- the statements of tokens; `lacks` are those of a value that lacks its second token
abbrev mutual
  pub statements : (ℕ → List Statement) → List Placed → List Statement
  statements lacks [] = []
  statements lacks (token ∷ tokens) =
      if is_time token.1 then time_of token ∷ statements lacks tokens
      else if is_scalar token.1
      then Change (drop 1 token.1) (take 1 token.1) ∷ statements lacks tokens
      else if is_vector token.1 then vector lacks token.0 (drop 1 token.1) tokens
      else if is_skipped token.1 then skipped lacks token.0 tokens
      else if is_comment token.1 then comment lacks tokens
      else if is_passed token.1 then statements lacks tokens
      else Wrong token.0 ∷ statements lacks tokens

  -- digits, and their code
  pub vector : (ℕ → List Statement) → ℕ → List ℕ → List Placed → List Statement
  vector lacks at digits [] = lacks at
  vector lacks at digits (code ∷ tokens) = Change code.1 digits ∷ statements lacks tokens

  -- a value that is skipped, and the token behind it
  pub skipped : (ℕ → List Statement) → ℕ → List Placed → List Statement
  skipped lacks at [] = lacks at
  skipped lacks at (code ∷ tokens) = statements lacks tokens

  -- a comment up to its `$end`, or to that of the tokens
  pub comment : (ℕ → List Statement) → List Placed → List Statement
  comment lacks [] = []
  comment lacks (token ∷ tokens) =
      if says (codes "$end") token then statements lacks tokens else comment lacks tokens

-- the times and changes of statements
pub data Event : Type 0 where
  Reaches : (time : ℕ) → Event
  Sets : (code digits : List ℕ) → Event

-- the last time of events
abbrev pub last_time : Option ℕ → List Event → Option ℕ
last_time last [] = last
last_time last (Reaches time ∷ events) = last_time (Some time) events
last_time last (Sets code digits ∷ events) = last_time last events

-- a time that doesn't fall
abbrev pub time_behind : ℕ → ℕ → Option ℕ → Result Event CaptureFault
time_behind at time None = Ok (Reaches time)
time_behind at time (Some was) =
    if nat_lt time was then Err (TimeBack at (pos was) (pos time)) else Ok (Reaches time)

-- what a statement says behind events
abbrev pub event_of : List Event → Statement → Result Event CaptureFault
event_of before (Time at time) =
    if nat_le (2 ^ 60) time then Err (TimeLarge at) else time_behind at time (last_time None before)
event_of before (Change code digits) = Ok (Sets code digits)
event_of before (Wrong at) = Err (Token at)

-- the first time of events
abbrev pub first_time : List Event → Option ℕ
first_time [] = None
first_time (Reaches time ∷ events) = Some time
first_time (Sets code digits ∷ events) = first_time events

-- the digits that a code has at a time: those of its last change at or before it, where events
-- stand in the order of their times
abbrev pub digits_at : ℕ → List ℕ → List ℕ → List Event → List ℕ
digits_at time code so_far [] = so_far
digits_at time code so_far (Reaches next ∷ events) =
    if nat_lt time next then so_far else digits_at time code so_far events
digits_at time code so_far (Sets other digits ∷ events) =
    digits_at time code (if same_name code other then digits else so_far) events

-- a bit of a value: the lowest is the last digit; x, z and what is left of the digits read as 0
abbrev pub digit_bit : ℕ → List ℕ → ℕ
digit_bit bit digits = if slice_index (reverse digits) bit == 49 then 1 else 0

-- a channel: a bit of a variable's value
abbrev pub Channel : Type 0
Channel = List ℕ × ℕ

-- the word of some channels at a time, the first as its lowest bit
abbrev pub word_at : List Channel → List Event → ℕ → ℕ
word_at [] events time = 0
word_at (channel ∷ channels) events time =
    digit_bit channel.1 (digits_at time channel.0 [] events) + 2 * word_at channels events time

-- the words at so many times, `down` apart
unfoldable pub words_from : List Channel → List Event → ℕ → ℕ → ℕ → List ℕ
words_from channels events start down count =
    map (λ k. word_at channels events (start + k * down)) (range_with_len 0 count)

-- how many samples have a time up to the last one, and how many a time before it
abbrev pub samples_to : ℕ → ℕ → ℕ
samples_to span down = span / down + 1

abbrev pub samples_before : ℕ → ℕ → ℕ
samples_before span down = (span + down - 1) / down
