-- What a reader of lines stands for, and what its answers mean.
use Rattle.std.specs.Prelude.{ℕ, ◌≡◌, ◌+◌, ◌-◌, ◌^◌, ◌<◌, ◌≤◌, Bool, true, List, [], ◌∷◌, ◌++◌}
use Rattle.std.specs.Prelude.{length, slice_index, take, drop, Option, Some, None, Result, Ok, Err}
use Rattle.text_parts.specs.Places.{Placed}
use Rattle.la_io.specs.Capture.{Told}
use Rattle.la_io.specs.Intake.{Front}
use Rattle.byte_feed.specs.Feeding.{Onward, told_of}
use Rattle.byte_feed.specs.Feeding as feeding
use Rattle.byte_feed.specs.Parts.{behind}
use Rattle.byte_feed.specs.Lines.{is_feed, kept, lines_behind, lines_of, repeated}
use Rattle.byte_feed.specs.declared.fault.FeedFault.{FeedFault}
use Rattle.byte_feed.specs.declared.lines.Lines.{Lines}

-- these bytes were taken and these lines given: whatever comes, they are the first of its lines,
-- and the others are those of what is held behind so many bytes
pub record LinesAt (front : Front) (over lines : ℕ) (ended : Bool) (bytes : List ℕ)
    (given : List Placed) : Type 0 where
  pub taken : front.taken ≡ length bytes
  pub few : ended ≡ true → length bytes < 2 ^ 60
  pub goes_on : Onward ended
      (λ more how. lines_behind 0 how (kept (bytes ++ more))
      ≡ behind given (lines_behind lines how (drop over front.bytes ++ kept more)))

-- what it holds, and how many bytes it took
abbrev pub front_of : Lines → Front
front_of l = l.intake.value

-- whether the reader was told the end
abbrev pub ended_of : Lines → Bool
ended_of l = l.ended

-- whether it answered a fault
abbrev pub is_spent : Lines → Bool
is_spent l = l.spent

-- the line that it gave last
abbrev pub text_of : Lines → List ℕ
text_of l = take l.len (front_of l).bytes

-- what it holds behind that line
abbrev pub rest_of : Lines → List ℕ
rest_of l = drop l.over (front_of l).bytes

-- how many lines it gave
abbrev pub number_of : Lines → ℕ
number_of l = l.number

-- how many bytes it took
abbrev pub taken_of : Lines → ℕ
taken_of l = (front_of l).taken

-- how many bytes may still be given behind the line that it gave last: it falls with each line
abbrev pub left_of : Lines → ℕ
left_of l = 2 ^ 60 + (length (front_of l).bytes - l.over) - taken_of l

-- the reader has taken these bytes, was told the end behind them or not, and has given these lines
pub record Stands (lines : Lines) (bytes : List ℕ) (told : Told)
    (given : List Placed) : Type 0 where
  pub told_is : told ≡ told_of (ended_of lines)
  pub stands : LinesAt (front_of lines) lines.over lines.number lines.ended bytes given

-- a line was given, and so many bytes of what it holds behind that, with a line feed behind them
pub record Ahead (lines : Lines) (len : ℕ) : Type 0 where
  pub counted : 1 ≤ number_of lines
  pub few : number_of lines < 2 ^ 60
  pub most : taken_of lines ≤ 2 ^ 60
  pub short : len < 65536
  pub held : len < length (rest_of lines)
  pub feed : is_feed (slice_index (rest_of lines) len) ≡ true

-- one more line was given, and no byte was taken
abbrev pub GaveLine : Lines → Lines → ℕ → Type 0
GaveLine old new number =
    (bytes : List ℕ) (told : Told) (given : List Placed) → Stands old bytes told given
    → Stands new bytes told (given ++ (number, text_of new) ∷ [])

-- the line that was given last was given so many times more, and no byte was taken
abbrev pub GaveAgain : Lines → Lines → ℕ → Type 0
GaveAgain old new count =
    (bytes : List ℕ) (told : Told) (given : List Placed) → Stands old bytes told given
    → Stands new bytes told (given ++ repeated (number_of old) (text_of old) count)

-- what an answer means, where these bytes were taken and these lines were given before it
abbrev pub Answers : Lines → Option (List ℕ) → List ℕ → List Placed → Result (Option ℕ) FeedFault
    → Type 0
Answers lines left bytes given result =
    feeding.Answers ended_of is_spent text_of Stands lines_of lines left bytes given result

-- one call: the bytes that it took, and what its answer means behind them
abbrev pub Next : Lines → Lines → Option (List ℕ) → Option (List ℕ) → Result (Option ℕ) FeedFault
    → Type 0
Next old new left_old left_new result =
    feeding.Next ended_of is_spent text_of Stands lines_of old new left_old left_new result

-- the lines are counted from 1
abbrev pub Numbers : ℕ → ℕ → Result (Option ℕ) FeedFault → Type 0
Numbers before now (Ok (Some number)) = (number ≡ before + 1) × (now ≡ number)
Numbers before now (Ok None) = now ≡ before
Numbers before now (Err fault) = now ≡ before
