-- What a reader of tokens stands for, and what its answers mean.
use Rattle.std.specs.Prelude.{ℕ, ◌≡◌, ◌+◌, ◌-◌, ◌^◌, ◌<◌, ◌≤◌, Bool, true, List, [], ◌∷◌, ◌++◌}
use Rattle.std.specs.Prelude.{length, take, drop, Option, Result}
use Rattle.text_parts.specs.Places.{Placed}
use Rattle.la_io.specs.Capture.{Told, Open}
use Rattle.la_io.specs.Intake.{Front}
use Rattle.byte_feed.specs.Feeding.{Onward, told_of}
use Rattle.byte_feed.specs.Feeding as feeding
use Rattle.byte_feed.specs.Parts.{behind}
use Rattle.byte_feed.specs.Tokens.{tokens_from, tokens_of}
use Rattle.byte_feed.specs.declared.fault.FeedFault.{FeedFault}
use Rattle.byte_feed.specs.declared.tokens.Tokens.{Tokens}

-- the place of what stands behind the first bytes of what is held
abbrev pub place : Front → ℕ → ℕ
place front len = front.taken - length front.bytes + len

-- these bytes were taken and these tokens given: whatever comes, they are the first of its tokens,
-- and the others are those of what is held
pub record StandsAt (front : Front) (len : ℕ) (ended : Bool) (bytes : List ℕ)
    (given : List Placed) : Type 0 where
  pub taken : front.taken ≡ length bytes
  pub fits : length front.bytes ≤ front.taken
  pub few : ended ≡ true → length bytes < 2 ^ 60
  pub goes_on : Onward ended
      (λ more how. tokens_from 0 how (bytes ++ more)
      ≡ behind given (tokens_from (place front len) how (drop len front.bytes ++ more)))

-- what it holds, and how many bytes it took
abbrev pub front_of : Tokens → Front
front_of t = t.intake.value

-- whether the reader was told the end
abbrev pub ended_of : Tokens → Bool
ended_of t = t.ended

-- whether it answered a fault
abbrev pub is_spent : Tokens → Bool
is_spent t = t.spent

-- the token that it gave last
abbrev pub text_of : Tokens → List ℕ
text_of t = take t.len (front_of t).bytes

-- how many bytes it took
abbrev pub taken_of : Tokens → ℕ
taken_of t = (front_of t).taken

-- how many bytes may still be given behind the token that it gave last: it falls with each token
abbrev pub left_of : Tokens → ℕ
left_of t = 2 ^ 60 + (length (front_of t).bytes - t.len) - taken_of t

-- the reader has taken these bytes, was told the end behind them or not, and has given these tokens
pub record Stands (tokens : Tokens) (bytes : List ℕ) (told : Told)
    (given : List Placed) : Type 0 where
  pub told_is : told ≡ told_of (ended_of tokens)
  pub stands : StandsAt (front_of tokens) tokens.len tokens.ended bytes given

-- one more token was given, and no byte was taken
abbrev pub GaveToken : Tokens → Tokens → ℕ → Type 0
GaveToken old new at =
    (bytes : List ℕ) (told : Told) (given : List Placed) → Stands old bytes told given
    → Stands new bytes told (given ++ (at, text_of new) ∷ [])

-- no token with a blank behind it is left in what is held
abbrev pub HoldsNone : Tokens → Type 0
HoldsNone t = (tokens_from 0 Open (drop t.len (front_of t).bytes)).items ≡ []

-- what an answer means, where these bytes were taken and these tokens were given before it
abbrev pub Answers : Tokens → Option (List ℕ) → List ℕ → List Placed → Result (Option ℕ) FeedFault
    → Type 0
Answers tokens left bytes given result =
    feeding.Answers ended_of is_spent text_of Stands tokens_of tokens left bytes given result

-- one call: the bytes that it took, and what its answer means behind them
abbrev pub Next : Tokens → Tokens → Option (List ℕ) → Option (List ℕ) → Result (Option ℕ) FeedFault
    → Type 0
Next old new left_old left_new result =
    feeding.Next ended_of is_spent text_of Stands tokens_of old new left_old left_new result
