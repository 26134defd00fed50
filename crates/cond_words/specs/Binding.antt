-- What it means to bind the terms of an alternative to channels.
use Rattle.std.specs.Prelude.{ℕ, ◌≡◌, ◌<◌, Bool, ◌==◌, nat_le, max, List, [], ◌∷◌, ◌++◌, length}
use Rattle.std.specs.Prelude.{slice_get, slice_index, Option, Some, None, Result, Ok, Err}
use Rattle.std.specs.Prelude.{if◌then◌else◌}
use Rattle.std.specs.List.{list_any, enumerate_from}
use Rattle.la_base.specs.Naming.{find_channel}
use Rattle.text_parts.specs.Reading.{read_parts}
use Rattle.wait_cond.specs.Meets.{Which}
use Rattle.cond_words.specs.Words.{Meaning, Line, Skip}
use Rattle.wait_cond.specs.declared.alt.Alt.{Alt}
use Rattle.cond_words.specs.declared.faults.BindWhy.{BindWhy}
use Rattle.cond_words.specs.declared.faults.BindWhy.TheVariants.{Unknown, TooMany}
use Rattle.cond_words.specs.declared.faults.ItemFault.{ItemFault}
use Rattle.cond_words.specs.declared.words.Letter.{Letter}
use Rattle.cond_words.specs.declared.words.Letter.TheVariants.{Low, High, Rise, Fall, Edge, Steady}

-- a term that is bound: its letter on a channel, or a skip
pub data Bound : Type 0 where
  On : ℕ → Letter → Bound
  Skips : ℕ → Bound

-- the channels of terms, in their order
abbrev pub channels : List Bound → List ℕ
channels [] = []
channels (On channel letter ∷ bounds) = channel ∷ channels bounds
channels (Skips number ∷ bounds) = channels bounds

-- the greatest skip of terms, or 0
abbrev pub skip_of : List Bound → ℕ
skip_of [] = 0
skip_of (On channel letter ∷ bounds) = skip_of bounds
skip_of (Skips number ∷ bounds) = max number (skip_of bounds)

-- whether a channel is one of the pins
abbrev pub is_pin : List ℕ → ℕ → Bool
is_pin pins channel = list_any (λ pin. pin == channel) pins

-- the channels that aren't pins, each once, in the order in which they are used first
abbrev pub first_uses : List ℕ → List ℕ → List ℕ
first_uses pins [] = []
first_uses pins (channel ∷ channels) =
    if is_pin pins channel then first_uses pins channels
    else channel ∷ first_uses (pins ++ channel ∷ []) channels

-- the pins, and behind them the new channels in the order of their first use
abbrev pub pins_after : List ℕ → List Bound → List ℕ
pins_after pins bounds = pins ++ first_uses pins (channels bounds)

-- no channel is a pin twice
abbrev pub Distinct : List ℕ → Type 0
Distinct pins =
    (i j channel : ℕ) → slice_get pins i ≡ Some channel → slice_get pins j ≡ Some channel → i ≡ j

-- each pin is a channel below a count
abbrev pub AllBelow : ℕ → List ℕ → Type 0
AllBelow count pins = (k : ℕ) → k < length pins → slice_index pins k < count

abbrev pub fault : ℕ → BindWhy → Result Bound ItemFault
fault item why = Err (record { item = item; why = why })

-- a letter on the channel that was found, if one was, behind the terms before it: no more pins than
-- `most`
abbrev pub on_channel : ℕ → List ℕ → List Bound → ℕ → Letter → Option ℕ → Result Bound ItemFault
on_channel most pins before item letter None = fault item Unknown
on_channel most pins before item letter (Some channel) =
    if nat_le (length (pins_after pins (before ++ On channel letter ∷ []))) most
    then Ok (On channel letter) else fault item TooMany

-- one term, behind those before it
abbrev pub bound_as : ℕ → List (List ℕ) → List ℕ → List Bound → ℕ → Meaning → Result Bound ItemFault
bound_as most names pins before item (Line reference letter) =
    on_channel most pins before item letter (find_channel names reference)
bound_as most names pins before item (Skip number) = Ok (Skips number)

-- a term with its place among the terms
abbrev pub bind_term : ℕ → List (List ℕ) → List ℕ → List Bound → ℕ × Meaning
    → Result Bound ItemFault
bind_term most names pins before part = bound_as most names pins before part.0 part.1

-- all terms are bound in their order, or the first fault; the items count all terms from 0
abbrev pub bind_terms : ℕ → List (List ℕ) → List ℕ → List Meaning → Result (List Bound) ItemFault
bind_terms most names pins terms =
    read_parts (bind_term most names pins) [] (enumerate_from 0 terms)

-- the mask of a letter
abbrev pub mask_of : Alt → Letter → ℕ
mask_of alt Low = alt.low
mask_of alt High = alt.high
mask_of alt Rise = alt.rise
mask_of alt Fall = alt.fall
mask_of alt Edge = alt.edge
mask_of alt Steady = alt.steady

-- some term asks a letter of the channel of a pin
pub record Asked (pins : List ℕ) (bounds : List Bound) (letter : Letter) (line : ℕ) : Type 0 where
  pub channel : ℕ
  pub pin : slice_get pins line ≡ Some channel
  pub term : ℕ
  pub asks : slice_get bounds term ≡ Some (On channel letter)

-- an alternative that asks these terms of the pins: each mask has the lines of which some term asks
-- its letter
pub record Asks (pins : List ℕ) (bounds : List Bound) (alt : Alt) : Type 0 where
  pub masks : (letter : Letter) → Which (mask_of alt letter) (Asked pins bounds letter)
  pub skip_is : alt.skip ≡ skip_of bounds

-- the terms are bound to these pins and this alternative
pub record IsBound (most : ℕ) (names : List (List ℕ)) (old new : List ℕ) (terms : List Meaning)
    (alt : Alt) : Type 0 where
  pub bounds : List Bound
  pub read : bind_terms most names old terms ≡ Ok bounds
  pub pins : new ≡ pins_after old bounds
  pub asks : Asks new bounds alt

-- what an answer means: the terms are bound, or their first fault, which leaves the pins as they
-- were
abbrev pub Binds : ℕ → List (List ℕ) → List ℕ → List ℕ → List Meaning → Result Alt ItemFault
    → Type 0
Binds most names old new terms (Ok alt) = IsBound most names old new terms alt
Binds most names old new terms (Err fault) =
    (bind_terms most names old terms ≡ Err fault) × (new ≡ old)
