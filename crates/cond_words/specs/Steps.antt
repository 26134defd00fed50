-- One step of binding: what a helper of it answers.
use Rattle.std.specs.Prelude.{ℕ, ◌≡◌, ◌<◌, ◌≤◌, max, List, [], ◌∷◌, ◌++◌, length, slice_get, Option}
use Rattle.std.specs.Prelude.{Some, None, Result, Ok, Err, if◌then◌else◌, ◌⊎◌}
use Rattle.std.specs.Int.{bit_at}
use Rattle.la_base.specs.Naming.{find_channel}
use Rattle.cond_words.specs.Binding.{is_pin, mask_of}
use Rattle.wait_cond.specs.Meets.{Which}
use Rattle.cond_words.specs.Words.{Meaning, Line, Skip}
use Rattle.wait_cond.specs.declared.alt.Alt.{Alt}
use Rattle.cond_words.specs.declared.faults.BindWhy.{BindWhy}
use Rattle.cond_words.specs.declared.faults.BindWhy.TheVariants.{Unknown, TooMany, Rate}
use Rattle.cond_words.specs.declared.words.Letter.{Letter}
use Rattle.cond_words.specs.declared.words.Letter.TheVariants.{Low, High, Rise, Fall, Edge, Steady}

-- the pins and a channel behind them, unless it is one of them
abbrev pub with_pin : List ℕ → ℕ → List ℕ
with_pin pins channel = if is_pin pins channel then pins else pins ++ channel ∷ []

-- the place of a channel among the pins that it joined; or none where there is no place for it
abbrev pub Placed : ℕ → List ℕ → List ℕ → ℕ → Option ℕ → Type 0
Placed most old new channel (Some place) =
    (new ≡ with_pin old channel) × (slice_get new place ≡ Some channel) × (length new ≤ most)
Placed most old new channel None = (new ≡ old) × (most < length (with_pin old channel))

-- an alternative with another mask for a letter
abbrev pub set_mask : Alt → Letter → ℕ → Alt
set_mask alt Low mask = record alt { low = mask }
set_mask alt High mask = record alt { high = mask }
set_mask alt Rise mask = record alt { rise = mask }
set_mask alt Fall mask = record alt { fall = mask }
set_mask alt Edge mask = record alt { edge = mask }
set_mask alt Steady mask = record alt { steady = mask }

-- one line more in a mask
abbrev pub OneMore : ℕ → ℕ → ℕ → Type 0
OneMore mask line new = Which new (λ other. (bit_at mask other ≡ 1) ⊎ (other ≡ line))

-- a letter is asked of one line more
pub record AsksMore (old new : Alt) (letter : Letter) (line : ℕ) : Type 0 where
  pub mask : ℕ
  pub more : OneMore (mask_of old letter) line mask
  pub set : new ≡ set_mask old letter mask

-- a letter was asked of the channel that was found, if one was
pub record OnPin (most : ℕ) (old_pins new_pins : List ℕ) (old new : Alt) (letter : Letter)
    (found : Option ℕ) : Type 0 where
  pub channel : ℕ
  pub is : found ≡ Some channel
  pub pins : new_pins ≡ with_pin old_pins channel
  pub line : ℕ
  pub pin : slice_get new_pins line ≡ Some channel
  pub few : length new_pins ≤ most
  pub asks : AsksMore old new letter line

-- what the step of a line answers
abbrev pub LineStep : ℕ → List ℕ → List ℕ → Alt → Alt → Letter → Option ℕ
    → Result (Unit {0}) BindWhy → Type 0
LineStep most old_pins new_pins old new letter found (Ok done) =
    OnPin most old_pins new_pins old new letter found
LineStep most old_pins new_pins old new letter found (Err Unknown) =
    (new_pins ≡ old_pins) × (found ≡ None)
LineStep most old_pins new_pins old new letter found (Err TooMany) =
    (new_pins ≡ old_pins) × (channel : ℕ) × (found ≡ Some channel)
    × (most < length (with_pin old_pins channel))
LineStep most old_pins new_pins old new letter found (Err Rate) = ⊥

-- what the step of a skip does
pub record SkipStep (old_pins new_pins : List ℕ) (old new : Alt) (number : ℕ) : Type 0 where
  pub pins : new_pins ≡ old_pins
  pub alt : new ≡ record old { skip = max old.skip number }

-- what the step of a term answers
abbrev pub TermStep : ℕ → List (List ℕ) → List ℕ → List ℕ → Alt → Alt → Meaning
    → Result (Unit {0}) BindWhy → Type 0
TermStep most names old_pins new_pins old new (Line reference letter) result =
    LineStep most old_pins new_pins old new letter (find_channel names reference) result
TermStep most names old_pins new_pins old new (Skip number) (Ok done) =
    SkipStep old_pins new_pins old new number
TermStep most names old_pins new_pins old new (Skip number) (Err why) = ⊥
