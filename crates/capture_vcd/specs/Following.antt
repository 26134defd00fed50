-- What a body's reader has behind some tokens.
use Rattle.std.specs.Prelude.{ℕ, ◌≡◌, ◌+◌, ◌*◌, ◌==◌, Bool, if◌then◌else◌, List, [], ◌∷◌, map}
use Rattle.std.specs.Prelude.{slice_index, reverse, Option, Some, None}
use Rattle.text_parts.specs.Places.{Placed}
use Rattle.la_io.specs.Capture.{Open}
use Rattle.capture_vcd.specs.Body.{Channel, Event, event_of, first_time, last_time}
use Rattle.capture_vcd.specs.Within.{Free, Within, statements_from, within_behind}
use Rattle.capture_vcd.specs.Stretches.{TimesTo, digits_now}
use Rattle.capture_vcd.specs.Vcd.{settled_by}
use Rattle.text_parts.specs.Reading.{read_front}

-- whether a bit of a value is 1
abbrev pub is_one : ℕ → List ℕ → Bool
is_one bit digits = slice_index (reverse digits) bit == 49

-- the levels of channels behind all events
abbrev pub levels_now : List Channel → List Event → List Bool
levels_now channels events =
    map (λ channel. is_one channel.1 (digits_now channel.0 [] events)) channels

-- the word of levels, the first as its lowest bit
abbrev pub level_bit : Bool → ℕ
level_bit level = if level then 1 else 0

abbrev pub word_bits : List Bool → ℕ
word_bits [] = 0
word_bits (level ∷ levels) = level_bit level + 2 * word_bits levels

abbrev pub or_zero : Option ℕ → ℕ
or_zero None = 0
or_zero (Some time) = time

-- these tokens have no fault, and leave this open; the levels are those behind them, and the
-- samples those before the last time
pub record BodyAt (down : ℕ) (channels : List Channel) (levels : List Bool) (within : Within)
    (start last : Option ℕ) (items : List Placed) (given : List ℕ) : Type 0 where
  pub events : List Event
  pub read : read_front event_of [] (statements_from Free items) ≡ (events, None)
  pub leaves : within_behind Free items ≡ within
  pub levels_are : levels ≡ levels_now channels events
  pub first : first_time events ≡ start
  pub latest : last_time None events ≡ last
  pub times : TimesTo (or_zero last) events
  pub gave : given ≡ settled_by down channels events Open start last
