-- What channels have behind all events, and the samples of a stretch between two times.
use Rattle.std.specs.Prelude.{ℕ, ◌≡◌, ◌+◌, ◌*◌, ◌≤◌, ◌<◌, if◌then◌else◌, List, [], ◌∷◌, ◌++◌}
use Rattle.std.specs.Prelude.{replicate}
use Rattle.la_base.specs.Naming.{same_name}
use Rattle.capture_vcd.specs.Body.{Channel, Event, Reaches, Sets, digit_bit, words_from}

-- the digits of a code behind all events
abbrev pub digits_now : List ℕ → List ℕ → List Event → List ℕ
digits_now code so_far [] = so_far
digits_now code so_far (Reaches time ∷ events) = digits_now code so_far events
digits_now code so_far (Sets other digits ∷ events) =
    digits_now code (if same_name code other then digits else so_far) events

-- the word of channels behind all events
abbrev pub word_now : List Channel → List Event → ℕ
word_now [] events = 0
word_now (channel ∷ channels) events =
    digit_bit channel.1 (digits_now channel.0 [] events) + 2 * word_now channels events

-- no time of events is later
abbrev pub TimesTo : ℕ → List Event → Type 0
TimesTo end [] = Unit {0}
TimesTo end (Reaches time ∷ events) = (time ≤ end) × TimesTo end events
TimesTo end (Sets code digits ∷ events) = TimesTo end events

-- samples from the last time on and before the next one are one run of the present word
abbrev pub StretchIsRun : Type 0
StretchIsRun =
    (channels : List Channel) (events more : List Event) (start down end next first count : ℕ)
    → TimesTo end events → end ≤ start + first * down
    → ((k : ℕ) → k < first + count → start + k * down < next)
    → words_from channels (events ++ Reaches next ∷ more) start down (first + count)
    ≡ words_from channels (events ++ Reaches next ∷ more) start down first
    ++ replicate count (word_now channels events)
