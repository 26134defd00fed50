-- What the bytes of a VCD capture give.
use Rattle.std.specs.Prelude.{ℕ, ◌+◌, ◌-◌, ◌*◌, List, [], ◌∷◌, ◌++◌, map, get_or, Option, Some}
use Rattle.std.specs.Prelude.{None}
use Rattle.la_io.specs.declared.fault.CaptureFault.{CaptureFault}
use Rattle.la_io.specs.declared.fault.CaptureFault.TheVariants.{NoTimescale, NoDefinitions}
use Rattle.la_io.specs.Capture.{Told, Head, Good, Bad, Unread, Ending, Clean, Faulty, Open}
use Rattle.la_io.specs.Capture.{Captured}
use Rattle.text_parts.specs.Places.{Placed}
use Rattle.byte_feed.specs.Tokens.{tokens_of}
use Rattle.text_parts.specs.Reading.{read_front}
use Rattle.byte_feed.specs.Parts.{Fed}
use Rattle.capture_vcd.specs.Header.{Cut, Declared, Scale, Declares, Nothing, channels_of}
use Rattle.capture_vcd.specs.Header.{declared_by, header_from}
use Rattle.capture_vcd.specs.Body.{Channel, Event, Statement, Wrong, event_of, first_time}
use Rattle.capture_vcd.specs.Body.{last_time, samples_before, samples_to, statements, words_from}

-- the last time scale
abbrev pub scale_in : Option (ℕ × ℕ) → List Declared → Option (ℕ × ℕ)
scale_in scale [] = scale
scale_in scale (Scale count per_second ∷ declared) = scale_in (Some (count, per_second)) declared
scale_in scale (Declares variable ∷ declared) = scale_in scale declared
scale_in scale (Nothing ∷ declared) = scale_in scale declared

-- the channels, each as a bit of a code
abbrev pub bits_of : List ℕ → List (List ℕ) → ℕ → List Channel
bits_of code [] bit = []
bits_of code (name ∷ names) bit = (code, bit) ∷ bits_of code names (bit + 1)

abbrev pub bits_in : List Declared → List Channel
bits_in [] = []
bits_in (Scale count per_second ∷ declared) = bits_in declared
bits_in (Declares variable ∷ declared) = bits_of variable.code variable.names 0 ++ bits_in declared
bits_in (Nothing ∷ declared) = bits_in declared

-- how tokens end that stand in a header
abbrev pub cut_head : Ending → Head
cut_head Clean = Bad NoDefinitions
cut_head (Faulty fault) = Bad fault
cut_head Open = Unread

-- the head behind its end
abbrev pub whole_head : ℕ → List (List ℕ) → Option (ℕ × ℕ) → Head
whole_head down names None = Bad NoTimescale
whole_head down names (Some scale) = Good names scale.1 (scale.0 * down)

abbrev pub head_in : ℕ → Ending → Option (List Placed) → List Declared → Option CaptureFault → Head
head_in down how body declared (Some fault) = Bad fault
head_in down how None declared None = cut_head how
head_in down how (Some tokens) declared None =
    whole_head down (channels_of declared) (scale_in None declared)

-- what the header's sections declare up to the first fault, and that fault
abbrev pub declared_in : Cut → List Declared × Option CaptureFault
declared_in cut = read_front declared_by [] cut.sections

-- the head of a file
abbrev pub head_by : ℕ → Ending → Cut → List Declared × Option CaptureFault → Head
head_by down how cut read = head_in down how cut.body read.0 read.1

-- the statements of a body: a value that lacks its second token counts as one where the file ends
-- clean there
abbrev pub statements_at : Ending → List Placed → List Statement
statements_at Clean tokens = statements (λ at. Wrong at ∷ []) tokens
statements_at (Faulty fault) tokens = statements (λ at. []) tokens
statements_at Open tokens = statements (λ at. []) tokens

-- how a body ends: with its first fault, else as its tokens do
abbrev pub body_ending : Ending → Option CaptureFault → Ending
body_ending how (Some fault) = Faulty fault
body_ending how None = how

-- how many samples are settled from the first time to the last: at a clean end those with a time up
-- to the last one, else those with a time before it
abbrev pub count_by : Ending → ℕ → ℕ → ℕ
count_by Clean span down = samples_to span down
count_by (Faulty fault) span down = samples_before span down
count_by Open span down = samples_before span down

abbrev pub settled_by : ℕ → List Channel → List Event → Ending → Option ℕ → Option ℕ → List ℕ
settled_by down channels events ending None last = []
settled_by down channels events ending (Some start) None = []
settled_by down channels events ending (Some start) (Some last) =
    words_from channels events start down (count_by ending (last - start) down)

-- what a body gives
abbrev pub body_by : ℕ → Head → List Channel → Ending → List Event × Option CaptureFault → Captured
body_by down head channels how read = record {
  head = head;
  settled =
      settled_by down channels read.0 (body_ending how read.1) (first_time read.0)
      (last_time None read.0);
  ending = body_ending how read.1;
}

-- the channels that are the bits of a sample
abbrev pub chosen : List Channel → List ℕ → List Channel
chosen channels pins = map (λ pin. get_or channels pin ([], 0)) pins

-- the tokens behind a header
abbrev pub body_tokens : Option (List Placed) → List Placed
body_tokens None = []
body_tokens (Some tokens) = tokens

-- what a file gives by its head
abbrev pub capture_by : ℕ → List ℕ → Ending → Option (List Placed) → List Declared → Head → Captured
capture_by down pins how body declared (Bad fault) =
    record { head = Bad fault; settled = []; ending = Faulty fault }
capture_by down pins how body declared Unread =
    record { head = Unread; settled = []; ending = Open }
capture_by down pins how body declared (Good names num den) =
    body_by down (Good names num den) (chosen (bits_in declared) pins) how
    (read_front event_of [] (statements_at how (body_tokens body)))

-- what tokens give: the head, and the samples of the body
abbrev pub tokens_give : ℕ → List ℕ → Fed → Captured
tokens_give down pins fed =
    let cut = header_from None fed.items in
    let declared = declared_in cut in
    capture_by down pins fed.ending cut.body declared.0 (head_by down fed.ending cut declared)

-- what the bytes of a VCD capture give
unfoldable pub vcd_capture : ℕ → List ℕ → List ℕ → Told → Captured
vcd_capture down pins bytes told = tokens_give down pins (tokens_of bytes told)
