-- What a reader of a body stands for, and what its answers mean.
use Rattle.std.specs.Prelude.{ℕ, ◌≡◌, ◌+◌, ◌-◌, ◌≤◌, Bool, List, [], ◌∷◌, ◌++◌, map, replicate}
use Rattle.std.specs.Prelude.{Option, Some, None, Result, Ok, Err}
use Rattle.text_parts.specs.Places.{Placed}
use Rattle.la_base.specs.Samples.{samples}
use Rattle.la_base.specs.declared.samples.Run.{Run}
use Rattle.la_io.specs.Reading.{run_samples}
use Rattle.la_io.specs.declared.fault.CaptureFault.{CaptureFault}
use Rattle.la_io.specs.Capture.{Head, Ending, Clean, Faulty, Ends}
use Rattle.capture_vcd.specs.Body.{Channel, Time, Change, event_of, samples_before, samples_to}
use Rattle.capture_vcd.specs.Within.{Within, statements_from, token_gives}
use Rattle.capture_vcd.specs.Within as within
use Rattle.capture_vcd.specs.Vcd.{body_by}
use Rattle.text_parts.specs.Reading.{read_front}
use Rattle.capture_vcd.specs.Within.{statements_read}
use Rattle.capture_vcd.specs.Following.{BodyAt, is_one, word_bits}
use Rattle.capture_vcd.specs.Slots.{channel_of, level_of, value_of}
use Rattle.capture_vcd.specs.declared.slots.Slot.{Slot}
use Rattle.capture_vcd.specs.declared.body.Body.{Body}
use Rattle.capture_vcd.specs.declared.body.Span.{Span}
use Rattle.capture_vcd.specs.declared.body.Pending.{Pending}
use Rattle.capture_vcd.specs.declared.body.Pending.TheVariants.{Free, Value, Skip, Comment}

abbrev pub start_of : Option Span → Option ℕ
start_of None = None
start_of (Some span) = Some span.start

abbrev pub last_of : Option Span → Option ℕ
last_of None = None
last_of (Some span) = Some span.last

-- the channels that are the bits of its samples, and how many units a sample has
abbrev pub channels_in : Body → List Channel
channels_in body = map (channel_of body.codes.items) body.slots.items

abbrev pub down_in : Body → ℕ
down_in body = body.down

abbrev pub levels_in : Body → List Bool
levels_in body = map level_of body.slots.items

abbrev pub pending_in : Body → Pending
pending_in body = body.pending

-- what the next token belongs to, where a value is noted for each channel
abbrev pub OpenAt : Pending → List Slot → Within → Type 0
OpenAt Free slots open_is = open_is ≡ within.Free
OpenAt (Value at) slots open_is =
    (digits : List ℕ) × (open_is ≡ within.Value at digits)
    × (map value_of slots ≡ map (λ slot. is_one slot.bit digits) slots)
OpenAt (Skip at) slots open_is = open_is ≡ within.Skip at
OpenAt Comment slots open_is = open_is ≡ within.Comment

-- these tokens were read, and these samples given
pub record PartsStand (down : ℕ) (channels : List Channel) (slots : List Slot) (pending : Pending)
    (start last : Option ℕ) (items : List Placed) (given : List ℕ) : Type 0 where
  pub open_is : Within
  pub opened : OpenAt pending slots open_is
  pub stands : BodyAt down channels (map level_of slots) open_is start last items given

-- all samples that these tokens settle were given
abbrev pub BodySettled : Body → List Placed → List ℕ → Type 0
BodySettled body items given =
    PartsStand (down_in body) (channels_in body) body.slots.items (pending_in body)
    (start_of body.span) (last_of body.span) items given

-- how many samples have a time before the last one and are held back
abbrev pub held_by : Option Span → ℕ → ℕ
held_by None down = 0
held_by (Some span) down =
    samples_before (span.last - span.start) down - samples_before (span.given - span.start) down

abbrev pub held_in : Body → ℕ
held_in body = held_by body.span body.down

-- they have the word of the levels
abbrev pub word_in : Body → ℕ
word_in body = word_bits (levels_in body)

abbrev pub waiting : Body → List ℕ
waiting body = replicate (held_in body) (word_in body)

-- these samples were given, and with those that are held back they are all that these tokens settle
abbrev pub BodyStands : Body → List Placed → List ℕ → Type 0
BodyStands body items given = BodySettled body items (given ++ waiting body)

-- so many samples of this word, as a run
abbrev pub IsRun : ℕ → ℕ → Option Run → Type 0
IsRun count word None = count ≡ 0
IsRun count word (Some run) = (run.len ≡ count) × (run.value ≡ word) × (1 ≤ run.len)

-- these tokens hold a fault, whatever comes behind them, and these are the samples before it
abbrev pub BodyFaulty : ℕ → List Channel → List Placed → List ℕ → CaptureFault → Type 0
BodyFaulty down channels items given fault =
    (head : Head) (how : Ending) (rest : List Placed)
    → Ends (body_by down head channels how
    (read_front event_of [] (statements_read how (items ++ rest)))) given (Faulty fault)

-- what an answer means behind one more token
abbrev pub TokenAnswers : Body → List Placed → List ℕ → Result (Option Run) CaptureFault → Type 0
TokenAnswers new items given (Ok None) = BodyStands new items given
TokenAnswers new items given (Ok (Some run)) = BodyStands new items (given ++ samples run)
TokenAnswers new items given (Err fault) =
    BodyFaulty (down_in new) (channels_in new) items (given ++ waiting new) fault

abbrev pub TokenGives : Body → Body → Placed → Result (Option Run) CaptureFault → Type 0
TokenGives old new token result =
    (items : List Placed) (given : List ℕ) → BodyStands old items given
    → TokenAnswers new (items ++ token ∷ []) given result

-- the same for a token that is known to be a time: it gives no samples
abbrev pub TimeAnswers : Body → List Placed → List ℕ → Result (Unit {0}) CaptureFault → Type 0
TimeAnswers new items given (Ok done) = BodyStands new items given
TimeAnswers new items given (Err fault) =
    BodyFaulty (down_in new) (channels_in new) items (given ++ waiting new) fault

abbrev pub Reaches : Body → Body → ℕ → ℕ → Result (Unit {0}) CaptureFault → Type 0
Reaches old new at time result =
    (items : List Placed) (given : List ℕ) (token : Placed) → pending_in old ≡ Free
    → token_gives within.Free token ≡ (Time at time ∷ [], within.Free) → BodyStands old items given
    → TimeAnswers new (items ++ token ∷ []) given result

-- and for one that is known to be a change: it gives the samples that were held back
abbrev pub Changes : Body → Body → Placed → Option Run → Type 0
Changes old new token run =
    (items : List Placed) (given : List ℕ) → BodyStands old items given
    → BodyStands new (items ++ token ∷ []) (given ++ run_samples run)

abbrev pub IsChange : Placed → ℕ → List ℕ → Type 0
IsChange token first code =
    token_gives within.Free token ≡ (Change code (first ∷ []) ∷ [], within.Free)

-- where a value lacks its second token
abbrev pub hanging_of : Pending → Option ℕ
hanging_of Free = None
hanging_of (Value at) = Some at
hanging_of (Skip at) = Some at
hanging_of Comment = None

-- what the end means
abbrev pub BodyEnds : ℕ → List Channel → List Placed → List ℕ → Ending → Type 0
BodyEnds down channels items given how =
    (head : Head) → Ends
    (body_by down head channels Clean (read_front event_of [] (statements_read Clean items))) given
    how

abbrev pub EndAnswers : Body → List Placed → List ℕ → Result (Option Run) CaptureFault → Type 0
EndAnswers body items given (Ok None) = BodyEnds (down_in body) (channels_in body) items given Clean
EndAnswers body items given (Ok (Some run)) =
    BodyEnds (down_in body) (channels_in body) items (given ++ samples run) Clean
EndAnswers body items given (Err fault) =
    BodyEnds (down_in body) (channels_in body) items (given ++ waiting body) (Faulty fault)

abbrev pub EndGives : Body → Result (Option Run) CaptureFault → Type 0
EndGives body result =
    (items : List Placed) (given : List ℕ) → BodyStands body items given
    → EndAnswers body items given result

-- its channels and its rate stay
pub record SameForm (old new : Body) : Type 0 where
  pub down : down_in new ≡ down_in old
  pub channels : channels_in new ≡ channels_in old
  pub codes : new.codes ≡ old.codes

-- how many samples were given, and how many have a time up to the last one
abbrev pub given_by : Option Span → ℕ → ℕ
given_by None down = 0
given_by (Some span) down = samples_before (span.given - span.start) down

abbrev pub all_by : Option Span → ℕ → ℕ
all_by None down = 0
all_by (Some span) down = samples_to (span.last - span.start) down

abbrev pub given_in : Body → ℕ
given_in body = given_by body.span body.down

abbrev pub all_in : Body → ℕ
all_in body = all_by body.span body.down

-- so many more samples were given: at least one in a run
abbrev pub RunCounts : ℕ → ℕ → Option Run → Type 0
RunCounts before now None = now ≡ before
RunCounts before now (Some run) = (before + run.len ≡ now) × (1 ≤ run.len)

abbrev pub Counts : ℕ → ℕ → Result (Option Run) CaptureFault → Type 0
Counts before now (Ok run) = RunCounts before now run
Counts before now (Err fault) = now ≡ before

-- the samples that were held back were given, and nothing else has changed
pub record Flushes (old new : Body) (result : Option Run) : Type 0 where
  pub gave : IsRun (held_in old) (word_in old) result
  pub none : held_in new ≡ 0
  pub counts : RunCounts (given_in old) (given_in new) result
  pub codes : new.codes ≡ old.codes
  pub slots : new.slots.items ≡ old.slots.items
  pub pending : pending_in new ≡ pending_in old
  pub down : down_in new ≡ down_in old
  pub start : start_of new.span ≡ start_of old.span
  pub latest : last_of new.span ≡ last_of old.span
