-- What good words ask for: the form of the capture, and for each job what is bound to its channels.
use Rattle.std.specs.Prelude.{ℕ, ◌≡◌, ◌+◌, ◌≤◌, ◌<◌, ◌⊎◌, List, [], ◌∷◌, length, map}
use Rattle.std.specs.Prelude.{Result, Ok, Err, Bool, true, false, ◌&&◌, is_none}
use Rattle.std.proofs.Common.{inl, inr}
use Rattle.la_base.specs.declared.samples.Rate.{Rate}
use Rattle.la_base.specs.declared.samples.TheConstants.{MOST_PINS}
use Rattle.la_io.specs.Capture.{Told, Head, Good, Bad, Ending, Faulty}
use Rattle.la_io.specs.declared.fault.CaptureFault.{CaptureFault}
use Rattle.la_io.specs.declared.fault.CaptureFault.TheVariants.{Past}
use Rattle.check_point.specs.declared.faults.CheckFault.{CheckFault}
use Rattle.text_parts.specs.Reading.{then_read}
use Rattle.capture_any.specs.Captures.{HasNoHead, capture_of}
use Rattle.capture_any.specs.declared.form.Form.{Form}
use Rattle.capture_any.specs.declared.form.Form.TheVariants.{Raw, Vcd, Csv}
use Rattle.cond_words.specs.Binding.{Bound, Asks, bind_terms, pins_after}
use Rattle.cond_words.specs.Grammar.{terms_of}
use Rattle.cond_words.specs.Words.{Meaning}
use Rattle.wait_cond.specs.declared.alt.Alt.{Alt}
use Rattle.cond_words.specs.declared.faults.ItemFault.{ItemFault}
use Rattle.words.specs.Rates.{numbers_of}
use Rattle.words.specs.Settings.{Values}
use Rattle.words.specs.declared.kinds.Format.TheVariants as format
use Rattle.words.specs.declared.kinds.Job.{Job}
use Rattle.words.specs.declared.kinds.Job.TheVariants.{Decode, Find, Make, Part}
use Rattle.stack_words.specs.Accepting.{Accepted, stack_of}
use Rattle.stack_spec.specs.Binding.{BoundInstance, bound_of}
use Rattle.stack_spec.specs.Binding as binding
use Rattle.stack_words.specs.Instances.{Instance}
use Rattle.cond_words.specs.declared.faults.BindFault.{BindFault}
use Rattle.stack_words.specs.declared.faults.StackFault.{StackFault}
use Rattle.decoder_core.specs.Trees.{Node}
use Rattle.decoder_set.specs.declared.setup.Setup.{Setup}
use Rattle.run_asks.specs.Parting.{CanBegin, CantBegin, Saves, most_samples}

-- the values name this form of capture
abbrev pub IsFormOf : Values → Form → Type 0
IsFormOf values (Raw channels rate) =
    (values.format ≡ format.Raw) × (channels ≡ values.channels) × (numbers_of rate ≡ values.rate)
IsFormOf values (Vcd down) = (values.format ≡ format.Vcd) × (down ≡ values.down)
IsFormOf values (Csv mode header rate) =
    (values.format ≡ format.Csv) × (mode ≡ values.csv) × (header ≡ values.header)
    × (numbers_of rate ≡ values.rate)

-- the job is to decode a whole capture
abbrev pub is_decode : Job → Bool
is_decode Decode = true
is_decode Find = false
is_decode Make = false
is_decode Part = false

-- a listing of notes is asked for: a whole capture is decoded, and not for binary data
abbrev pub lists_notes : Values → Bool
lists_notes values = is_decode values.job && is_none values.binary

abbrev pub ListsNotes : Values → Type 0
ListsNotes values = lists_notes values ≡ true

-- in this form the bytes have a head, with these names of channels and this rate
abbrev pub HasHead : Form → List ℕ → Told → List (List ℕ) → Rate → Type 0
HasHead form bytes told names rate =
    (capture_of form [] bytes told).head ≡ Good names rate.num rate.den

-- the fault of an item, in this entry
abbrev pub in_entry : ℕ → Result (List Bound) ItemFault → Result (List Bound) BindFault
in_entry entry (Ok bounds) = Ok bounds
in_entry entry (Err fault) = Err (record { entry = entry; item = fault.item; why = fault.why })

-- alternatives are bound in their order, each to the pins of those before it and its own; or the
-- first fault
abbrev pub bind_all : List (List ℕ) → ℕ → List ℕ → List (List Meaning)
    → Result (List (List Bound)) BindFault
bind_all names entry pins [] = Ok []
bind_all names entry pins (terms ∷ more) =
    then_read (in_entry entry (bind_terms MOST_PINS names pins terms))
    (λ bounds. then_read (bind_all names (entry + 1) (pins_after pins bounds) more)
    (λ others. Ok (bounds ∷ others)))

-- the pins of all alternatives
abbrev pub search_pins : List ℕ → List (List Bound) → List ℕ
search_pins pins [] = pins
search_pins pins (bounds ∷ more) = search_pins (pins_after pins bounds) more

-- each alternative asks its terms of the pins up to and with its own; those of later ones stand
-- behind them
abbrev pub EachAsks : List ℕ → List (List Bound) → List Alt → Type 0
EachAsks pins [] [] = Unit {0}
EachAsks pins [] (alt ∷ alts) = ⊥
EachAsks pins (bounds ∷ more) [] = ⊥
EachAsks pins (bounds ∷ more) (alt ∷ alts) =
    Asks (pins_after pins bounds) bounds alt × EachAsks (pins_after pins bounds) more alts

-- the values are those of a search, and these are the terms of its alternatives
pub record Searches (values : Values) (alternatives : List (List Meaning)) : Type 0 where
  pub job : values.job ≡ Find
  pub terms : map (λ chain. terms_of chain.text) values.chains
      ≡ map (λ terms. Ok terms) alternatives

-- this job decodes under a stack: a whole capture, or a part of one
abbrev pub HasStack : Job → Type 0
HasStack Decode = Unit {0}
HasStack Find = ⊥
HasStack Make = ⊥
HasStack Part = Unit {0}

-- the values are those of a decoding, and this is its stack
pub record Stacks (values : Values) (accepted : Accepted) : Type 0 where
  pub job : HasStack values.job
  pub stack : stack_of values.chains values.show values.binary ≡ Ok accepted

-- the values are those of a decoding, and its stack has this first fault
pub record HasStackFault (values : Values) (fault : StackFault) : Type 0 where
  pub job : HasStack values.job
  pub stack : stack_of values.chains values.show values.binary ≡ Err fault

-- where the channels have these names, an alternative of a search has this first fault
pub record SearchRefused (values : Values) (names : List (List ℕ))
    (fault : BindFault) : Type 0 where
  pub alternatives : List (List Meaning)
  pub searches : Searches values alternatives
  pub refused : bind_all names 0 [] alternatives ≡ Err fault

-- where the channels have these names, an instance of a stack has this first fault
pub record StackRefused (values : Values) (names : List (List ℕ)) (rate : Rate)
    (fault : BindFault) : Type 0 where
  pub accepted : Accepted
  pub stacks : Stacks values accepted
  pub refused : bound_of MOST_PINS names rate accepted.instances ≡ Err fault

-- words and, for a decoding, its stack have no fault
abbrev pub IsJudged : Values → Type 0
IsJudged values = (values.job ≡ Find) ⊎ ((accepted : Accepted) × Stacks values accepted)

-- the values name a form of capture whose head takes no bytes
pub record NamesNoHead (values : Values) : Type 0 where
  pub form : Form
  pub form_is : IsFormOf values form
  pub no_head : HasNoHead form

-- the alternatives of a search can be bound
pub record SearchBound (values : Values) (names : List (List ℕ)) : Type 0 where
  pub alternatives : List (List Meaning)
  pub searches : Searches values alternatives
  pub bounds : List (List Bound)
  pub bound : bind_all names 0 [] alternatives ≡ Ok bounds

-- the instances of a stack can be bound
pub record StackBound (values : Values) (names : List (List ℕ)) (rate : Rate) : Type 0 where
  pub accepted : Accepted
  pub stacks : Stacks values accepted
  pub bounds : List BoundInstance
  pub bound : bound_of MOST_PINS names rate accepted.instances ≡ Ok bounds

-- the head of these bytes is good, in the form that the values name, with these names of channels
-- and this rate
pub record ReadHead (values : Values) (bytes : List ℕ) (told : Told) : Type 0 where
  pub form : Form
  pub names : List (List ℕ)
  pub rate : Rate
  pub form_is : IsFormOf values form
  pub is : HasHead form bytes told names rate

-- the head of these bytes is good, and a channel isn't there, is one too many, or the rate is too
-- low
pub record CannotBind (values : Values) (bytes : List ℕ) (told : Told)
    (fault : BindFault) : Type 0 where
  pub head : ReadHead values bytes told
  pub refused : SearchRefused values head.names fault ⊎ StackRefused values head.names head.rate fault

-- a whole capture is decoded under a stack that can be bound
pub record WholeBound (values : Values) (names : List (List ℕ)) (rate : Rate) : Type 0 where
  pub job : values.job ≡ Decode
  pub stack : StackBound values names rate

-- the setups of a stack that can be bound
abbrev pub setups_in : {values : Values} {names : List (List ℕ)} {rate : Rate}
    → StackBound values names rate → List Setup
setups_in stack = map (λ bound. bound.setup) stack.bounds

-- a part is decoded under a stack that can be bound, and goes on behind so many samples
pub record PartBound (saves : Saves) (values : Values) (names : List (List ℕ)) (rate : Rate)
    (earlier : ℕ) : Type 0 where
  pub job : values.job ≡ Part
  pub stack : StackBound values names rate
  pub begins : CanBegin saves (setups_in stack) values.from earlier

-- a part is decoded under a stack that can be bound, and this refusal says why it can't begin
pub record PartRefused (saves : Saves) (values : Values) (names : List (List ℕ)) (rate : Rate)
    (fault : CheckFault) : Type 0 where
  pub job : values.job ≡ Part
  pub stack : StackBound values names rate
  pub refused : CantBegin saves (setups_in stack) values.from fault

-- what the values ask for can be bound, and for a part no checkpoint is refused
abbrev pub AllBound : Saves → Values → List (List ℕ) → Rate → Type 0
AllBound saves values names rate = SearchBound values names ⊎ WholeBound values names rate
    ⊎ ((earlier : ℕ) × PartBound saves values names rate earlier)

-- the head of these bytes is good, all is bound, and a checkpoint is refused
pub record CheckRefused (saves : Saves) (values : Values) (bytes : List ℕ) (told : Told)
    (fault : CheckFault) : Type 0 where
  pub head : ReadHead values bytes told
  pub refused : PartRefused saves values head.names head.rate fault

-- the head of these bytes is good, and all is bound
pub record CanBind (saves : Saves) (values : Values) (bytes : List ℕ) (told : Told)
    : Type 0 where
  pub head : ReadHead values bytes told
  pub bound : AllBound saves values head.names head.rate

-- how many samples there are of a part and before it, together
abbrev pub part_samples : {values : Values} {names : List (List ℕ)} {rate : Rate}
    → StackBound values names rate → ℕ → Form → List ℕ → Told → ℕ
part_samples stack earlier form bytes told =
    earlier + length (capture_of form (binding.stack_pins stack.bounds) bytes told).settled

-- the samples of a part don't go past the most that parts may have; of other jobs nothing is asked
abbrev pub StaysWithin : {saves : Saves} {values : Values} {names : List (List ℕ)} {rate : Rate}
    → AllBound saves values names rate → Form → List ℕ → Told → Type 0
StaysWithin (inl search) form bytes told = Unit {0}
StaysWithin (inr (inl whole)) form bytes told = Unit {0}
StaysWithin (inr (inr (earlier, part))) form bytes told =
    part_samples part.stack earlier form bytes told ≤ most_samples

-- the bytes have a good head to which all is bound, and this ending, on which the choice of
-- channels has no bearing; and the samples of a part stay within their bound
pub record EndsAs (saves : Saves) (values : Values) (bytes : List ℕ) (told : Told)
    (ending : Ending) : Type 0 where
  pub can : CanBind saves values bytes told
  pub ends : (capture_of can.head.form [] bytes told).ending ≡ ending
  pub within : StaysWithin can.bound can.head.form bytes told

-- the bytes have a good head to which all is bound, and the samples of a part go past their bound
pub record GoesPast (saves : Saves) (values : Values) (bytes : List ℕ) (told : Told)
    : Type 0 where
  pub head : ReadHead values bytes told
  pub earlier : ℕ
  pub part : PartBound saves values head.names head.rate earlier
  pub past : most_samples < part_samples part.stack earlier head.form bytes told

-- the head of these bytes is this one
pub record HeadIs (values : Values) (bytes : List ℕ) (told : Told) (head : Head) : Type 0 where
  pub form : Form
  pub form_is : IsFormOf values form
  pub judged : IsJudged values
  pub head_is : (capture_of form [] bytes told).head ≡ head

-- the bytes have this fault: their head has it; or it is good, all is bound to it, and they end
-- with it; or so, and the samples of a part go past their bound
abbrev pub HasFault : Saves → Values → List ℕ → Told → CaptureFault → Type 0
HasFault saves values bytes told fault =
    HeadIs values bytes told (Bad fault) ⊎ EndsAs saves values bytes told (Faulty fault)
    ⊎ ((fault ≡ Past) × GoesPast saves values bytes told)

-- the values ask for these alternatives at these pins
pub record AsksFor (values : Values) (names : List (List ℕ)) (pins : List ℕ)
    (alts : List Alt) : Type 0 where
  pub search : SearchBound values names
  pub pins_are : pins ≡ search_pins [] search.bounds
  pub asks : EachAsks [] search.bounds alts

-- the decoders of instances that are bound
abbrev pub nodes_of : List Instance → List BoundInstance → List (Node Setup)
nodes_of [] bounds = []
nodes_of (instance ∷ instances) [] = []
nodes_of (instance ∷ instances) (bound ∷ bounds) =
    record { setup = bound.setup; parent = instance.parent } ∷ nodes_of instances bounds

-- the values ask for this stack, with these decoders at these pins
pub record AsksStack (values : Values) (names : List (List ℕ)) (rate : Rate) (pins : List ℕ)
    (accepted : Accepted) (nodes : List (Node Setup)) : Type 0 where
  pub stack : StackBound values names rate
  pub accepted_is : accepted ≡ stack.accepted
  pub pins_are : pins ≡ binding.stack_pins stack.bounds
  pub nodes_are : nodes ≡ nodes_of stack.accepted.instances stack.bounds
