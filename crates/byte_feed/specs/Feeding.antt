-- What a reader of the parts of a stream answers, tokens or lines, and what its answers mean.
use Rattle.std.specs.Prelude.{ℕ, ◌≡◌, Bool, true, false, List, [], ◌∷◌, ◌++◌, Option, Some, None}
use Rattle.std.specs.Prelude.{Result, Ok, Err}
use Rattle.std.specs.Io.KnownBytes.{Consumes, IsAtEnd}
use Rattle.text_parts.specs.Places.{Placed}
use Rattle.la_io.specs.declared.fault.CaptureFault.TheVariants as fault
use Rattle.la_io.specs.Capture.{Told, AtEnd, Cut, Ending, Clean, Faulty, Open}
use Rattle.byte_feed.specs.Parts.{Fed}
use Rattle.byte_feed.specs.declared.fault.FeedFault.{FeedFault}
use Rattle.byte_feed.specs.declared.fault.FeedFault.TheVariants.{Read, TooLong, Bytes, Spent}

-- whether the source told its end
abbrev pub told_of : Bool → Told
told_of true = AtEnd
told_of false = Cut

-- this holds of all that may still come: of any bytes and any ending; and where the end was told,
-- of none
abbrev pub Onward : Bool → (List ℕ → Ending → Type 0) → Type 0
Onward true P = P [] Clean
Onward false P = (more : List ℕ) (how : Ending) → P more how

-- whether a reader is spent behind an answer
abbrev pub spent_by : {T : Type 0} → Result T FeedFault → Bool
spent_by (Ok x) = false
spent_by (Err fault) = true

-- of readers that are told the end or not, that answered a fault or not, and that keep the part
-- that was given last: `Stands` says that these bytes were taken and these parts given, and
-- `parts_of` which parts bytes have
module _ {R : Type 0} (ended_of is_spent : R → Bool) (text_of : R → List ℕ)
    (Stands : R → List ℕ → Told → List Placed → Type 0) (parts_of : List ℕ → Told → Fed) where
  -- what an answer means, where these bytes were taken and these parts were given before it
  abbrev pub Answers : R → Option (List ℕ) → List ℕ → List Placed → Result (Option ℕ) FeedFault
      → Type 0
  Answers reader left bytes given (Ok (Some mark)) =
      (told : Told) × (told ≡ AtEnd → IsAtEnd left)
      × Stands reader bytes told (given ++ (mark, text_of reader) ∷ [])
  Answers reader left bytes given (Ok None) =
      IsAtEnd left × Stands reader bytes AtEnd given
      × (parts_of bytes AtEnd ≡ record { items = given; ending = Clean })
  Answers reader left bytes given (Err Read) =
      (ended_of reader ≡ false) × (parts_of bytes Cut ≡ record { items = given; ending = Open })
  Answers reader left bytes given (Err (TooLong mark)) =
      (told : Told) × (told ≡ AtEnd → IsAtEnd left) × (told ≡ told_of (ended_of reader))
      × (parts_of bytes told ≡ record { items = given; ending = Faulty (fault.TooLong mark) })
  Answers reader left bytes given (Err Bytes) =
      (ended_of reader ≡ false)
      × (parts_of bytes Cut ≡ record { items = given; ending = Faulty fault.Bytes })
  Answers reader left bytes given (Err Spent) = ⊥

  -- one call: the bytes that it took, none behind the end, and what its answer means behind them
  pub record Next (old new : R) (left_old left_new : Option (List ℕ))
      (result : Result (Option ℕ) FeedFault) : Type 0 where
    pub bytes : List ℕ
    pub consumed : Consumes left_old left_new bytes
    pub none : ended_of old ≡ true → bytes ≡ []
    pub stays : ended_of old ≡ true → ended_of new ≡ true
    pub answers : (before : List ℕ) (told : Told) (given : List Placed) → is_spent old ≡ false
        → (told ≡ AtEnd → IsAtEnd left_old)
        → Stands old before told given → Answers new left_new (before ++ bytes) given result
