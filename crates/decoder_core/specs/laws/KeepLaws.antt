-- What a driver that is kept stands for.
use Rattle.std.proofs.Common.{◌≡◌, ℕ, ◌-◌, List, take, ◌++◌, sym, ◌∙◌, ap, subst, slice_index}
use Rattle.plain_bytes.specs.Forms.{BeginsWith, IsFront}
use Rattle.wait_cond.specs.declared.alt.Alt.{Alt}
use Rattle.wait_cond.specs.declared.scan.Waiter.{Waiter}
use Rattle.wait_cond.specs.Stops.{NoneMet}
use Rattle.wait_cond.specs.Waiting.{Waits, MadeOf, alts_of, wait_from, consumed_by, last_of}
use Rattle.decoder_core.specs.Inputs.{Item, counted_samples}
use Rattle.decoder_core.specs.Driving.{Drives, SameState}
use Rattle.decoder_core.specs.Promises.{OneMachine, OneLastStop}
use Rattle.decoder_core.specs.laws.OneDriver.{one_state}
use Rattle.decoder_core.specs.Keeping.{DriverSaves, FollowerSaves, NumbersFit, OneForm, IsOnly}
use Rattle.decoder_core.specs.Packets.{Follows, OnePacketMachine, counted_packets}
use Rattle.la_base.specs.declared.wires.Packet.{Packet}
use Rattle.la_base.specs.declared.wires.Wire.{Wire}

-- the numbers of a waiter
abbrev numbers_of : Waiter → ℕ × (ℕ × ℕ)
numbers_of waiter = (consumed_by waiter, (wait_from waiter, last_of waiter))

module _ {L : Type 0} {fits : ℕ × (ℕ × ℕ) → Type 0} {bytes_of : ℕ × (ℕ × ℕ) → List ℕ} {puts : L → List ℕ → Type 0} where
  -- drivers that hold the same save the same
  pub same_saved : OneForm puts → (one other : L) (waiter theirs : Waiter) → SameState one other waiter theirs → (bytes more : List ℕ) → DriverSaves fits bytes_of puts one waiter bytes → DriverSaves fits bytes_of puts other theirs more → bytes ≡ more
  same_saved one_form one other waiter theirs same bytes more s t =
      let rest : s.rest ≡ t.rest = one_form other s.rest t.rest (subst (λ (m : L). puts m s.rest) same.machine s.its) t.its in
      let numbers : numbers_of waiter ≡ numbers_of theirs = λ i. (same.numbers.consumed i, (same.numbers.from i, same.numbers.last i)) in
      s.parts ∙ (λ i. bytes_of (numbers i) ++ rest i) ∙ sym t.parts

  -- drivers of one setup that have consumed one input save the same
  pub driver_one_saved : {S : Type 0} (setup : L → S) (stands : L → List ℕ → Type 0) (alts : L → List Alt) → OneMachine setup stands → OneLastStop setup stands alts → OneForm puts
      → (one other : L) (waiter theirs : Waiter) (input : List Item) (bytes more : List ℕ) → setup one ≡ setup other → Drives stands alts one waiter input → Drives stands alts other theirs input
      → DriverSaves fits bytes_of puts one waiter bytes → DriverSaves fits bytes_of puts other theirs more → bytes ≡ more
  driver_one_saved setup stands alts one_machine one_stop one_form one other waiter theirs input bytes more same d e s t =
      same_saved one_form one other waiter theirs (one_state setup stands alts one_machine one_stop one other waiter theirs input same d e) bytes more s t

  module _ (given bytes : List ℕ) (is : given ≡ bytes) (machine : L) (waiter : Waiter) (s : DriverSaves fits bytes_of puts machine waiter bytes) where
    -- its numbers stand at the front
    begins : BeginsWith fits bytes_of given (numbers_of waiter) s.rest
    begins = record { value_fits = s.numbers; parts = is ∙ s.parts }

    -- no driver saves bytes at whose front no numbers stand
    pub none_saves : ((x : ℕ × (ℕ × ℕ)) (rest : List ℕ) → ¬ BeginsWith fits bytes_of given x rest) → ⊥
    none_saves none = none (numbers_of waiter) s.rest begins

    -- none saves numbers that no waiter can have
    pub unfit_saves : (consumed from last : ℕ) (rest : List ℕ) → IsFront fits bytes_of given (consumed, (from, last)) rest → ¬ NumbersFit consumed from last → ⊥
    unfit_saves consumed from last rest front unfit =
        unfit (subst (λ (n : ℕ × (ℕ × ℕ)). NumbersFit n.0 n.1.0 n.1.1) (front.only (numbers_of waiter) s.rest begins).0 (record { few = waiter.few; within = waiter.stop; unseen = waiter.unseen }))

  module _ {S : Type 0} (setup : L → S) (stands : L → List ℕ → Type 0) (alts : L → List Alt)
      (given bytes : List ℕ) (is : given ≡ bytes) (rest : List ℕ) (consumed from last : ℕ) (front : IsFront fits bytes_of given (consumed, (from, last)) rest)
      (machine : L) (only_one : IsOnly setup puts machine rest) (waiter : Waiter) (waiter_alts : alts_of waiter ≡ alts machine) (waiter_from : wait_from waiter ≡ from)
      (waits : (list : List ℕ) → MadeOf (alts machine) consumed from last list → Waits waiter list) where
    -- a driver that was made of bytes has consumed what each one has that saves them
    pub stands_as : (other : L) (theirs : Waiter) (input : List Item) → setup other ≡ setup machine → DriverSaves fits bytes_of puts other theirs bytes → Drives stands alts other theirs input → Drives stands alts machine waiter input
    stands_as other theirs input same s d =
        let only = front.only (numbers_of theirs) s.rest (begins given bytes is other theirs s) in
        let list = counted_samples input in
        let count : consumed_by theirs ≡ consumed = ap (λ (n : ℕ × (ℕ × ℕ)). n.0) only.0 in
        let begin : wait_from theirs ≡ from = ap (λ (n : ℕ × (ℕ × ℕ)). n.1.0) only.0 in
        let value : last_of theirs ≡ last = ap (λ (n : ℕ × (ℕ × ℕ)). n.1.1) only.0 in
        let equal : other ≡ machine = only_one other same (subst (λ (l : List ℕ). puts other l) only.1 s.its) in
        let their_alts : alts_of theirs ≡ alts machine = d.cond ∙ ap alts equal in
        record {
          waits = waits list (record {
            count = d.waits.count ∙ count;
            last_is = λ some. sym value ∙ d.waits.last_is ∙ ap (λ (n : ℕ). slice_index list (n - 1)) count;
            none = subst (λ (l : List Alt). NoneMet list l from consumed) their_alts
                (subst (λ (n : ℕ). NoneMet list (alts_of theirs) n consumed) begin (subst (λ (n : ℕ). NoneMet list (alts_of theirs) (wait_from theirs) n) count d.waits.none));
          });
          machine_stands = subst (λ (m : L). stands m (take (wait_from waiter) list)) equal
              (subst (λ (n : ℕ). stands other (take n list)) (begin ∙ sym waiter_from) d.machine_stands);
          cond = waiter_alts;
        }

module _ {D : Type 0} {fits : ℕ → Type 0} {bytes_of : ℕ → List ℕ} {puts : D → List ℕ → Type 0} where
  -- followers that hold the same save the same
  pub same_followed : OneForm puts → (one other : D) (from theirs : ℕ) → one ≡ other → from ≡ theirs → (bytes more : List ℕ) → FollowerSaves fits bytes_of puts one from bytes → FollowerSaves fits bytes_of puts other theirs more → bytes ≡ more
  same_followed one_form one other from theirs equal starts bytes more s t =
      let rest : s.rest ≡ t.rest = one_form other s.rest t.rest (subst (λ (m : D). puts m s.rest) equal s.its) t.its in
      s.parts ∙ (λ i. bytes_of (starts i) ++ rest i) ∙ sym t.parts

  -- followers of one setup that have consumed one input save the same
  pub follower_one_saved : {S : Type 0} (setup : D → S) (stands : D → List Packet → Type 0) (wire : S → Wire) → OnePacketMachine setup stands → OneForm puts
      → (one other : D) (from theirs : ℕ) (input : List Item) (bytes more : List ℕ) → setup one ≡ setup other
      → Follows stands (wire (setup one)) one from input → Follows stands (wire (setup other)) other theirs input
      → FollowerSaves fits bytes_of puts one from bytes → FollowerSaves fits bytes_of puts other theirs more → bytes ≡ more
  follower_one_saved {S} setup stands wire one_machine one_form one other from theirs input bytes more same d e s t =
      let also = subst (λ (w : S). Follows stands (wire w) other theirs input) (sym same) e in
      same_followed one_form one other from theirs (one_machine one other (counted_packets (wire (setup one)) input) same d.machine_stands also.machine_stands)
      (d.last_is ∙ sym also.last_is) bytes more s t

  module _ (given bytes : List ℕ) (is : given ≡ bytes) (machine : D) (from : ℕ) (s : FollowerSaves fits bytes_of puts machine from bytes) where
    begun : BeginsWith fits bytes_of given from s.rest
    begun = record { value_fits = s.number; parts = is ∙ s.parts }

    -- no follower saves bytes at whose front no number stands
    pub none_follows : ((x : ℕ) (rest : List ℕ) → ¬ BeginsWith fits bytes_of given x rest) → ⊥
    none_follows none = none from s.rest begun

  module _ {S : Type 0} (setup : D → S) (stands : D → List Packet → Type 0) (wire : S → Wire)
      (given bytes : List ℕ) (is : given ≡ bytes) (rest : List ℕ) (from : ℕ) (front : IsFront fits bytes_of given from rest) (machine : D) (only_one : IsOnly setup puts machine rest) where
    -- a follower that was made of bytes has consumed what each one has that saves them
    pub follows_as : (other : D) (theirs : ℕ) (input : List Item) → setup other ≡ setup machine → FollowerSaves fits bytes_of puts other theirs bytes
        → Follows stands (wire (setup other)) other theirs input → Follows stands (wire (setup machine)) machine from input
    follows_as other theirs input same s d =
        let only = front.only theirs s.rest (begun given bytes is other theirs s) in
        let equal : other ≡ machine = only_one other same (subst (λ (l : List ℕ). puts other l) only.1 s.its) in
        subst (λ (n : ℕ). Follows stands (wire (setup machine)) machine n input) only.0 (subst (λ (m : D). Follows stands (wire (setup m)) m theirs input) equal d)
