-- Two decoders of one setup that have consumed one input save the same.
use Rattle.std.specs.Prelude.{ℕ, ◌≡◌, ◌↔◌, List}
use Rattle.std.proofs.Common.{subst}
use Rattle.decoder_core.specs.Inputs.{Item}
use Rattle.decoder_core.specs.Keeping.{DriverSaves, FollowerSaves, OneForm}
use Rattle.decoder_core.specs.laws.KeepLaws.{same_followed, same_saved}
use Rattle.decoder_core.specs.declared.driver.Driver.{Driver}
use Rattle.decoder_core.specs.declared.follower.Follower.{Follower}
use Rattle.decoder_set.specs.declared.any.AnyDecoder.{AnyDecoder}
use Rattle.decoder_set.specs.declared.any_machine.AnyMachine.{AnyMachine}
use Rattle.kind_table.specs.declared.kinds.Kind.{Kind}
use Rattle.decoder_set.specs.Views.{Inner, Parts, inner, kind_in}
use Rattle.decoder_set.specs.Opening.{HasConsumed, setup_of}
use Rattle.decoder_set.specs.Saving.{SavedBy, Savers}
use Rattle.decoder_set.specs.Whole.{SameDriver, SameFollower, SameInner}
use Rattle.decoder_set.specs.laws.OneDecoder.{same_decoder}

-- what a machine saves is what the table says of its kind
pub saved_as : {by : Savers} (machine : AnyMachine) (bytes : List ℕ)
    → SavedBy by machine bytes ↔ by (kind_in machine) (inner machine) bytes
saved_as machine bytes = (λ saved. saved.its, λ saved. record { its = saved })

-- drivers that hold the same save the same, and so do followers
abbrev pub DriversAlike : {L S : Type 0} → (Driver L S → List ℕ → Type 0) → Type 0
DriversAlike {L} {S} saves = (one other : Driver L S) (a b : List ℕ) → SameDriver one other
    → saves one a → saves other b → a ≡ b

abbrev pub FollowersAlike : {D S : Type 0} → (Follower D S → List ℕ → Type 0) → Type 0
FollowersAlike {D} {S} saves = (one other : Follower D S) (a b : List ℕ) → SameFollower one other
    → saves one a → saves other b → a ≡ b

pub drivers_alike : {L S : Type 0} {fits : ℕ × (ℕ × ℕ) → Type 0}
    {bytes_of : ℕ × (ℕ × ℕ) → List ℕ} {puts : L → List ℕ → Type 0} → OneForm puts
    → DriversAlike {L = L} {S = S}
    (λ d bytes. DriverSaves fits bytes_of puts d.machine d.waiter bytes)
drivers_alike form one other a b same s t =
    same_saved form one.machine other.machine one.waiter other.waiter same a b s t

pub followers_alike : {D S : Type 0} {fits : ℕ → Type 0} {bytes_of : ℕ → List ℕ}
    {puts : D → List ℕ → Type 0} → OneForm puts
    → FollowersAlike {D = D} {S = S}
    (λ d bytes. FollowerSaves fits bytes_of puts d.machine d.from bytes)
followers_alike form one other a b same s t =
    same_followed form one.machine other.machine one.from other.from same.0 same.1 a b s t

module _ (by : Savers) where
  -- machines of each kind that hold the same save the same
  abbrev pub OneSavers : Type 0
  OneSavers = (kind : Kind) (one other : Inner kind) (a b : List ℕ) → SameInner kind one other
      → by kind one a → by kind other b → a ≡ b

  pub any_one_saved : OneSavers → (one other : AnyDecoder) (input : List Item) (a b : List ℕ)
      → setup_of one ≡ setup_of other → HasConsumed one input → HasConsumed other input
      → SavedBy by one.machine a → SavedBy by other.machine b → a ≡ b
  any_one_saved laws one other input a b same d e s t =
      let m = (same_decoder one other input same d e).machine in
      laws (kind_in one.machine) (inner one.machine) m.0 a b m.2 s.its
      (subst (λ (p : Parts). by p.0 p.1 b) m.1 t.its)
