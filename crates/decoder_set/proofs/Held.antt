-- What a machine of one kind promises, for a decoder that holds it.
use Rattle.std.proofs.Common.{◌≡◌, ◌≤◌, ℕ, Bool, true, false, List, ◌++◌, Option, refl, sym, ◌∙◌}
use Rattle.std.proofs.Common.{ap, subst}
use Rattle.la_base.specs.declared.samples.Rate.{Rate}
use Rattle.la_base.specs.declared.samples.Run.{Run}
use Rattle.la_base.specs.declared.wires.Feed.{Feed}
use Rattle.la_base.specs.declared.wires.Out.{Out}
use Rattle.decoder_core.specs.Driving.{ReachesStop, Steps, StepsRuns, StopsFirst}
use Rattle.decoder_core.specs.Inputs.{Item}
use Rattle.decoder_core.specs.Keeping.{StandsAs}
use Rattle.decoder_core.specs.Packets.{IsFloorOver}
use Rattle.decoder_set.specs.declared.any_machine.AnyMachine.{AnyMachine}
use Rattle.kind_table.specs.declared.kinds.Kind.{Kind}
use Rattle.decoder_set.specs.declared.setup.Setup.{Setup}
use Rattle.decoder_set.specs.Members.{IsMember, Loaded}
use Rattle.decoder_set.specs.Opening.{Consumed, SleepsBy}
use Rattle.decoder_set.specs.Owning.{IsOwn}
use Rattle.decoder_set.specs.Saving.{SavedBy, Savers, SavesAs}
use Rattle.decoder_set.specs.Setups.{near_by, outs_by}
use Rattle.decoder_set.specs.Views.{Parts, parts_of, view_in}
use Rattle.decoder_set.proofs.Seen.{reaches_seen, steps_seen, stops_seen}

module _ {M S : Type 0} {kind : Kind} {held : M → AnyMachine}
    {own : List (Option ℕ) → Rate → S → Type 0} {setup_of : M → S}
    {outputs : S → List Item → List Out} {near : S → List Item → ℕ → ℕ}
    {consumed : M → List Item → Type 0} {sleeps : M → List Item → List Item → Type 0}
    (laws : IsMember kind held own setup_of outputs near consumed sleeps) (k : Kind)
    (values : List (Option ℕ)) (rate : Rate) where
  -- what it is for a decoder to have consumed an input, by the machine
  record Within (machine : M) (input : List Item) : Type 0 where
    is : k ≡ kind
    its : own values rate (setup_of machine)
    has : consumed machine input

  within : (machine : M) (input : List Item) → Consumed k values rate (held machine) input
      → Within machine input
  within machine input has =
      let s = laws.shows machine in
      record {
        is = has.0 ∙ s.kind_is;
        its = s.own_of values rate has.1.own;
        has = s.consumed_of input has.1.consumed;
      }

  whole_of : (machine : M) (input : List Item) → k ≡ kind
      → own values rate (setup_of machine) → consumed machine input
      → Consumed k values rate (held machine) input
  whole_of machine input is its has =
      let s = laws.shows machine in (
        is ∙ sym s.kind_is,
        record {
          own = s.own_as values rate its;
          consumed = s.consumed_as input has;
        },
      )

  outs_are : (machine : M) → k ≡ kind
      → own values rate (setup_of machine) → (input : List Item)
      → outs_by k values rate input ≡ outputs (setup_of machine) input
  outs_are machine is its input =
      ap (λ (j : Kind). outs_by j values rate input) is
      ∙ laws.outs_are values rate (setup_of machine) its input

  near_is : (machine : M) → k ≡ kind
      → own values rate (setup_of machine) → (input : List Item) (above : ℕ)
      → near_by k values rate input above ≡ near (setup_of machine) input above
  near_is machine is its input above =
      ap (λ (j : Kind). near_by j values rate input above) is
      ∙ laws.near_is values rate (setup_of machine) its input above

  module _ (old : M) (whole : AnyMachine) (is : whole ≡ held old) where
    before : (input : List Item) → Consumed k values rate whole input → Within old input
    before input has = within old input (subst (λ (m : AnyMachine). Consumed k values rate m input) is has)

    module _ (new : M) (same : setup_of new ≡ setup_of old) where
      after : (input more : List Item) → Consumed k values rate whole input → consumed new more
          → Consumed k values rate (held new) more
      after input more has stands =
          let w = before input has in
          whole_of new more w.is
          (subst (λ (s : S). own values rate s) (sym same) w.its) stands

      given : (input : List Item) → Consumed k values rate whole input → (other : List Item)
          → outs_by k values rate other ≡ outputs (setup_of old) other
      given input has = let w = before input has in outs_are old w.is w.its

      pub held_steps : (feed : Feed) (left : Option Feed) (into : List Out)
          → Steps (consumed old) (consumed new) (outputs (setup_of old)) feed left into
          → Steps (λ input. Consumed k values rate whole input) (λ input. Consumed k values rate (held new) input)
          (λ input. outs_by k values rate input) feed left into
      held_steps feed left into steps =
          steps_seen (λ input has. (before input has).has) feed left given
          (λ input front has stands. after input (input ++ front) has stands) steps

      pub held_runs : (samples : List ℕ) (rest : Option Run) (into : List Out)
          → StepsRuns (consumed old) (consumed new) (outputs (setup_of old)) samples rest into
          → StepsRuns (λ input. Consumed k values rate whole input) (λ input. Consumed k values rate (held new) input)
          (λ input. outs_by k values rate input) samples rest into
      held_runs samples rest into steps = record {
        front = steps.front;
        split = steps.split;
        consumes = λ input has.
            after input (input ++ steps.front) has (steps.consumes input (before input has).has);
        gives = λ input has.
            given input has (input ++ steps.front) ∙ steps.gives input (before input has).has
            ∙ ap (λ (l : List Out). l ++ into) (sym (given input has input));
      }

    awake : (input more : List Item) → SleepsBy whole input more → sleeps old input more
    awake input more asleep =
        (laws.shows old).awake input more
        (subst (λ (m : AnyMachine). SleepsBy m input more) is asleep)

    pub held_stops : (feed : Feed) (left : Option Feed)
        → StopsFirst (consumed old) (sleeps old) feed left
        → StopsFirst (λ input. Consumed k values rate whole input) (λ input more. SleepsBy whole input more)
        feed left
    held_stops feed left stops =
        stops_seen (λ input has. (before input has).has) feed left
        (λ input more asleep. subst (λ (m : AnyMachine). SleepsBy m input more) (sym is)
        ((laws.shows old).asleep input more asleep)) awake stops

    pub held_reaches : (feed : Feed) (left : Option Feed)
        → ReachesStop (consumed old) (sleeps old) feed left
        → ReachesStop (λ input. Consumed k values rate whole input) (λ input more. SleepsBy whole input more)
        feed left
    held_reaches feed left reaches =
        reaches_seen (λ input has. (before input has).has) feed left awake reaches

    pub held_floor : (above floor : ℕ)
        → ((input : List Item) → consumed old input → IsFloorOver above (outputs (setup_of old)) input floor)
        → (input : List Item) → Consumed k values rate whole input → IsFloorOver above (outs_by k values rate) input floor
    held_floor above floor below input has more new from is_new =
        let w = before input has in
        let same = outs_are old w.is w.its in
        below input w.has more new from
        (sym (same (input ++ more)) ∙ is_new ∙ ap (λ (l : List Out). l ++ new) (same input))

    pub held_near : (above floor : ℕ)
        → ((input : List Item) → consumed old input → near (setup_of old) input above ≤ floor)
        → (input : List Item) → Consumed k values rate whole input → near_by k values rate input above ≤ floor
    held_near above floor below input has =
        let w = before input has in
        subst (λ (n : ℕ). n ≤ floor) (sym (near_is old w.is w.its input above)) (below input w.has)

-- a machine whose setup stays is of its kind, and has its options, as before
module _ {M S : Type 0} {kind : Kind} {held : M → AnyMachine}
    {own : List (Option ℕ) → Rate → S → Type 0} {setup_of : M → S}
    {outputs : S → List Item → List Out} {near : S → List Item → ℕ → ℕ}
    {consumed : M → List Item → Type 0} {sleeps : M → List Item → List Item → Type 0}
    (laws : IsMember kind held own setup_of outputs near consumed sleeps) (setup : Setup) where
  pub still_own : (old new : M) (whole : AnyMachine) → whole ≡ held old
      → setup_of new ≡ setup_of old → IsOwn setup whole → IsOwn setup (held new)
  still_own old new whole is same its =
      let mine : IsOwn setup (held old) = subst (λ (m : AnyMachine). IsOwn setup m) is its in
      let a = laws.shows old in
      let b = laws.shows new in (
        mine.0 ∙ a.kind_is ∙ sym b.kind_is,
        b.own_as setup.values.given setup.rate
            (subst (λ (s : S). own setup.values.given setup.rate s) (sym same)
            (a.own_of setup.values.given setup.rate mine.1)),
      )

-- what a machine saves and takes, by a table that says of its kind what it does
module _ {M S : Type 0} {kind : Kind} {held : M → AnyMachine}
    {own : List (Option ℕ) → Rate → S → Type 0} {setup_of : M → S}
    {outputs : S → List Item → List Out} {near : S → List Item → ℕ → ℕ}
    {consumed : M → List Item → Type 0} {sleeps : M → List Item → List Item → Type 0}
    (laws : IsMember kind held own setup_of outputs near consumed sleeps) {by : Savers}
    {saves : M → List ℕ → Type 0} (saved : SavesAs by held saves) where
  pub held_saved : (machine : M) (bytes : List ℕ) → saves machine bytes → (whole : AnyMachine)
      → whole ≡ held machine → SavedBy by whole bytes
  held_saved machine bytes saves whole is =
      subst (λ (m : AnyMachine). SavedBy by m bytes) (sym is) ((saved machine bytes).1 saves)

  -- another machine that is of the setup of this one, and saves these bytes
  module _ (old : M) (bytes : List ℕ) (setup : Setup) (other : AnyMachine)
      (mine : IsOwn setup (held old)) (theirs : IsOwn setup other)
      (saving : SavedBy by other bytes) where
    alike : (m : M) × (parts_of other ≡ parts_of (held m))
    alike = laws.found other (sym (laws.shows old).kind_is ∙ sym mine.0 ∙ theirs.0)

    alike_saves : saves alike.0 bytes
    alike_saves =
        (saved alike.0 bytes).0
        (record { its = subst (λ (p : Parts). by p.0 p.1 bytes) alike.1 saving.its })

    abbrev Owns : Parts → Type 0
    Owns p = (view_in p.0 p.1).own setup.values.given setup.rate

    alike_setup : setup_of alike.0 ≡ setup_of old
    alike_setup =
        laws.one_setup setup.values.given setup.rate (setup_of alike.0) (setup_of old)
        ((laws.shows alike.0).own_of setup.values.given setup.rate (subst Owns alike.1 theirs.1))
        ((laws.shows old).own_of setup.values.given setup.rate mine.1)

    abbrev Has : List Item → Parts → Type 0
    Has input p = (view_in p.0 p.1).consumed input

    alike_consumed : (input : List Item) → Has input (parts_of other) → consumed alike.0 input
    alike_consumed input has = (laws.shows alike.0).consumed_of input (subst (Has input) alike.1 has)

  pub held_loaded : (old new : M) (taken : Bool) (bytes : List ℕ) → setup_of new ≡ setup_of old
      → (taken ≡ true → saves new bytes)
      → (taken ≡ false → (other : M) → setup_of other ≡ setup_of old → ¬ saves other bytes)
      → (taken ≡ false → new ≡ old)
      → (taken ≡ true → StandsAs setup_of consumed saves new bytes)
      → (whole : AnyMachine) → whole ≡ held old → Loaded by whole (held new) taken bytes
  held_loaded old new taken bytes same loaded none stays stands whole is =
      subst (λ (m : AnyMachine). Loaded by m (held new) taken bytes) (sym is) record {
        own = λ setup. owns setup;
        loaded = λ done. (saved new bytes).1 (loaded done);
        same = λ done. ap held (stays done);
        none = λ done setup other mine theirs saving.
            none done (alike old bytes setup other mine theirs saving).0
            (alike_setup old bytes setup other mine theirs saving)
            (alike_saves old bytes setup other mine theirs saving);
        stands = λ done setup other input mine saving has.
            let theirs : IsOwn setup other = (has.0, has.1.own) in
            let after = owns setup mine in (
              after.0,
              record {
                own = after.1;
                consumed = (laws.shows new).consumed_as input
                    (stands done (alike old bytes setup other mine theirs saving).0 input
                    (alike_setup old bytes setup other mine theirs saving ∙ sym same)
                    (alike_saves old bytes setup other mine theirs saving)
                    (alike_consumed old bytes setup other mine theirs saving input has.1.consumed));
              },
            );
      }
    where
      owns : (setup : Setup) → IsOwn setup (held old) → IsOwn setup (held new)
      owns setup = still_own laws setup old new (held old) refl same
