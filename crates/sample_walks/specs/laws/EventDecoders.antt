-- What a decoder by events promises of its outputs, and what a machine of it answers that holds
-- what the walk keeps of the samples up to its last stop.
use Rattle.std.proofs.Common.{◌≡◌, ℕ, ◌+◌, ◌≤◌, List, [], ◌∷◌, ◌++◌, take, length, Option, sym, ◌∙◌}
use Rattle.std.proofs.Common.{ap, subst}
use Rattle.std.proofs.lemmas.List.{append-nil}
use Rattle.la_base.specs.declared.wires.Out.{Out}
use Rattle.decoder_core.specs.Promises.{GivesFrom, GivesOn, IsFloor, PacketsOn, Rests, StopsIn}
use Rattle.sample_walks.specs.Walks.{Walk, walked, given, EndsThere, Sound}
use Rattle.sample_walks.specs.Events.{EventWalk, by_events, gives_all, next_all, SoundEvents}
use Rattle.sample_walks.specs.Outputs.{SampleOuts}
use Rattle.sample_walks.specs.laws.EventWalks.{events_sound, events_on}
use Rattle.sample_walks.specs.laws.HeldLaws.{held_quiet, held_one_stop, held_floor, held_packets}
use Rattle.sample_walks.specs.laws.HeldLaws.{held_near}
use Rattle.sample_walks.specs.laws.HeldLaws.{Stopped, held_stop}
use Rattle.sample_walks.specs.laws.WalkLaws.{outs_nothing, outs_prefix, outs_few, outs_order}

-- a decoder by events: its walk with what that owes, and its definition, which the walk gives
pub record EventDecoder (H E : Type 0) : Type 1 where
  pub walk : EventWalk H E
  pub fits : H → ℕ → Option ℕ → Type 0
  pub sound : SoundEvents walk fits
  pub outs : List ℕ → List Out
  pub given_is : (list : List ℕ) → outs list ≡ given (by_events walk) list
  pub near : List ℕ → ℕ
  pub near_is : (list : List ℕ) → near list ≡ walk.near (walked (by_events walk) list) (length list)

module _ {H E : Type 0} (d : EventDecoder H E) where
  abbrev samples : Walk H
  samples = by_events d.walk

  abbrev timed : H → ℕ → Type 0
  timed h q = Unit {0}

  sound : Sound samples d.fits timed
  sound = events_sound d.walk d.fits d.sound

  on_wire_of : GivesOn d.walk.wire d.outs
  on_wire_of list =
      subst (λ (l : List Out). PacketsOn d.walk.wire l) (sym (d.given_is list))
      (events_on d.walk d.fits d.sound list)

  pub promises_of : SampleOuts d.walk.wire d.outs
  promises_of = record {
    nothing = outs_nothing samples d.fits timed sound d.outs d.given_is;
    prefix = outs_prefix samples d.fits timed sound d.outs d.given_is;
    order = outs_order samples d.fits timed sound d.outs d.given_is;
    few = outs_few samples d.fits timed sound d.outs d.given_is;
    on_wire = on_wire_of;
  }

  -- what a machine holds is what the walk keeps of samples that end with an event, or of none
  abbrev pub Holds : H → List ℕ → Type 0
  Holds held list = EndsThere samples list × (held ≡ walked samples list)

  module _ (held : H) (seen more : List ℕ) (holds : Holds held seen) where
    module _ (none : Rests (d.walk.alts held) seen more) where
      pub quiet_of : d.outs (seen ++ more) ≡ d.outs seen
      quiet_of =
          held_quiet samples d.fits timed sound d.outs d.given_is held seen more holds.0 holds.1
          none

      pub one_stop_of : EndsThere samples (seen ++ more) → more ≡ []
      one_stop_of also =
          held_one_stop samples d.fits timed sound d.outs d.given_is held seen more holds.0 holds.1
          none also

      module _ (count result : ℕ) (count_is : count ≡ length (seen ++ more))
          (result_is : result ≡ d.walk.near held count) where
        pub floor_of : IsFloor d.outs (seen ++ more) result
        floor_of =
            held_floor samples d.fits timed sound d.outs d.given_is held seen more holds.0 holds.1
            none count result count_is result_is

        pub packets_of : GivesFrom d.outs (seen ++ more) result
        packets_of =
            held_packets samples d.fits timed sound d.outs d.given_is held seen more holds.0 holds.1
            none count result count_is result_is

        pub near_of : d.near (seen ++ more) ≤ result
        near_of =
            held_near samples d.fits timed sound d.outs d.given_is held seen more holds.0 holds.1
            none count result count_is result_is d.near d.near_is

    -- a stop
    module _ (at value met : ℕ) (s : StopsIn (d.walk.alts held) seen more at value met) where
      abbrev event : E
      event = d.walk.event_of held at value met

      stop : Stopped samples d.fits d.outs held seen (seen ++ more) at value met
      stop = held_stop samples d.fits timed sound d.outs d.given_is held seen more holds.0 holds.1
          at value met s

      event_is : d.walk.event_at at stop.before value ≡ event ∷ []
      event_is =
          d.sound.some held at stop.before value (length seen) met stop.fit stop.set stop.some

      pub loud_of : (earlier into : List Out) → into ≡ earlier ++ d.walk.gives held event
          → (new : List Out) × (into ≡ earlier ++ new)
          × (d.outs (take (at + 1) (seen ++ more)) ≡ d.outs seen ++ new)
      loud_of earlier into is = (
        d.walk.gives held event,
        is,
        stop.gives
            ∙ ap (λ (l : List Out). d.outs seen ++ l)
            (ap (λ (es : List E). gives_all d.walk held es) event_is
            ∙ append-nil (d.walk.gives held event)),
      )

      pub holds_of : (new : H) → new ≡ d.walk.next held event
          → Holds new (take (at + 1) (seen ++ more))
      holds_of new is = (
        stop.ends,
        is ∙ ap (λ (es : List E). next_all d.walk held es) (sym event_is)
            ∙ stop.keeps,
      )
