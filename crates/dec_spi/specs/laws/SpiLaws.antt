-- SPI as a decoder by events, and what it promises of its outputs.
use Rattle.std.proofs.Common.{◌≡◌, ℕ, suc, ◌≤◌, List, [], ◌∷◌, length, Option, Some, None, refl}
use Rattle.std.proofs.Common.{sym, ◌∙◌, ap, ◌==◌}
use Rattle.la_base.specs.declared.wires.Wire.TheVariants.{Spi as SpiWire}
use Rattle.list_cuts.specs.Groups.{after_groups}
use Rattle.list_cuts.specs.Neighbours.{last_of}
use Rattle.list_cuts.specs.Parts.{Part}
use Rattle.list_cuts.proofs.TestLaws.{when_no, suc_no}
use Rattle.sample_walks.specs.Walks.{given}
use Rattle.sample_walks.specs.Events.{by_events}
use Rattle.sample_walks.specs.Outputs.{SampleOuts}
use Rattle.sample_walks.specs.laws.EventDecoders.{EventDecoder, promises_of}
use Rattle.sample_walks.specs.laws.EventWalks.{events_given, events_walked}
use Rattle.dec_spi.specs.declared.held.Held.{Held}
use Rattle.dec_spi.specs.declared.options.SpiOpts.{SpiOpts}
use Rattle.dec_spi.specs.Bus.{Event, Select, Deselect, Clock, place_of, events, stretches}
use Rattle.dec_spi.specs.Bus.{events_outs, spi_outs, begun_in, begun_word, begun_at, spi_near}
use Rattle.dec_spi.specs.laws.Machine.{held_by, held_in, held_last, held_after, near_by, spi_walk}
use Rattle.dec_spi.specs.laws.Machine.{held_at}
use Rattle.dec_spi.specs.laws.PushLaws.{spi_pushed}
use Rattle.dec_spi.specs.laws.SpiSound.{spi_fits, spi_events}

module _ (opts : SpiOpts) where
  near_rest : (rest : List Event) (n : ℕ) → begun_at rest n ≡ near_by (held_by opts rest) n
  near_rest [] n = refl
  near_rest (c ∷ rest) n =
      sym (when_no (suc (length rest) == 0) n (place_of c) (suc_no (length rest)))

  module _ (some : 1 ≤ opts.bits) (few : opts.bits ≤ 32) where
    pub spi_same : (list : List ℕ) → spi_outs opts list ≡ given (by_events (spi_walk opts)) list
    unfolding spi_outs
    spi_same list =
        events_given (spi_walk opts) (events_outs opts) (held_after opts)
        (spi_pushed opts some few) list

    near_last : (last : Option (Part Event)) (n : ℕ)
        → begun_at (begun_word opts last) n ≡ near_by (held_last opts last) n
    near_last None n = refl
    near_last (Some stretch) n = by stretch.ended_by stretch.items
      where
        by : (end : Option Event) (items : List Event)
            → begun_at (begun_in opts end items) n ≡ near_by (held_in opts end items) n
        by (Some e) items = refl
        by None [] = refl
        by None (Select k ∷ clocks) = near_rest (after_groups opts.bits clocks) n
        by None (Deselect k ∷ clocks) = refl
        by None (Clock k out back ∷ clocks) = refl

    pub spi_same_near : (list : List ℕ)
        → spi_near opts list ≡ near_by (held_at opts list) (length list)
    unfolding spi_near
    spi_same_near list =
        near_last (last_of (stretches (events opts list))) (length list)
        ∙ ap (λ (h : Held). near_by h (length list))
        (events_walked (spi_walk opts) (events_outs opts) (held_after opts)
        (spi_pushed opts some few) list)

    abbrev pub spi_decoder : EventDecoder Held Event
    spi_decoder = record {
      walk = spi_walk opts;
      fits = spi_fits opts;
      sound = spi_events opts few;
      outs = spi_outs opts;
      given_is = spi_same;
      near = spi_near opts;
      near_is = spi_same_near;
    }

    pub spi_promises : SampleOuts SpiWire (spi_outs opts)
    spi_promises = promises_of spi_decoder
