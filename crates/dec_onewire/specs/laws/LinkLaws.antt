-- The link as a decoder by events, and what it promises of its outputs.
use Rattle.std.proofs.Common.{◌≡◌, ℕ, List, length, ap}
use Rattle.la_base.specs.declared.samples.Rate.{Rate}
use Rattle.la_base.specs.declared.wires.Wire.TheVariants.{OwLink as LinkWire}
use Rattle.sample_walks.specs.Walks.{given}
use Rattle.sample_walks.specs.Events.{EventWalk, by_events}
use Rattle.sample_walks.specs.Outputs.{SampleOuts}
use Rattle.sample_walks.specs.laws.EventDecoders.{EventDecoder, promises_of}
use Rattle.sample_walks.specs.laws.EventWalks.{events_given, events_walked}
use Rattle.dec_onewire.specs.declared.link.held.Held.{Held}
use Rattle.dec_onewire.specs.declared.link.options.Lengths.{Lengths}
use Rattle.dec_onewire.specs.declared.link.options.OwLinkOpts.{OwLinkOpts}
use Rattle.dec_onewire.specs.Link.{Edge, edges_outs, lengths_of, link_outs, link_near}
use Rattle.dec_onewire.specs.laws.LinkMachine.{near_by, held_after, held_at, link_walk}
use Rattle.dec_onewire.specs.laws.LinkPushed.{link_pushed}
use Rattle.dec_onewire.specs.laws.LinkSound.{link_fits, link_events}

module _ (opts : OwLinkOpts) (rate : Rate) where
  abbrev lengths : Lengths
  lengths = lengths_of opts rate

  abbrev walk : EventWalk Held Edge
  walk = link_walk opts.dq (lengths_of opts rate)

  pub link_same : (list : List ℕ) → link_outs opts rate list ≡ given (by_events walk) list
  unfolding link_outs
  link_same list =
      events_given walk (edges_outs lengths) (held_after lengths) (link_pushed opts.dq lengths) list

  pub link_same_near : (list : List ℕ)
      → link_near opts list ≡ near_by (held_at opts rate list) (length list)
  unfolding link_near
  link_same_near list =
      ap (λ (h : Held). near_by h (length list))
      (events_walked walk (edges_outs lengths) (held_after lengths)
      (link_pushed opts.dq lengths) list)

  abbrev pub link_decoder : EventDecoder Held Edge
  link_decoder = record {
    walk = link_walk opts.dq (lengths_of opts rate);
    fits = link_fits;
    sound = link_events (lengths_of opts rate) opts.dq;
    outs = link_outs opts rate;
    given_is = link_same;
    near = link_near opts;
    near_is = link_same_near;
  }

  pub link_promises : SampleOuts LinkWire (link_outs opts rate)
  link_promises = promises_of link_decoder
