use Rattle.std.proofs.Common.{◌∙◌, List, map, None, ap}
use Rattle.list_cuts.specs.Neighbours.{at_neighbours}
use Rattle.dec_onewire.specs.Link as link
use Rattle.dec_onewire.specs.Link.{link_outs, pulse_outs}
use Rattle.reference_devices.specs.declared.onewire_link.Edge.{Edge}
use Rattle.reference_devices.specs.declared.onewire_link.Pulse.{Pulse}
use Rattle.reference_devices.specs.LinkParts.{edge_of, pulse_of}
use Rattle.reference_devices.proofs.LinkLemmas.{edges_are, given, pulses_are}
use Rattle.reference_devices.proofs.onewire_link.outputs_of.Goals as goal

pub returns : goal.returns
unfolding link_outs
returns c =
    let lengths = c.lengths_of-lengths.result in
    let edges = c.deref.result.now in
    let pulses = c.deref-2.result.now in
    c.in_ok-outs.ensures
    ∙ given pulse_of (pulse_outs lengths) pulses 0 None
    ∙ ap (λ (l : List Pulse). at_neighbours (pulse_outs lengths) (map pulse_of l)) (c.deref-2.ensures.value ∙ c.in_ok-pulses.ensures)
    ∙ ap (at_neighbours (pulse_outs lengths)) (pulses_are edges)
    ∙ ap (λ (l : List Edge). at_neighbours (pulse_outs lengths) (link.pulses (map edge_of l))) (c.deref.ensures.value ∙ c.in_ok-edges.ensures)
    ∙ ap (λ (l : List link.Edge). at_neighbours (pulse_outs lengths) (link.pulses l)) (edges_are c.args.opts.dq c.args.samples.now)
    ∙ (λ i. at_neighbours (pulse_outs (c.lengths_of-lengths.ensures i)) (link.pulses (link.edges c.args.opts.dq c.args.samples.now)))
