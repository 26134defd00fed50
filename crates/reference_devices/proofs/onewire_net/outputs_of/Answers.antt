use Rattle.std.proofs.Common.{◌∙◌, ◌++◌, map, ap}
use Rattle.std.specs.List.{flat_map}
use Rattle.dec_onewire.specs.Net.{net_outs, segment_outs}
use Rattle.reference_devices.proofs.onewire_net.outputs_of.Goals as goal

pub returns : goal.returns
unfolding net_outs
returns c =
    c.in_ok-add_segments.ensures ∙ (λ i. c.new-outs.ensures.items i ++ flat_map segment_outs (map (λ part. part.items) (c.deref.ensures.value i)))
    ∙ ap (flat_map segment_outs) c.in_ok-parts.ensures
