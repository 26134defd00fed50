use Rattle.std.proofs.Common.{◌≡◌, ◌++◌, map, take}
use Rattle.std.specs.List.{flat_map}
use Rattle.dec_onewire.specs.Net.{segment_outs}
use Rattle.reference_devices.proofs.onewire_net.add_segments.Given as goal

abbrev pub invariant-loop-part : goal.invariant-loop-part
invariant-loop-part l = l.outs.items ≡ l.initial.outs.items ++ flat_map segment_outs (map (λ part. part.items) (take l.part-index l.parts))
