use Rattle.std.proofs.Common.{◌≡◌, ◌++◌, length}
use Rattle.std.specs.List.{flat_map}
use Rattle.dec_onewire.specs.Net.{bytes_cut, group_outs}
use Rattle.reference_devices.proofs.onewire_net.add_bytes.Given as goal

abbrev pub invariant-loop-rest : goal.invariant-loop-rest
invariant-loop-rest l = l.outs.items ++ flat_map group_outs (bytes_cut l.rest).whole ≡ l.initial.outs.items ++ flat_map group_outs (bytes_cut l.bits).whole

abbrev pub decreases-loop-rest : goal.decreases-loop-rest
decreases-loop-rest l = length l.rest
