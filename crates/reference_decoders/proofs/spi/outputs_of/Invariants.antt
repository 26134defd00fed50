use Rattle.std.proofs.Common.{◌≡◌, take}
use Rattle.std.specs.List.{flat_map}
use Rattle.list_cuts.specs.Kept.{kept}
use Rattle.dec_spi.specs.Bus.{stretch_outs}
use Rattle.reference_decoders.specs.Happenings.{meant_part}
use Rattle.reference_decoders.proofs.spi.outputs_of.Given as goal

abbrev pub invariant-loop-stretch : goal.invariant-loop-stretch
invariant-loop-stretch l = l.outs.items ≡ flat_map (λ stretch. stretch_outs l.opts (meant_part (kept stretch))) (take l.stretch-index l.stretch-items)
