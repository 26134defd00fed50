use Rattle.std.proofs.Common.{[], ◌∷◌, ◌∙◌}
use Rattle.dec_onewire.specs.Net.{crc8}
use Rattle.dev_ds18b20.specs.Probe.{crc_of}
use Rattle.reference_devices.proofs.ds18b20.crc_of.Goals as goal

pub returns : goal.returns
unfolding crc_of
returns c =
    c.crc8.ensures
    ∙ (λ i. crc8 (c.value.ensures i ∷ c.value-2.ensures i ∷ c.value-3.ensures i ∷ c.value-4.ensures i ∷ c.value-5.ensures i ∷ c.value-6.ensures i ∷ c.value-7.ensures i ∷ c.value-8.ensures i ∷ []))
