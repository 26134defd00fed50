use Rattle.std.proofs.Common.{◌∙◌, ◌≤◌, Bool, List, length, sym, ap, subst}
use Rattle.dec_onewire.specs.Net.{size_of}
use Rattle.reference_devices.specs.declared.onewire_net.Rom.{Rom}
use Rattle.reference_devices.specs.NetParts.{role_of}
use Rattle.reference_devices.proofs.NetRounds.{directions_few}
use Rattle.reference_devices.proofs.onewire_net.rom_in.Goals as goal

pub low_first-requires : goal.low_first-requires
low_first-requires c =
    subst (λ (l : List Bool). length l ≤ 64) (sym (c.deref.ensures.value ∙ c.in_ok-list-in-Found.ensures))
    (directions_few c.args.bits.now (c.requires ∙ ap (λ (rom : Rom). size_of (role_of rom)) c.in-Found.is))
