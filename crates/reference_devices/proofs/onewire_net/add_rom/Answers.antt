use Rattle.std.proofs.Common.{◌∙◌, ◌++◌, List, ap}
use Rattle.la_base.specs.declared.wires.Out.{Out}
use Rattle.dec_onewire.specs.Net.{role_outs}
use Rattle.reference_devices.specs.NetParts.{role_of}
use Rattle.reference_devices.proofs.NetRounds.{rom_is}
use Rattle.reference_devices.proofs.onewire_net.add_rom.Goals as goal

pub returns : goal.returns
returns c =
    let rom = c.args.rom in
    c.in_ok-add_rom_outs.ensures
    ∙ ap (λ (l : List Out). c.args.outs.now.items ++ l)
    (rom_is rom c.starts_at.result c.ends_at.result c.in_ok-number.number
    ∙ (λ i. role_outs (role_of rom) (c.starts_at.ensures i) (c.ends_at.ensures i) (c.in_ok-number.ensures i)))
