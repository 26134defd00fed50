use Rattle.std.proofs.Common.{ℕ, List, ◌++◌, ◌∙◌, ap, append_assoc}
use Rattle.std.specs.Prelude.{codes}
use Rattle.dec_onewire.specs.Texts.{command_name}
use Rattle.dec_onewire.proofs.net.texts.rom_command.Goals as goal

pub returns-clause-text : goal.returns-clause-text
returns-clause-text c =
    c.command.ensures.text
    ∙ ap (λ (l : List ℕ). l ++ command_name c.args.byte) c.push_bytes.ensures.text
    ∙ append_assoc c.args.buf.now (codes "ROM command: ") (command_name c.args.byte)
