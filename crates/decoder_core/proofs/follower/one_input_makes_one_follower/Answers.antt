use Rattle.std.proofs.Common.{sym, ◌∙◌, subst}
use Rattle.decoder_core.specs.Packets.{Follows, counted_packets}
use Rattle.decoder_core.proofs.follower.one_input_makes_one_follower.Goals as goal

pub returns : goal.returns
returns g c = λ input same mine theirs.
    let m = g.D.PacketMachine in
    let one = c.args.one.now in
    let other = c.args.other.now in
    let also = subst (λ (s : g.row.D-Setup.Denot). Follows m.stands (m.wire s) other.machine other.from input) (sym same) theirs in
    (g.met.D.PacketMachine.one_machine one.machine other.machine (counted_packets (m.wire (g.D.Configured.setup one.machine)) input) same mine.machine_stands also.machine_stands, mine.last_is ∙ sym also.last_is)
