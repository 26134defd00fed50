use Rattle.std.proofs.Common.{subst}
use Rattle.decoder_core.proofs.keep.samples_make_the_form.Goals as goal

pub returns : goal.returns
returns g c = λ list mine theirs same stands also p q.
    let one = c.args.one.now in
    let other = c.args.other.now in
    let equal = g.met.L.LogicMachine.one_machine one other list same stands also in
    g.met.L.Hold.one_form other mine theirs (subst (λ machine. g.L.Hold.puts machine mine) equal p) q
