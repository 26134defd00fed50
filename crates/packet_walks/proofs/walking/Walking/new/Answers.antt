use Rattle.std.proofs.Common.{sym, ◌∙◌}
use Rattle.packet_walks.proofs.walking.Walking.new.Goals as goal

pub returns-clause-stands : goal.returns-clause-stands
returns-clause-stands g c =
    c.begin-held.ensures ∙ sym (g.met.W.WalkState.pushed c.args.setup).no_kept
