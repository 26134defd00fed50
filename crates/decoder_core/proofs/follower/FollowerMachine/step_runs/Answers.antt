use Rattle.std.proofs.Common.{◌++◌, ap, length, map, sym, ◌∙◌, take}
use Rattle.std.proofs.lemmas.List.{append-nil}
use Rattle.la_base.specs.Runs.{samples_of}
use Rattle.decoder_core.specs.Inputs.{Sample}
use Rattle.decoder_core.specs.Packets.{counted_packets}
use Rattle.decoder_core.specs.laws.PacketLaws.{samples_passed}
use Rattle.decoder_core.proofs.Followed.{passed}
use Rattle.decoder_core.proofs.follower.FollowerMachine.step_runs.Goals as goal

-- samples don't count
pub returns-clause-steps : goal.returns-clause-steps
returns-clause-steps g c =
    let m = g.D.PacketMachine in
    let s = c.args.self.now in
    let wire = m.wire (g.D.Configured.setup s.machine) in
    let more = samples_of (take (length c.args.runs.now) c.args.runs.now) in
    record {
      front = map Sample more;
      split = sym (append-nil (map Sample more));
      consumes = λ input d. passed m.stands wire (m.outs (g.D.Configured.setup s.machine)) s.machine s.from input (map Sample more) (samples_passed wire input more) d;
      gives = λ input d. ap (m.outs (g.D.Configured.setup s.machine)) (samples_passed wire input more) ∙ sym (append-nil (m.outs (g.D.Configured.setup s.machine) (counted_packets wire input)))
          ∙ ap (λ o. m.outs (g.D.Configured.setup s.machine) (counted_packets wire input) ++ o) (sym c.requires);
    }

pub returns-clause-fewer : goal.returns-clause-fewer
returns-clause-fewer g c = λ some. some
