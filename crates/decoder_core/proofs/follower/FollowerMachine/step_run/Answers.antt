use Rattle.std.proofs.Common.{refl, map}
use Rattle.la_base.specs.Samples.{samples}
use Rattle.la_base.specs.declared.wires.Feed.TheVariants.{Run as RunFeed}
use Rattle.decoder_core.specs.Inputs.{Sample}
use Rattle.decoder_core.specs.Packets.{Follows}
use Rattle.decoder_core.specs.laws.PacketLaws.{samples_passed}
use Rattle.decoder_core.proofs.Followed.{passes, reaches, run_feed}
use Rattle.decoder_core.proofs.follower.FollowerMachine.step_run.Goals as goal

pub returns-clause-step : goal.returns-clause-step
returns-clause-step g c =
    let m = g.D.PacketMachine in
    let s = c.args.self.now in
    let wire = m.wire (g.D.Configured.setup s.machine) in
    let run = c.args._run in
    passes m.stands wire (m.outs (g.D.Configured.setup s.machine)) s.machine s.from (RunFeed run) (map Sample (samples run)) c.args._into.now refl c.requires (λ input d. samples_passed wire input (samples run))

pub returns-clause-stops : goal.returns-clause-stops
returns-clause-stops g c =
    let m = g.D.PacketMachine in
    let s = c.args.self.now in
    let wire = m.wire (g.D.Configured.setup s.machine) in
    let run = c.args._run in
    reaches wire (Follows m.stands wire s.machine s.from) (RunFeed run) (run_feed wire (Follows m.stands wire s.machine s.from) (RunFeed run) (samples run) refl)
