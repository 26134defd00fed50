use Rattle.std.proofs.Common.{◌≡◌, ◌∷◌, ◌∙◌, [], None, true, false, sym, ap, subst, map}
use Rattle.la_base.specs.Samples.{samples}
use Rattle.la_base.specs.declared.wires.Wire.{Wire}
use Rattle.decoder_core.specs.Driving.{Steps}
use Rattle.decoder_core.specs.Inputs.{Pack, Sample, items_of}
use Rattle.decoder_core.specs.Packets.{Follows, counted_packets, counts}
use Rattle.decoder_core.specs.laws.PacketLaws.{samples_passed}
use Rattle.decoder_core.proofs.Followed.{passes, not_counted, followed, packet_feed, run_feed, end_feed}
use Rattle.decoder_core.proofs.follower.FollowerMachine.step.Goals as goal

pub returns-then-counts-clause-step : goal.returns-then-counts-clause-step
returns-then-counts-clause-step g c =
    let m = g.D.PacketMachine in
    let s = c.args.self.now in
    let p = c.in-Packet.packet in
    let wire = m.wire (g.D.Configured.setup s.machine) in
    let outs = m.outs (g.D.Configured.setup s.machine) in
    let test : counts wire s.from p ≡ true = ap (λ (w : Wire). counts w s.from p) (sym c.wants.ensures) ∙ sym c.if-counts.ensures in
    subst (λ (w : Wire). Steps (Follows m.stands wire s.machine s.from) (Follows m.stands w c.accept.new.self p.start) (λ input. outs (counted_packets wire input)) c.args.feed None c.accept.new.into) (ap m.wire (sym c.accept.ensures.setup))
    (followed m.stands wire outs s.machine s.from c.accept.new.self c.args.feed p c.accept.new.into (ap items_of c.in-Packet.is) test c.accept.ensures.stands c.accept.ensures.loud)

pub returns-else-counts-clause-step : goal.returns-else-counts-clause-step
returns-else-counts-clause-step g c =
    let m = g.D.PacketMachine in
    let s = c.args.self.now in
    let p = c.in-Packet.packet in
    let wire = m.wire (g.D.Configured.setup s.machine) in
    let outs = m.outs (g.D.Configured.setup s.machine) in
    let test : counts wire s.from p ≡ false = ap (λ (w : Wire). counts w s.from p) (sym c.wants.ensures) ∙ sym c.if-counts.ensures in
    passes m.stands wire outs s.machine s.from c.args.feed (Pack p ∷ []) c.args.into.now (ap items_of c.in-Packet.is) c.requires (not_counted m.stands wire outs s.machine s.from p test)

pub returns-in-Run-clause-step : goal.returns-in-Run-clause-step
returns-in-Run-clause-step g c =
    let m = g.D.PacketMachine in
    let s = c.args.self.now in
    let wire = m.wire (g.D.Configured.setup s.machine) in
    passes m.stands wire (m.outs (g.D.Configured.setup s.machine)) s.machine s.from c.args.feed (map Sample (samples c.in-Run.field-0)) c.args.into.now (ap items_of c.in-Run.is) c.requires (λ input d. samples_passed wire input (samples c.in-Run.field-0))

pub returns-in-End-clause-step : goal.returns-in-End-clause-step
returns-in-End-clause-step g c =
    let m = g.D.PacketMachine in
    let s = c.args.self.now in
    let wire = m.wire (g.D.Configured.setup s.machine) in
    passes m.stands wire (m.outs (g.D.Configured.setup s.machine)) s.machine s.from c.args.feed [] c.args.into.now (ap items_of c.in-End.is) c.requires (λ input d. samples_passed wire input [])

pub returns-in-From-clause-step : goal.returns-in-From-clause-step
returns-in-From-clause-step g c =
    let m = g.D.PacketMachine in
    let s = c.args.self.now in
    let wire = m.wire (g.D.Configured.setup s.machine) in
    passes m.stands wire (m.outs (g.D.Configured.setup s.machine)) s.machine s.from c.args.feed [] c.args.into.now (ap items_of c.in-From.is) c.requires (λ input d. samples_passed wire input [])

pub returns-then-counts-clause-stops : goal.returns-then-counts-clause-stops
returns-then-counts-clause-stops g c =
    let m = g.D.PacketMachine in
    let s = c.args.self.now in
    packet_feed (m.wire (g.D.Configured.setup s.machine)) (Follows m.stands (m.wire (g.D.Configured.setup s.machine)) s.machine s.from) c.args.feed c.in-Packet.packet (ap items_of c.in-Packet.is)

pub returns-else-counts-clause-stops : goal.returns-else-counts-clause-stops
returns-else-counts-clause-stops g c =
    let m = g.D.PacketMachine in
    let s = c.args.self.now in
    packet_feed (m.wire (g.D.Configured.setup s.machine)) (Follows m.stands (m.wire (g.D.Configured.setup s.machine)) s.machine s.from) c.args.feed c.in-Packet.packet (ap items_of c.in-Packet.is)

pub returns-in-Run-clause-stops : goal.returns-in-Run-clause-stops
returns-in-Run-clause-stops g c =
    let m = g.D.PacketMachine in
    let s = c.args.self.now in
    run_feed (m.wire (g.D.Configured.setup s.machine)) (Follows m.stands (m.wire (g.D.Configured.setup s.machine)) s.machine s.from) c.args.feed (samples c.in-Run.field-0) (ap items_of c.in-Run.is)

pub returns-in-End-clause-stops : goal.returns-in-End-clause-stops
returns-in-End-clause-stops g c =
    let m = g.D.PacketMachine in
    let s = c.args.self.now in
    end_feed (m.wire (g.D.Configured.setup s.machine)) (Follows m.stands (m.wire (g.D.Configured.setup s.machine)) s.machine s.from) c.args.feed (ap items_of c.in-End.is)

pub returns-in-From-clause-stops : goal.returns-in-From-clause-stops
returns-in-From-clause-stops g c =
    let m = g.D.PacketMachine in
    let s = c.args.self.now in
    end_feed (m.wire (g.D.Configured.setup s.machine)) (Follows m.stands (m.wire (g.D.Configured.setup s.machine)) s.machine s.from) c.args.feed (ap items_of c.in-From.is)
