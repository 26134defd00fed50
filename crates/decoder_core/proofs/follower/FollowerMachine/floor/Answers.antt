use Rattle.std.proofs.Common.{ℕ, max, ◌≤◌, ap, sym, subst, ◌∙◌, arith}
use Rattle.decoder_core.specs.laws.PacketLaws.{floor_followed}
use Rattle.decoder_core.specs.Packets.{IsPacketFloor, counted_packets, last_start}
use Rattle.decoder_core.proofs.follower.FollowerMachine.floor.Goals as goal

-- the place from which on all that count start is the larger of two: where the last that counted
-- starts, and the place that is promised
pub returns-clause-floor : goal.returns-clause-floor
returns-clause-floor g c = λ input d.
    let m = g.D.PacketMachine in
    let s = c.args.self.now.machine in
    let wire = m.wire (g.D.Configured.setup s) in
    let outs = m.outs (g.D.Configured.setup s) in
    let had = counted_packets wire input in
    let from = c.max.ensures ∙ ap (λ (n : ℕ). max n c.args.above) d.last_is in
    floor_followed wire outs input c.args.above c.floor.result
    (subst (λ (n : ℕ). IsPacketFloor wire outs had n c.floor.result) from
    (c.floor.ensures.floor had d.machine_stands (subst (λ (n : ℕ). last_start 0 had ≤ n) (sym from) (omega arith))))

pub returns-clause-near : goal.returns-clause-near
returns-clause-near g c = λ input d.
    let m = g.D.PacketMachine in
    let s = c.args.self.now.machine in
    let wire = m.wire (g.D.Configured.setup s) in
    let had = counted_packets wire input in
    let from = c.max.ensures ∙ ap (λ (n : ℕ). max n c.args.above) d.last_is in
    subst (λ (n : ℕ). m.near (g.D.Configured.setup s) had n ≤ c.floor.result) from
    (c.floor.ensures.near had d.machine_stands (subst (λ (n : ℕ). last_start 0 had ≤ n) (sym from) (omega arith)))
