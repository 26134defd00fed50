use Rattle.std.proofs.Common.{refl}
use Rattle.std.proofs.Math.Nat.{le_refl}
use Rattle.la_base.specs.declared.wires.Out.TheVariants.{Packet as PacketOut}
use Rattle.decoder_core.proofs.Ordered.{same_span}
use Rattle.decoder_core.proofs.outputs.packet_at.Goals as goal

pub returns : goal.returns
returns c = same_span c.args.at (λ start order. PacketOut (record { kind = c.args.kind; start = start; end = c.args.at; a = c.args.a; b = 0; in_order = order })) _ _ refl _ (le_refl c.args.at)
