use Rattle.std.proofs.Common.{◌≡◌, drop}
use Rattle.packet_walks.specs.Transactions.{from_first}
use Rattle.reference_devices.proofs.transactions.from_first.Given as goal

abbrev pub invariant-loop-place : goal.invariant-loop-place
invariant-loop-place g l = from_first (g.D.Transacts.device l.device).begins (drop l.place l.packets) ≡ from_first (g.D.Transacts.device l.device).begins l.packets
