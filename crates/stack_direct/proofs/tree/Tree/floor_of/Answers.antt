use Rattle.decoder_core.specs.laws.PacketLaws.{from_nought}
use Rattle.stack_direct.proofs.tree.Tree.floor_of.Goals as goal

pub returns-clause-floor : goal.returns-clause-floor
returns-clause-floor g c = λ input stand more new is. (c.floor_over.ensures.floor input stand more new (from_nought more) is).0

pub returns-clause-near : goal.returns-clause-near
returns-clause-near g c = λ input stand. c.floor_over.ensures.near input stand
