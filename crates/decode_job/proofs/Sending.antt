-- A capture that is lent with its source goes to the thread that reads it, where the source may go.
use mir.Syntax.{Lifetime}
use base.Fml.{Lft}
use denote.RattleType.{RattleType}
use denote.Param.Send.{IsSend, sendable}
use denote.Param.SendFields.{declared_send}
use denote.Struct.Declared.{row}
use Rattle.std.proofs.Crossing.{crosses}
use Rattle.decode_job.specs.contracts.capture_feed.CaptureFeed.{the_type}

pub feed_sent : (a b : Lifetime) (x y : Lft) (R : RattleType) → IsSend R → IsSend (row (the_type (record { mir = a; lft = x }) (record { mir = b; lft = y }) R))
feed_sent a b x y R s =
    declared_send (the_type (record { mir = a; lft = x }) (record { mir = b; lft = y }) R) (search (crosses, sendable) depth 60 fits 20000, (search (crosses, sendable) depth 60 fits 20000, (search (crosses, sendable) depth 60 fits 20000, (search (crosses, sendable) depth 60 fits 20000, (search (crosses, sendable) depth 60 fits 20000, (search (crosses, sendable) depth 60 fits 20000, tt))))))
