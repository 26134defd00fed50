use Rattle.std.proofs.KnownBytes.{append_known-moved}
use Rattle.la_io.specs.Buffer.{held_by, behind}
use Rattle.la_io.proofs.buffered.BufferedSink.hand_on.Goals as goal

pub returns-clause-bytes : goal.returns-clause-bytes
returns-clause-bytes g c =
    let k = g.K.Sink in
    let old = c.args.self.now in
    let new = c.flush.new.self in
    let handed = c.flush.ensures.handed in
    append_known-moved (k.written (behind old)) (k.written (behind new)) handed.sent (held_by new) (held_by old) handed.got handed.split
