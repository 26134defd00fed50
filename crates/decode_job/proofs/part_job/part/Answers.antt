use Rattle.std.proofs.Common.{rules, refl}
use Rattle.decode_job.proofs.Parting.{buffer_further, checked_part, part_not_done, part_through}
use Rattle.decode_job.proofs.part_job.part.Goals as goal

pub returns-in-Err : goal.returns-in-Err
returns-in-Err g c = part_not_done g.M.Machine g.M.Keep.saves g.S.Source c.args.start.now.stack.now c.args.machines.now c.args.start.now.kinds.now c.args.start.now.parents.now c.args.start.now.earlier c.args.capture.now c.args.source.now c.args.source.now g.K.Sink c.args.sink.now refl

pub returns : goal.returns
returns g c =
    let listed = c.list_part-listed in
    let checks = c.check_behind-end in
    let m = g.M.Machine in
    let saves = g.M.Keep.saves in
    let checked = checked_part m saves g.S.Source c.args.start.now.stack.now c.args.machines.now c.args.start.now.kinds.now c.args.start.now.parents.now c.args.start.now.earlier c.args.capture.now c.args.source.now listed.new.source _ listed.new.machines listed.ensures.setups c.new-buffered.result listed.new.sink checks.new.sink listed.result.end checks.result listed.result.given _ refl listed.ensures.lists checks.ensures.checks in
    part_through m saves g.S.Source c.args.start.now.stack.now c.args.machines.now c.args.start.now.kinds.now c.args.start.now.parents.now c.args.start.now.earlier c.args.capture.now c.args.source.now listed.new.source g.K.Sink c.args.sink.now _ c.new-buffered.result checks.new.sink c.hand_part_on.new.buffered c.new-buffered.ensures.sink c.new-buffered.ensures.empty
    (buffer_further g.K.Sink g.met.K.Sink.goes_on_further c.new-buffered.result listed.new.sink checks.new.sink listed.ensures.goes_on checks.ensures.goes_on) (λ same. search rules) checks.result c.hand_part_on.result checked.lists checked.read checked.write c.hand_part_on.ensures
