use Rattle.std.proofs.Common.{rules, arith, refl}
use Rattle.decode_job.specs.Decoding.{notes, output}
use Rattle.decode_job.proofs.Flushing.{through}
use Rattle.decode_job.proofs.Handing.{nothing_done}
use Rattle.decode_job.proofs.job.decode.Goals as goal

pub returns-in-Err-clause-decodes : goal.returns-in-Err-clause-decodes
returns-in-Err-clause-decodes g c = record {
  lists = λ before told at stands new.
      let m = g.M.Machine in
      let s = g.S.Source in
      let k = g.K.Sink in
      let machines = c.args.tree.machines.items in
      nothing_done c.args.capture.now before told (s.left c.args.source.now) (k.written c.args.sink.now) (output m s k c.args.tree.stack.now machines c.args.tree.parents.now) (notes m s k c.args.tree.stack.now machines c.args.tree.parents.now) (g.W.Watch.saw c.args.watch) c.requires.unseen at stands;
  read = omega arith;
  write = refl;
}

pub returns-clause-decodes : goal.returns-clause-decodes
returns-clause-decodes g c =
    let listed = c.list_here-end in
    let decodes = listed.ensures.decodes in
    through g.M.Machine g.S.Source g.K.Sink c.args.tree.stack.now c.args.tree.machines.items c.args.tree.parents.now c.args.capture.now c.args.source.now listed.new.source (g.W.Watch.saw listed.result.1) c.args.sink.now _ c.new-buffered.result listed.new.sink c.hand_on.new.buffered c.new-buffered.ensures.sink c.new-buffered.ensures.empty
    listed.ensures.goes_on (λ same. search rules) listed.result.0 c.hand_on.result decodes.lists decodes.read decodes.write c.hand_on.ensures

pub returns-clause-origin : goal.returns-clause-origin
returns-clause-origin g c = c.list_here-end.ensures.origin_is
