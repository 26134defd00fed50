use Rattle.std.proofs.Common.{◌∷◌, [], ◌++◌}
use Rattle.stack_threads.specs.Stages.{Parted}
use Rattle.stack_threads.proofs.Opening.{over_last, put_more, zip_more}
use Rattle.stack_threads.proofs.stages.+take_apart.Goals as goal

pub into_parts-requires : goal.into_parts-requires
into_parts-requires g t c = over_last c.pop.new.self.items c.args.stages.items c.in-Some.stage c.in-Some.ensures.items c.requires.over

pub returns-clause-parts : goal.returns-clause-parts
returns-clause-parts g t c =
    let made = c.take_apart.ensures.parts in
    let p = c.into_parts.result in (
      made.0 ++ p ∷ [],
      put_more c.args.parts.now.items c.take_apart.new.parts.items c.push_reserved.new.self.items made.0 p made.1 c.push_reserved.ensures.items,
      zip_more (Parted g.M.Machine) c.args.stages.items c.pop.new.self.items c.in-Some.stage made.0 p c.in-Some.ensures.items made.2
          (record { same_links = c.into_parts.ensures.links; setup = c.into_parts.ensures.setup; means = c.into_parts.ensures.means }),
    )
