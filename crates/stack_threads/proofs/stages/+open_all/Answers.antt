use Rattle.std.proofs.Common.{◌≡◌, ◌∙◌, ◌++◌, [], ◌∷◌, ℕ, length, sym, subst}
use Rattle.std.proofs.lemmas.List.{length-map}
use Rattle.stage_ring.specs.Link.{tx_link}
use Rattle.stage_run.specs.Stages.{Means, blank, links}
use Rattle.stack_threads.specs.Stages.{HasEnds, IsOpened}
use Rattle.stack_threads.specs.Wires.{ends_links}
use Rattle.stack_threads.proofs.Opening.{as_many_children, put_more, zip_more}
use Rattle.stack_threads.proofs.stages.+open_all.Goals as goal

pub returns-clause-stages : goal.returns-clause-stages
returns-clause-stages g t c =
    let made = c.open_all.ensures.stages in
    let s = c.open.result in
    let items = c.in-Some-pop.end.children.items in
    let many : length items ≡ length (links s).children = sym (as_many_children s (ends_links c.in-Some-pop.end) c.open.ensures.links ∙ length-map items tx_link) in (
      made.0 ++ s ∷ [],
      put_more c.args.stages.now.items c.open_all.new.stages.items c.push_reserved.new.self.items made.0 s made.1 c.push_reserved.ensures.items,
      zip_more (IsOpened g.M.Machine) c.args.machines.items c.pop.new.self.items c.in-Some.machine made.0 s c.in-Some.ensures.items made.2
          (record { setup = c.open.ensures.setup; means = λ start stands. subst (λ (n : ℕ). Means g.M.Machine start s (blank n)) many (c.open.ensures.means start stands) }),
      zip_more HasEnds c.args.ends.items c.pop-2.new.self.items c.in-Some-pop.end made.0 s c.in-Some-pop.ensures.items made.3 c.open.ensures.links,
    )
