use Rattle.std.proofs.Common.{arith, sym, ◌∙◌}
use Rattle.std.proofs.lemmas.Bool.Decides.{nat_tests}
use Rattle.view_store.proofs.Bounds.{none_before, none_behind}
use Rattle.view_store.proofs.block.Block.meets.Goals as goal

pub returns-then-self-start : goal.returns-then-self-start
returns-then-self-start c = λ same. none_behind c.args.self.now.first c.args.self.now.last c.args.start c.args.end _ c.args.self.now.within (omega (arith, c.if-self-start.true))

pub returns : goal.returns
returns c = λ apart. none_before c.args.self.now.first c.args.self.now.last c.args.start c.args.end _ c.args.self.now.within (grind (arith, nat_tests))
