use Rattle.std.proofs.Common.{◌++◌, refl}
use Rattle.la_base.specs.Samples.{samples}
use Rattle.wait_cond.specs.Waiting.{alts_of}
use Rattle.find_job.proofs.Going.{going_starts, going_through, going_ends}
use Rattle.find_job.proofs.stops.write_run.Goals as goal

pub returns-then-passes-clause-written : goal.returns-then-passes-clause-written
returns-then-passes-clause-written g c = λ list stops w chain.
    let alts = alts_of c.args.waiter.now in
    let all = list ++ samples c.args.run in
    let old = g.K.Sink.written c.args.sink.now in
    going_ends alts all stops c.pass.new.self old old
    (going_through alts all stops c.args.waiter.now c.args.run old old (going_starts list c.args.run stops c.args.waiter.now old w chain) refl c.pass.new.self
    (λ samples waits. (c.pass.ensures.waits samples waits (c.if-passes.ensures.none refl samples waits), c.pass.ensures.counts.from)))
