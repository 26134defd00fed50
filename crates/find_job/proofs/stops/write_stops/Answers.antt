use Rattle.std.proofs.Common.{◌++◌, refl, ◌∙◌, ap, subst, Option, arith}
use Rattle.la_base.specs.Samples.{samples}
use Rattle.la_base.specs.declared.samples.Run.{Run}
use Rattle.wait_cond.specs.Waiting.{alts_of, rest_len}
use Rattle.find_job.proofs.Going.{Going, going_starts, going_met, going_cut, going_through, going_ends}
use Rattle.find_job.proofs.stops.write_stops.Goals as goal

pub loop-at-init : goal.loop-at-init
loop-at-init g c = record {
  room = refl;
  alts = refl;
  going = λ list stops w chain. going_starts list c.args.run stops c.args.waiter.now (g.K.Sink.written c.args.sink.now) w chain;
  faults = refl;
  goes_on = g.met.K.Sink.goes_on_still c.args.sink.now;
}

pub returns-in-Err-clause-written : goal.returns-in-Err-clause-written
returns-in-Err-clause-written g c = λ list stops w chain.
    let k = g.K.Sink in
    let i = c.loop-at.invariant in
    let alts = alts_of c.args.waiter.now in
    let all = list ++ samples c.args.run in
    let old = k.written c.args.sink.now in
    let line = c.in-Err.ensures.front in
    going_cut alts all stops c.loop-at.waiter c.loop-at.left old (k.written c.loop-at.sink) (i.going list stops w chain) i.alts c.scan.new.self c.in-Met.at c.in-Met.value c.in-Met.met c.in-Met.rest c.in-Met.ensures.scanned (k.written c.write.new.sink) line

-- the stop was the last sample
pub returns-in-None-clause-written : goal.returns-in-None-clause-written
returns-in-None-clause-written g c = λ list stops w chain.
    let k = g.K.Sink in
    let i = c.loop-at.invariant in
    let alts = alts_of c.args.waiter.now in
    let all = list ++ samples c.args.run in
    let old = k.written c.args.sink.now in
    let now = k.written c.write.new.sink in
    let line = c.in-Ok.ensures.whole in
    let met = going_met alts all stops c.loop-at.waiter c.loop-at.left old (k.written c.loop-at.sink) (i.going list stops w chain) i.alts c.scan.new.self c.in-Met.at c.in-Met.value c.in-Met.met c.in-Met.rest c.in-Met.ensures.scanned now line in
    going_ends alts all stops c.scan.new.self old now (subst (λ (o : Option Run). Going alts all stops c.scan.new.self o old now) c.in-None.is met)

pub returns-in-None-clause-consumed : goal.returns-in-None-clause-consumed
returns-in-None-clause-consumed g c =
    let counts = c.in-Met.ensures.counts in
    omega (arith, c.loop-at.invariant.room, counts.left, counts.consumed, ap rest_len c.in-None.is)

pub rests-requires : goal.rests-requires
rests-requires g c =
    let counts = c.in-Met.ensures.counts in
    omega (arith, c.loop-at.invariant.room, c.requires, counts.left, counts.consumed, ap rest_len c.in-Some.is)

pub pass-requires : goal.pass-requires
pass-requires g c =
    let counts = c.in-Met.ensures.counts in
    omega (arith, c.loop-at.invariant.room, c.requires, counts.left, counts.consumed, ap rest_len c.in-Some.is)

-- no stop is in what is left behind it
pub returns-then-rests-clause-written : goal.returns-then-rests-clause-written
returns-then-rests-clause-written g c = λ list stops w chain.
    let k = g.K.Sink in
    let i = c.loop-at.invariant in
    let alts = alts_of c.args.waiter.now in
    let all = list ++ samples c.args.run in
    let old = k.written c.args.sink.now in
    let now = k.written c.write.new.sink in
    let line = c.in-Ok.ensures.whole in
    let met = going_met alts all stops c.loop-at.waiter c.loop-at.left old (k.written c.loop-at.sink) (i.going list stops w chain) i.alts c.scan.new.self c.in-Met.at c.in-Met.value c.in-Met.met c.in-Met.rest c.in-Met.ensures.scanned now line in
    going_ends alts all stops c.pass.new.self old now
    (going_through alts all stops c.scan.new.self c.in-Some.more old now (subst (λ (o : Option Run). Going alts all stops c.scan.new.self o old now) c.in-Some.is met) (c.in-Met.ensures.alts ∙ i.alts) c.pass.new.self
    (λ samples waits. (c.pass.ensures.waits samples waits (c.if-rests.ensures.none refl samples waits), c.pass.ensures.counts.from)))

pub returns-then-rests-clause-consumed : goal.returns-then-rests-clause-consumed
returns-then-rests-clause-consumed g c =
    let counts = c.in-Met.ensures.counts in
    omega (arith, c.loop-at.invariant.room, counts.left, counts.consumed, ap rest_len c.in-Some.is, c.pass.ensures.counts.consumed)

pub loop-at-smaller : goal.loop-at-smaller
loop-at-smaller g c =
    let counts = c.in-Met.ensures.counts in
    omega (arith, counts.left, counts.behind, ap rest_len c.in-Some.is)

pub loop-at-preserved : goal.loop-at-preserved
loop-at-preserved g c =
    let k = g.K.Sink in
    let i = c.loop-at.invariant in
    let counts = c.in-Met.ensures.counts in
    record {
      room = omega (arith, i.room, counts.left, counts.consumed, ap rest_len c.in-Some.is);
      alts = c.in-Met.ensures.alts ∙ i.alts;
      going = λ list stops w chain.
          let alts = alts_of c.args.waiter.now in
          let all = list ++ samples c.args.run in
          let old = k.written c.args.sink.now in
          let now = k.written c.write.new.sink in
          let line = c.in-Ok.ensures.whole in
          let met = going_met alts all stops c.loop-at.waiter c.loop-at.left old (k.written c.loop-at.sink) (i.going list stops w chain) i.alts c.scan.new.self c.in-Met.at c.in-Met.value c.in-Met.met c.in-Met.rest c.in-Met.ensures.scanned now line in
          subst (λ (o : Option Run). Going alts all stops c.scan.new.self o old now) c.in-Some.is met;
      faults = c.in-Ok.ensures.cause.kept ∙ i.faults;
      goes_on = g.met.K.Sink.goes_on_further _ _ _ i.goes_on c.in-Ok.ensures.goes_on;
    }

pub returns-in-Through-clause-written : goal.returns-in-Through-clause-written
returns-in-Through-clause-written g c = λ list stops w chain.
    let k = g.K.Sink in
    let i = c.loop-at.invariant in
    let alts = alts_of c.args.waiter.now in
    let all = list ++ samples c.args.run in
    let old = k.written c.args.sink.now in
    let now = k.written c.loop-at.sink in
    going_ends alts all stops c.scan.new.self old now (going_through alts all stops c.loop-at.waiter c.loop-at.left old now (i.going list stops w chain) i.alts c.scan.new.self c.in-Through.ensures.scanned)

pub returns-in-Err-clause-goes_on : goal.returns-in-Err-clause-goes_on
returns-in-Err-clause-goes_on g c = g.met.K.Sink.goes_on_further _ _ _ c.loop-at.invariant.goes_on c.in-Err.ensures.goes_on

pub returns-in-None-clause-goes_on : goal.returns-in-None-clause-goes_on
returns-in-None-clause-goes_on g c = g.met.K.Sink.goes_on_further _ _ _ c.loop-at.invariant.goes_on c.in-Ok.ensures.goes_on
