use Rattle.std.proofs.Common.{rules}
use Rattle.la_io.specs.Buffer.{behind}
use Rattle.la_io.proofs.Buffering.{all_handed, front_through, front_handed}
use Rattle.capture_any.proofs.ListingLemmas.{lists_cut, lists_on}
use Rattle.la_io.proofs.Fronts.{front_whole}
use Rattle.find_job.proofs.Handing.{fails_through, goes_through, read_later, write_kept, front_over, cut_over}
use Rattle.listing_out.specs.StopLines.{lines_of}
use Rattle.capture_any.specs.declared.end.ListingEnd.TheVariants.{Write}
use Rattle.find_job.proofs.search.find_buffered.Goals as goal

pub returns-in-Write-clause-finds : goal.returns-in-Write-clause-finds
returns-in-Write-clause-finds g c = λ before told at stands.
    let k = g.K.Sink in
    let first = c.new-buffered in
    lists_cut _ _ _ _ before told _ _ _
    (front_over _ _ _ _ _ (λ bytes front. front_through k.written k.goes_on first.result c.args.sink.now _ bytes first.ensures.sink first.ensures.empty c.find.new.sink front c.in-Write.ensures.goes_on (search rules)))
    (cut_over _ _ _ _ _ (λ bytes all. front_through k.written k.goes_on first.result c.args.sink.now _ bytes first.ensures.sink first.ensures.empty c.find.new.sink (front_whole _ _ bytes all) c.in-Write.ensures.goes_on (search rules)))
    _ (c.in-Write.ensures.finds before told at stands) _ Write tt

pub returns-in-Err : goal.returns-in-Err
returns-in-Err g c =
    let k = g.K.Sink in
    let first = c.new-buffered in
    record {
      finds = λ before told at stands.
          lists_cut _ _ _ _ before told _ _ _
          (front_over _ _ _ _ _ (λ bytes front. front_handed k.written k.goes_on first.result c.args.sink.now _ bytes first.ensures.sink first.ensures.empty c.find.new.sink c.flush.new.self front c.find.ensures.goes_on c.in-Err.ensures.handed (search rules)))
          (cut_over _ _ _ _ _ (λ bytes all. front_handed k.written k.goes_on first.result c.args.sink.now _ bytes first.ensures.sink first.ensures.empty c.find.new.sink c.flush.new.self (front_whole _ _ bytes all) c.find.ensures.goes_on c.in-Err.ensures.handed (search rules)))
          _ (c.find.ensures.finds before told at stands) _ Write tt;
      read = read_later _ _ c.find.result c.find.ensures.read;
      write = fails_through k.faults c.args.sink.now (behind first.result) (behind c.find.new.sink) (behind c.flush.new.self) _ first.ensures.sink
          (write_kept _ _ c.find.result c.in_default.not-Write c.find.ensures.write) c.in-Err.ensures.cause.later c.in-Err.ensures.cause.failed (search rules);
      memory = λ takes_none e. cc;
      goes_on = goes_through k.goes_on _ _ _ _ first.ensures.sink (g.met.K.Sink.goes_on_further _ _ _ c.find.ensures.goes_on.1.inner c.in-Err.ensures.goes_on.1.inner) (search rules);
      form = c.find.ensures.form;
      pins = c.find.ensures.pins;
    }

pub returns-in-Ok-clause-finds : goal.returns-in-Ok-clause-finds
returns-in-Ok-clause-finds g c = λ before told at stands.
    let k = g.K.Sink in
    let first = c.new-buffered in
    lists_on _ _ _ _ before told _ _ _
    (front_over _ _ _ _ _ (λ bytes front. front_handed k.written k.goes_on first.result c.args.sink.now _ bytes first.ensures.sink first.ensures.empty c.find.new.sink c.flush.new.self front c.find.ensures.goes_on c.in-Ok.ensures.handed (search rules)))
    _ (λ given w. record { stops = w.stops; all = w.all; written = all_handed k.written k.goes_on first.result c.args.sink.now _ (lines_of w.stops) first.ensures.sink first.ensures.empty c.find.new.sink c.flush.new.self w.written c.in-Ok.ensures.handed c.in-Ok.ensures.whole (search rules) })
    c.find.result (c.find.ensures.finds before told at stands)

pub returns-in-Write-clause-goes_on : goal.returns-in-Write-clause-goes_on
returns-in-Write-clause-goes_on g c = goes_through g.K.Sink.goes_on _ _ _ _ c.new-buffered.ensures.sink c.in-Write.ensures.goes_on.1.inner (search rules)

pub returns-in-Ok-clause-goes_on : goal.returns-in-Ok-clause-goes_on
returns-in-Ok-clause-goes_on g c = goes_through g.K.Sink.goes_on _ _ _ _ c.new-buffered.ensures.sink (g.met.K.Sink.goes_on_further _ _ _ c.find.ensures.goes_on.1.inner c.in-Ok.ensures.goes_on.1.inner) (search rules)
