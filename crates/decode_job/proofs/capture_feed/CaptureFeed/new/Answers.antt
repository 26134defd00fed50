use Rattle.std.proofs.Common.{sym, ap}
use Rattle.decode_job.proofs.FeedLemmas.{feed_starts}
use Rattle.decode_job.proofs.capture_feed.CaptureFeed.new.Goals as goal

pub returns-clause-gave : goal.returns-clause-gave
returns-clause-gave g c =
    feed_starts g.S.Source.left g.S.Source.faults _ c.requires (sym (ap (λ s. s.ghost_name) c.of-first_source.ensures)) (ap (λ s. s.now) c.of-first_capture.ensures) (ap (λ s. s.now) c.of-first_source.ensures)
