-- How a buffer's bytes are handed on behind a decoding.
use Rattle.std.specs.Prelude.{◌≡◌, ◌≢◌, ◌⊎◌, []}
use Rattle.la_io.specs.Buffer.{HandsOn, behind, held_by}
use Rattle.la_io.specs.declared.buffered.Buffered.{Buffered}
use Rattle.la_io.specs.declared.outside.Sink.{Ghosts as SinkGhosts}
use Rattle.capture_any.specs.Listings.{Fails}

-- a write had failed before: nothing is done. `broken` is the end that says so
pub record Left {K E : Type 0} (broken : E) (old new : Buffered K) (end result : E) : Type 0 where
  pub was : end ≡ broken
  pub is : result ≡ broken
  pub same : new ≡ old

module _ {K E : Type 0} (k : SinkGhosts K) (broken : E) (old new : Buffered K) (end result : E)
  where
    -- a write failed now
    pub record Broke : Type 0 where
      pub was : end ≢ broken
      pub is : result ≡ broken
      pub handed : HandsOn k.written old new
      pub failed : Fails (k.faults (behind old)) (k.faults (behind new))

    -- all was handed on
    pub record Went : Type 0 where
      pub was : end ≢ broken
      pub is : result ≡ end
      pub handed : HandsOn k.written old new
      pub whole : held_by new ≡ []
      pub kept : k.faults (behind new) ≡ k.faults (behind old)

    -- what a buffer held is handed on to the same sink, unless a write had failed
    pub record Flushes : Type 0 where
      pub same : new.sink.ghost_name ≡ old.sink.ghost_name
      pub does : Left broken old new end result ⊎ Broke ⊎ Went
