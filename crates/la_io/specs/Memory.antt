-- The parts of sources and sinks in memory.
use Rattle.std.specs.Prelude.{ℕ, ◌≡◌, List, Vec, Result, Ok, Err}
use Rattle.std.specs.declared.alloc.Global.{Global}
use Rattle.la_io.specs.Kept.{Place}
use Rattle.la_io.specs.Plans.{next_call, next_byte, bytes_on}
use Rattle.la_io.specs.declared.memory.MemSource.{MemSource}
use Rattle.la_io.specs.declared.memory.MemSink.{MemSink}

-- the pieces of a source
abbrev pub pieces_of : MemSource → List (Vec ℕ Global)
pieces_of source = source.pieces.items

-- where it stands in them
abbrev pub place_of : MemSource → Place
place_of source = record { piece = source.piece; byte = source.at }

-- the numbers of its calls that fail, and that of its next call
abbrev pub source_fails : MemSource → List ℕ
source_fails source = source.fails.items

abbrev pub source_call : MemSource → ℕ
source_call source = source.calls

-- a read leaves a source behind the bytes that it gave, in the piece that has them, and behind
-- pieces of which nothing was left; or, where it failed, where it stood
abbrev pub StandsBehind : {E : Type 0} → MemSource → MemSource → Result ℕ E → Type 0
StandsBehind old new (Ok count) =
    place_of new ≡ bytes_on (next_byte (pieces_of old) (place_of old)) count
StandsBehind old new (Err failed) = place_of new ≡ place_of old

-- a call of a source: its pieces and its calls that fail stay
pub record SourceCalled (old new : MemSource) : Type 0 where
  pub pieces : pieces_of new ≡ pieces_of old
  pub fails : source_fails new ≡ source_fails old
  pub call : source_call new ≡ next_call (source_call old)

-- how many bytes a sink takes at once, and how many it has room for
abbrev pub sink_most : MemSink → ℕ
sink_most sink = sink.most

abbrev pub sink_room : MemSink → ℕ
sink_room sink = sink.room

-- the numbers of its calls that fail, and that of its next call
abbrev pub sink_fails : MemSink → List ℕ
sink_fails sink = sink.fails.items

abbrev pub sink_call : MemSink → ℕ
sink_call sink = sink.calls

-- a call of a sink: what it takes at once and its calls that fail stay
pub record SinkCalled (old new : MemSink) : Type 0 where
  pub most : sink_most new ≡ sink_most old
  pub fails : sink_fails new ≡ sink_fails old
  pub call : sink_call new ≡ next_call (sink_call old)
