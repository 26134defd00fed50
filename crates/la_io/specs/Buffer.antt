-- A buffer before a sink that was lent.
use Rattle.std.specs.Prelude.{◌≡◌, ℕ, List, ◌++◌, Option}
use Rattle.std.specs.Io.KnownBytes.{Appends, append_known}
use Rattle.la_io.specs.Onward.{Onward}
use Rattle.la_io.specs.declared.buffered.Buffered.{Buffered}

-- the bytes that it got and hasn't handed on
abbrev pub held_by : {K : Type 0} → Buffered K → List ℕ
held_by buffer = buffer.held

-- the sink behind it
abbrev pub behind : {K : Type 0} → Buffered K → K
behind buffer = buffer.sink.now

-- what it got: what the sink got, and then what it holds
abbrev pub got_by : {K : Type 0} → (K → Option (List ℕ)) → Buffered K → Option (List ℕ)
got_by written buffer = append_known (written (behind buffer)) (held_by buffer)

-- the same sink is behind it, and that only went on
abbrev pub BufferGoesOn : {K : Type 0} → (K → Option (List ℕ)) → (K → K → Type 0) → Buffered K
    → Buffered K → Type 0
BufferGoesOn written goes_on old new =
    (new.sink.ghost_name ≡ old.sink.ghost_name) × Onward written goes_on (behind old) (behind new)

-- a front of what was held went to the sink, and the rest is still held
pub record HandsOn {K : Type 0} (written : K → Option (List ℕ))
    (old new : Buffered K) : Type 0 where
  pub sent : List ℕ
  pub split : held_by old ≡ sent ++ held_by new
  pub got : Appends (written (behind old)) (written (behind new)) sent
