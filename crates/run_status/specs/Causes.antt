-- What a status says of its causes: whether anything was read, and which stream failed.
use Rattle.std.specs.Prelude.{ℕ, ◌≡◌, ◌≤◌}
use Rattle.capture_any.specs.Listings.{Fails}
use Rattle.run_status.specs.declared.status.Status.{Status}
use Rattle.run_status.specs.declared.status.Status.TheVariants.{Done, Words, Stack, Bind, ReadFault}
use Rattle.run_status.specs.declared.status.Status.TheVariants.{Check, Capture, WriteFault, NoMemory}

-- ReadFault comes only where the source failed; where it failed it is this, WriteFault or NoMemory
abbrev pub SourceCause : ℕ → ℕ → Status → Type 0
SourceCause before now Done = now ≡ before
SourceCause before now (Words fault) = now ≡ before
SourceCause before now (Stack fault) = now ≡ before
SourceCause before now (Bind fault) = now ≡ before
SourceCause before now (Check fault) = now ≡ before
SourceCause before now ReadFault = Fails before now
SourceCause before now (Capture fault) = now ≡ before
SourceCause before now WriteFault = before ≤ now
SourceCause before now NoMemory = before ≤ now

-- WriteFault comes exactly where the sink failed
abbrev pub SinkCause : ℕ → ℕ → Status → Type 0
SinkCause before now Done = now ≡ before
SinkCause before now (Words fault) = now ≡ before
SinkCause before now (Stack fault) = now ≡ before
SinkCause before now (Bind fault) = now ≡ before
SinkCause before now (Check fault) = now ≡ before
SinkCause before now ReadFault = now ≡ before
SinkCause before now (Capture fault) = now ≡ before
SinkCause before now WriteFault = Fails before now
SinkCause before now NoMemory = now ≡ before

-- what holds where nothing was read: behind a fault of words or stack, and behind one of binding
-- or of a checkpoint where the head takes no bytes
abbrev pub WhereUnread : Type 0 → Status → Type 0 → Type 0
WhereUnread NoHead Done P = Unit {0}
WhereUnread NoHead (Words fault) P = P
WhereUnread NoHead (Stack fault) P = P
WhereUnread NoHead (Bind fault) P = NoHead → P
WhereUnread NoHead (Check fault) P = NoHead → P
WhereUnread NoHead ReadFault P = Unit {0}
WhereUnread NoHead (Capture fault) P = Unit {0}
WhereUnread NoHead WriteFault P = Unit {0}
WhereUnread NoHead NoMemory P = Unit {0}

-- a status has its causes: where it is a refusal nothing was read, and it says whether the source
-- failed, and whether the sink did
pub record HasCauses (NoHead Unread : Type 0) (read_old read_new write_old write_new : ℕ)
    (status : Status) : Type 0 where
  pub unread : WhereUnread NoHead status Unread
  pub read : SourceCause read_old read_new status
  pub write : SinkCause write_old write_new status
