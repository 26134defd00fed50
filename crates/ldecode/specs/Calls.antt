-- What the calls of a run ask of the settings, and what a decoding says.
use Rattle.std.specs.Prelude.{ℕ, ◌≡◌, ◌≤◌, List, Option, Result, IfErr, IfOk, IfSome, length}
use Rattle.std.specs.String.{string_bytes}
use Rattle.capture_any.specs.declared.end.ListingEnd.{ListingEnd}
use Rattle.note_order.specs.declared.entry.Entry.{Entry}
use Rattle.words.specs.Readable.{IsReadable, IsShort}
use Rattle.words.specs.Settings.{Values}
use Rattle.words.specs.declared.settings.Settings.{Settings}
use Rattle.run_status.specs.Causes.{HasCauses}
use Rattle.run_status.specs.declared.status.Status.{Status}
use Rattle.run_asks.specs.Refusing.{RefusesOn}
use Rattle.ldecode.specs.Headline.{DecodesOn}
use Rattle.ldecode.specs.Watching.{IsSeen, IsSeenFront}

-- settings are as words are read: as many as their job takes, and none too long
pub record AreRead (settings : Settings) : Type 0 where
  pub readable : IsReadable settings.job settings.chains.items
  pub shown : IfSome settings.show IsShort
  pub binary : IfSome settings.binary IsShort
  pub checkpoint : IfSome settings.from (λ text. length (string_bytes text) ≤ 4096)

-- a decoding wrote what was asked for, and what looks on saw its notes; one that couldn't begin wrote
-- nothing, and nothing was seen
pub record DecodesAs {K W : Type 0} (values : Values) (saw : W → List Entry → Type 0)
    (written : K → Option (List ℕ)) (left_old left_new : Option (List ℕ)) (sink_old sink_new : K)
    (watch_old watch_new : W) (ended : Result ListingEnd Status) : Type 0 where
  pub decodes : IfOk ended (DecodesOn values
      (IsSeen (saw watch_new) (written sink_old) (written sink_new))
      (IsSeenFront (saw watch_new) (written sink_old) (written sink_new)) left_old left_new)
  pub refuses : IfErr ended (RefusesOn values left_old left_new)
  pub untouched : IfErr ended (λ _. (sink_new ≡ sink_old) × (watch_new ≡ watch_old))

-- a status has its cause in what became of the source and of the sink, over words that may have named
-- a capture without a head
abbrev pub CausedOn : {S K : Type 0} → Type 0 → (S → ℕ) → (K → ℕ) → S → S → K → K → Status → Type 0
CausedOn headless source_faults sink_faults source_old source_new sink_old sink_new status =
    HasCauses headless (source_new ≡ source_old) (source_faults source_old)
    (source_faults source_new) (sink_faults sink_old) (sink_faults sink_new) status
