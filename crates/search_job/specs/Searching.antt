-- What a search does: the status that its words, its capture and its failures give, and what is
-- written with it.
use Rattle.std.specs.Prelude.{ℕ, ◌≡◌, ◌≢◌, ◌⊎◌, List, [], Option}
use Rattle.std.specs.Io.KnownBytes.{Appends, Consumes}
use Rattle.la_io.specs.Capture.{Told}
use Rattle.capture_any.specs.Captures.{TakesNoMemory, ToldAt}
use Rattle.capture_any.specs.Listings.{Says}
use Rattle.capture_any.specs.declared.end.ListingEnd.{ListingEnd}
use Rattle.capture_any.specs.declared.end.ListingEnd.TheVariants.{NoMemory as Short}
use Rattle.find_job.specs.Finding.{WholeListing, ListingFront}
use Rattle.wait_cond.specs.declared.alt.Alt.{Alt}
use Rattle.words.specs.Settings.{Values}
use Rattle.run_status.specs.Notices.{status_of}
use Rattle.run_status.specs.declared.status.Status.{Status}
use Rattle.run_asks.specs.Asking.{AsksFor, ReadHead}
use Rattle.run_asks.specs.Refusing.{Refuses}

-- the search that the values ask for came to this end; for want of memory only over a form whose
-- samples take some
pub record Searched (values : Values) (bytes : List ℕ) (told : Told) (old new : Option (List ℕ))
    (end : ListingEnd) : Type 0 where
  pub head : ReadHead values bytes told
  pub pins : List ℕ
  pub alts : List Alt
  pub asks : AsksFor values head.names pins alts
  pub says : Says head.form pins (λ samples. WholeListing samples alts old new)
      (λ samples. ListingFront samples alts old new) bytes told end
  pub memory : TakesNoMemory head.form → end ≢ Short

-- what a status says of a search: it came to the end of this status; or it couldn't begin, and
-- nothing was written
abbrev pub SearchTells : Values → List ℕ → Told → Option (List ℕ) → Option (List ℕ) → Status
    → Type 0
SearchTells values bytes told old new status =
    ((end : ListingEnd) × (status ≡ status_of end) × Searched values bytes told old new end)
    ⊎ (Refuses values bytes told status × Appends old new [])

-- the same of a search that took these bytes of its source, whose end it was told or not
pub record SearchesOn (values : Values) (left_old left_new old new : Option (List ℕ))
    (status : Status) : Type 0 where
  pub bytes : List ℕ
  pub told : Told
  pub taken : Consumes left_old left_new bytes
  pub at_end : ToldAt told left_new
  pub searched : SearchTells values bytes told old new status
