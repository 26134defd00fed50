-- What a search says of a sink, where it wrote through a buffer before it.
use Rattle.std.proofs.Common.{◌≡◌, ◌≢◌, ℕ, ◌≤◌, List, Option, refl, ◌∙◌, ap, subst, arith}
use Rattle.std.specs.Io.KnownBytes.{Appends}
use Rattle.la_io.specs.Causes.{AppendsFront, Rose}
use Rattle.wait_cond.specs.declared.alt.Alt.{Alt}
use Rattle.capture_any.specs.Listings.{Fails, ReadCause, WriteCause}
use Rattle.capture_any.specs.declared.end.ListingEnd.{ListingEnd}
use Rattle.capture_any.specs.declared.end.ListingEnd.TheVariants.{Done, Read, Write, Fault, NoMemory}
use Rattle.find_job.specs.Finding.{ListingFront, WholeListing}

module _ (alts : List Alt) (old mid from new : Option (List ℕ)) where
  -- of what went to the buffer whole a front went over
  pub cut_over : ((bytes : List ℕ) → Appends old mid bytes → AppendsFront from new bytes) → (samples : List ℕ) → WholeListing samples alts old mid → ListingFront samples alts from new
  cut_over over samples whole = record {
    stops = whole.stops;
    to = whole.all.to;
    first = whole.all.chain;
    written = over _ whole.written;
  }

  -- of what went to the buffer as a front a front went over
  pub front_over : ((bytes : List ℕ) → AppendsFront old mid bytes → AppendsFront from new bytes) → (samples : List ℕ) → ListingFront samples alts old mid → ListingFront samples alts from new
  front_over over samples front = record {
    stops = front.stops;
    to = front.to;
    first = front.first;
    written = over _ front.written;
  }

-- a sink that went on behind a buffer went on
pub goes_through : {K : Type 0} (goes_on : K → K → Type 0) (old first last new : K) → first ≡ old → goes_on first last → last ≡ new → goes_on old new
goes_through {K} goes_on old first last new from inner to = subst (λ (k : K). goes_on old k) to (subst (λ (k : K). goes_on k last) from inner)

-- a source's count never falls
pub read_later : (before now : ℕ) (end : ListingEnd) → ReadCause before now end → before ≤ now
read_later before now Done c = omega (arith, c)
read_later before now Read c = c.0
read_later before now Write c = c
read_later before now (Fault fault) c = omega (arith, c)
read_later before now NoMemory c = c

-- a sink's count stays where the end isn't Write
pub write_kept : (before now : ℕ) (end : ListingEnd) → end ≢ Write → WriteCause before now end → now ≡ before
write_kept before now Done other c = c
write_kept before now Read other c = c
write_kept before now Write other c = absurd (other refl)
write_kept before now (Fault fault) other c = c
write_kept before now NoMemory other c = c

-- a count that stayed, and then rose
pub fails_through : {K : Type 0} (faults : K → ℕ) (old first mid last new : K) → first ≡ old → faults mid ≡ faults first → faults mid ≤ faults last → Rose (faults mid) (faults last) → last ≡ new → Fails (faults old) (faults new)
fails_through faults old first mid last new from kept later rose to =
    let start = kept ∙ ap faults from in
    subst (λ (n : ℕ). Fails (faults old) n) (ap faults to) (subst (λ (n : ℕ). Fails n (faults last)) start (later, rose))
