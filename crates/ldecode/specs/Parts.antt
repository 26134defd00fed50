-- What a part of a capture gives, behind the samples of the parts before it.
use Rattle.std.specs.Prelude.{ℕ, ◌≡◌, ◌≤◌, ◌<◌, ◌+◌, ◌-◌, ◌⊎◌, List, [], ◌++◌, length, map}
use Rattle.std.specs.Prelude.{take, Option, Some, None}
use Rattle.std.specs.Io.KnownBytes.{Appends, Consumes}
use Rattle.la_io.specs.Capture.{Told, AtEnd, Cut, Clean, Faulty}
use Rattle.la_io.specs.Causes.{AppendsFront}
use Rattle.la_io.specs.declared.fault.CaptureFault.TheVariants.{Past}
use Rattle.capture_any.specs.Captures.{Later, ToldAt, capture_of}
use Rattle.capture_any.specs.Listings.{SettledFront}
use Rattle.capture_any.specs.declared.end.ListingEnd.{ListingEnd}
use Rattle.capture_any.specs.declared.end.ListingEnd.TheVariants.{Done, Read, Write, Fault}
use Rattle.capture_any.specs.declared.end.ListingEnd.TheVariants.{NoMemory}
use Rattle.capture_any.specs.declared.form.Form.{Form}
use Rattle.check_laws.specs.Resuming.{IsCheckBehind, IsCheckOn}
use Rattle.check_point.specs.Checks.{check_line}
use Rattle.decode_job.specs.Listing.{tree_output_behind}
use Rattle.decoder_core.specs.Trees.{Node}
use Rattle.decoder_set.specs.Opening.{HasConsumed, setup_of}
use Rattle.decoder_set.specs.Setups.{outs_of}
use Rattle.decoder_set.specs.declared.setup.Setup.{Setup}
use Rattle.stack_words.specs.Accepting.{Accepted}
use Rattle.run_asks.specs.Parting.{Saves, most_samples, places_of}

-- what a stack is to write of what samples add to earlier ones
abbrev pub part_listing : Accepted → List (Node Setup) → List ℕ → List ℕ → List ℕ
part_listing accepted nodes earlier samples =
    tree_output_behind outs_of accepted nodes earlier samples

-- the samples of a part that are decoded: as many as may come behind the earlier ones
abbrev pub within : List ℕ → List ℕ → List ℕ
within earlier samples = take (most_samples - length earlier) samples

-- the setups of the decoders of a tree, and the places on which they stand
abbrev pub setups_on : List (Node Setup) → List Setup
setups_on nodes = map (λ node. node.setup) nodes

abbrev pub parents_on : List (Node Setup) → List (Option ℕ)
parents_on nodes = map (λ node. node.parent) nodes

-- bytes are a checkpoint of the decoders of a tree, which stand on these samples
abbrev pub IsCheckAt : Saves → List (Node Setup) → List ℕ → List ℕ → Type 0
IsCheckAt saves nodes bytes samples =
    IsCheckOn setup_of outs_of HasConsumed saves (places_of (setups_on nodes)) (parents_on nodes)
    (setups_on nodes) bytes samples

-- these samples came before a part: none where no word is given, else those behind which the
-- checkpoint with this word was made
abbrev pub CameBefore : Saves → List (Node Setup) → Option (List ℕ) → List ℕ → Type 0
CameBefore saves nodes None earlier = earlier ≡ []
CameBefore saves nodes (Some word) earlier =
    IsCheckBehind setup_of outs_of HasConsumed saves (places_of (setups_on nodes))
    (parents_on nodes) (setups_on nodes) word earlier

-- how the bytes of a part end that were taken, behind so many samples
abbrev pub PartEnds : Form → List ℕ → ℕ → List ℕ → Told → ListingEnd → Type 0
PartEnds form pins earlier bytes told Done =
    (told ≡ AtEnd) × ((capture_of form pins bytes told).ending ≡ Clean)
    × (earlier + length (capture_of form pins bytes told).settled ≤ most_samples)
PartEnds form pins earlier bytes told Read = told ≡ Cut
PartEnds form pins earlier bytes told (Fault fault) =
    ((fault ≡ Past)
    × (most_samples < earlier + length (capture_of form pins bytes told).settled))
    ⊎ (((capture_of form pins bytes told).ending ≡ Faulty fault)
    × (earlier + length (capture_of form pins bytes told).settled ≤ most_samples))
PartEnds form pins earlier bytes told Write = Unit {0}
PartEnds form pins earlier bytes told NoMemory = Unit {0}

-- with this listing of what samples add to earlier ones, and these bytes as a checkpoint behind
-- samples
module _ (listing : List ℕ → List ℕ → List ℕ) (IsCheck : List ℕ → List ℕ → Type 0)
    (earlier : List ℕ) (old new : Option (List ℕ)) where
  -- the listing was written, or a front of it
  abbrev pub WritesListing : List ℕ → Type 0
  WritesListing samples = Appends old new (listing earlier (within earlier samples))

  abbrev pub WritesFront : List ℕ → Type 0
  WritesFront samples = AppendsFront old new (listing earlier (within earlier samples))

  -- the line of the checkpoint behind all samples was written too, or a front of both
  pub record WritesAll (Does : Option (List ℕ) → Option (List ℕ) → List ℕ → Type 0)
      (samples : List ℕ) : Type 0 where
    pub bytes : List ℕ
    pub check : IsCheck bytes (earlier ++ samples)
    pub wrote : Does old new (listing earlier samples ++ check_line bytes)

  -- a front of what is written of a part, behind a clean end with the line of the checkpoint
  abbrev pub PartFront : Form → List ℕ → List ℕ → Told → Type 0
  PartFront form pins bytes told =
      SettledFront form pins WritesFront bytes told
      ⊎ (((capture_of form pins bytes told).ending ≡ Clean)
      × (length earlier + length (capture_of form pins bytes told).settled ≤ most_samples)
      × WritesAll AppendsFront (capture_of form pins bytes told).settled)

  -- what was written of a part, by how it ended
  abbrev pub PartWrites : Form → List ℕ → List ℕ → Told → ListingEnd → Type 0
  PartWrites form pins bytes told Done = WritesAll Appends (capture_of form pins bytes told).settled
  PartWrites form pins bytes told Read = WritesListing (capture_of form pins bytes told).settled
  PartWrites form pins bytes told (Fault fault) =
      WritesListing (capture_of form pins bytes told).settled
  PartWrites form pins bytes told Write = PartFront form pins bytes told
  PartWrites form pins bytes told NoMemory = PartFront form pins bytes told

-- a part was decoded behind the bytes `before`, whose end was told then or not, and so many earlier
-- samples: these bytes were taken, the source told their end or didn't, and the end says what it
-- says of all of them and of what was written
pub record PartLists (saves : Saves) (accepted : Accepted) (nodes : List (Node Setup))
    (from : Option (List ℕ)) (count : ℕ) (form : Form) (pins before : List ℕ) (then : Told)
    (left_old left_new old new : Option (List ℕ)) (end : ListingEnd) : Type 0 where
  pub bytes : List ℕ
  pub told : Told
  pub taken : Consumes left_old left_new bytes
  pub later : Later then bytes told
  pub at_end : ToldAt told left_new
  pub ends : PartEnds form pins count (before ++ bytes) told end
  pub says : (earlier : List ℕ) → CameBefore saves nodes from earlier
      → PartWrites (part_listing accepted nodes) (IsCheckAt saves nodes) earlier old new form pins
      (before ++ bytes) told end
