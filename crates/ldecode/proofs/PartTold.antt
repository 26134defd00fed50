-- What the decoding of a part comes to, as a run tells it.
use Rattle.std.proofs.Common.{◌≡◌, ◌≤◌, ◌+◌, ◌-◌, ℕ, List, ◌++◌, map, length, take, Option, refl, sym, ap, subst, ◌∙◌, inl, inr, arith}
use Rattle.std.specs.Io.KnownBytes.{Appends}
use Rattle.std.proofs.lemmas.List.{take_all}
use Rattle.la_io.specs.Capture.{Told}
use Rattle.la_io.specs.Causes.{AppendsFront}
use Rattle.capture_any.specs.Captures.{capture_of}
use Rattle.capture_any.specs.Listings.{OfAll, OfFewer, ReadCause, SettledFront, WriteCause}
use Rattle.capture_any.specs.declared.end.ListingEnd.TheVariants.{Done, Fault, NoMemory, Read, Write}
use Rattle.capture_any.specs.declared.form.Form.{Form}
use Rattle.check_laws.specs.Resuming.{IsCheckOn}
use Rattle.check_point.specs.Checks.{check_line}
use Rattle.decoder_core.specs.declared.machine.Machine.{Ghosts as MachineGhosts}
use Rattle.stack_words.specs.declared.stack.Stack.{Stack}
use Rattle.decode_job.specs.Parting.{Behind, CutsCheck, PartReadCause, PartSays, PartWriteCause, WritesAll as JobAll, WritesCheck, WritesFront as JobFront, WritesUpTo, output_behind, room_behind}
use Rattle.decode_job.specs.declared.part_end.PartEnd.{PartEnd}
use Rattle.decode_job.specs.declared.part_end.PartEnd.TheVariants.{Ended, Past}
use Rattle.run_asks.specs.Parting.{most_samples}
use Rattle.ldecode.specs.PartStatus.{end_of_part}
use Rattle.ldecode.specs.Parts.{PartEnds, PartWrites, WritesAll, WritesFront, WritesListing, within}

pub part_read : (before now : ℕ) (end : PartEnd) → PartReadCause before now end → ReadCause before now (end_of_part end)
part_read before now (Ended end) cause = cause
part_read before now Past cause = cause

pub part_write : (before now : ℕ) (end : PartEnd) → PartWriteCause before now end → WriteCause before now (end_of_part end)
part_write before now (Ended end) cause = cause
part_write before now Past cause = cause

module _ {M Q : Type 0} (m : MachineGhosts M Q) (machines : List M) (parents : List (Option ℕ)) (stack : Stack) (count : ℕ) (saves : M → List ℕ → Type 0) (kinds : List ℕ) (few : count ≤ most_samples) (old new : Option (List ℕ)) (form : Form) (pins bytes : List ℕ) (told : Told) where
  abbrev Told_as : PartEnd → Type 0
  Told_as = PartSays (WritesCheck m machines parents stack count old new saves kinds) (JobAll m machines parents stack count old new) (JobFront m machines parents stack count old new) (CutsCheck m machines parents stack count old new saves kinds) (WritesUpTo m machines parents stack count old new) form pins bytes told

  abbrev settled : List ℕ
  settled = (capture_of form pins bytes told).settled

  stays : length settled ≤ room_behind count → count + length settled ≤ most_samples
  stays fits = omega (arith, fits, few)

  pub part_ended : (end : PartEnd) → Told_as end → PartEnds form pins count bytes told (end_of_part end)
  part_ended (Ended Done) s = (s.0, s.1, stays s.2.fits)
  part_ended (Ended Read) s = s.0
  part_ended (Ended Write) s = tt
  part_ended (Ended (Fault fault)) s = inr (s.0, stays s.1.fits)
  part_ended (Ended NoMemory) s = tt
  part_ended Past s = inl (refl, let past = s.past in omega (arith, past, few))

  -- behind samples on which the machines stand, with their listing and their checkpoints by other names
  module _ (listing : List ℕ → List ℕ → List ℕ) (IsCheck : List ℕ → List ℕ → Type 0) (gives : (earlier samples : List ℕ) → output_behind m machines parents stack earlier samples ≡ listing earlier samples)
      (checks : (check samples : List ℕ) → IsCheckOn m.setup m.outputs m.consumed saves kinds parents (map m.setup machines) check samples → IsCheck check samples) (earlier : List ℕ) (behind : Behind m machines parents count earlier) where
    -- no more samples come than may
    all_within : (samples : List ℕ) → length samples ≤ room_behind count → within earlier samples ≡ samples
    all_within samples fits = let many = behind.many in take_all (most_samples - length earlier) samples (omega (arith, many, fits))

    listed : (samples : List ℕ) → JobAll m machines parents stack count old new samples → WritesListing listing IsCheck earlier old new samples
    listed samples all = subst (Appends old new) (gives earlier samples ∙ ap (listing earlier) (sym (all_within samples all.fits))) (all.written earlier behind)

    same_front : (samples : List ℕ) → output_behind m machines parents stack earlier (take (room_behind count) samples) ≡ listing earlier (within earlier samples)
    same_front samples = gives earlier (take (room_behind count) samples) ∙ ap (λ (n : ℕ). listing earlier (take (most_samples - n) samples)) (sym behind.many)

    fronted : (samples : List ℕ) → JobFront m machines parents stack count old new samples → WritesFront listing IsCheck earlier old new samples
    fronted samples front = subst (AppendsFront old new) (same_front samples) (front earlier behind)

    settled_front : SettledFront form pins (JobFront m machines parents stack count old new) bytes told → SettledFront form pins (WritesFront listing IsCheck earlier old new) bytes told
    settled_front (OfAll front) = OfAll (fronted _ front)
    settled_front (OfFewer n less wants front) = OfFewer n less wants (fronted _ front)

    checked : WritesCheck m machines parents stack count old new saves kinds settled → WritesAll listing IsCheck earlier old new Appends settled
    checked all =
        let c = all.written earlier behind in
        record {
          bytes = c.bytes;
          check = checks c.bytes (earlier ++ settled) c.check;
          wrote = subst (λ (l : List ℕ). Appends old new (l ++ check_line c.bytes)) (gives earlier settled) c.written;
        }

    cut : CutsCheck m machines parents stack count old new saves kinds settled → WritesAll listing IsCheck earlier old new AppendsFront settled
    cut all =
        let c = all.written earlier behind in
        record {
          bytes = c.bytes;
          check = checks c.bytes (earlier ++ settled) c.check;
          wrote = subst (λ (l : List ℕ). AppendsFront old new (l ++ check_line c.bytes)) (gives earlier settled) c.front;
        }

    pub part_wrote : (end : PartEnd) → Told_as end → PartWrites listing IsCheck earlier old new form pins bytes told (end_of_part end)
    part_wrote (Ended Done) s = checked s.2
    part_wrote (Ended Read) s = listed settled s.1
    part_wrote (Ended Write) (inl s) = inl (settled_front s)
    part_wrote (Ended Write) (inr s) = inr (s.1, subst (λ (n : ℕ). n + length settled ≤ most_samples) (sym behind.many) (stays s.2.fits), cut s.2)
    part_wrote (Ended (Fault fault)) s = listed settled s.1
    part_wrote (Ended NoMemory) s = inl (settled_front s)
    part_wrote Past s = subst (Appends old new) (same_front settled) (s.written earlier behind)
