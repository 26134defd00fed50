-- A part through a buffer, with its checkpoint.
use Rattle.std.proofs.Common.{◌≡◌, ◌≢◌, ◌⊎◌, ◌≤◌, ◌+◌, ℕ, List, [], ◌++◌, map, length, length-append, take, Option, refl, sym, ap, subst, ◌∙◌, inl, inr, arith}
use Rattle.std.proofs.Math.Path.{transport}
use Rattle.std.specs.Io.KnownBytes.{Appends}
use Rattle.std.proofs.lemmas.List.{take_all}
use Rattle.la_io.specs.Buffer.{BufferGoesOn, behind, got_by, held_by}
use Rattle.la_io.specs.Capture.{Told}
use Rattle.la_io.specs.Causes.{AppendsFront}
use Rattle.la_io.specs.Onward.{onward_further}
use Rattle.la_io.specs.Grown.{appends_on}
use Rattle.la_io.specs.declared.buffered.Buffered.{Buffered}
use Rattle.la_io.specs.declared.outside.Sink.{Ghosts as SinkGhosts}
use Rattle.la_io.specs.declared.outside.Source.{Ghosts as SourceGhosts}
use Rattle.la_io.proofs.Buffering.{all_handed, front_handed, front_through}
use Rattle.la_io.proofs.Fronts.{front_longer, front_on, front_whole}
use Rattle.capture_any.specs.Captures.{ToldAt}
use Rattle.capture_any.specs.Listings.{Fails, OfAll, OfFewer, SettledFront}
use Rattle.capture_any.specs.Reading.{Stands, form_of, pins_of}
use Rattle.capture_any.specs.declared.capture.Capture.{Capture}
use Rattle.capture_any.specs.declared.end.ListingEnd.TheVariants.{Done, Fault, NoMemory, Read, Write}
use Rattle.capture_any.specs.declared.form.Form.{Form}
use Rattle.check_point.specs.Checks.{IsCheckOf, check_line}
use Rattle.decoder_core.specs.declared.machine.Machine.{Ghosts as MachineGhosts}
use Rattle.stack_words.specs.declared.stack.Stack.{Stack}
use Rattle.decode_job.specs.Flushing.{Broke, Flushes, Left, Went}
use Rattle.decode_job.specs.PartRunning.{Checks, ListsAll, ListsPart}
use Rattle.decode_job.specs.Parting.{Behind, ChecksBehind, CutsBehind, CutsCheck, DecodesPart, PartLists, PartReadCause, PartSays, PartWriteCause, WritesAll, WritesCheck, WritesFront, WritesUpTo, output_behind, room_behind}
use Rattle.decode_job.specs.Seen.{WritesFrontSeen}
use Rattle.decode_job.specs.declared.part_end.PartEnd.{PartEnd}
use Rattle.decode_job.specs.declared.part_end.PartEnd.TheVariants.{Ended, Past}
use Rattle.decode_job.proofs.Ends.{kept_cause}
use Rattle.decode_job.proofs.FeedLemmas.{cause_rises}
use Rattle.decode_job.proofs.Handing.{fails_through, nothing_done, write_kept}
use Rattle.decode_job.proofs.Relisting.{as_part, part_on}

-- causes
pub part_rises : (end : PartEnd) (before now : ℕ) → PartReadCause before now end → before ≤ now
part_rises (Ended end) before now cause = cause_rises end before now cause
part_rises Past before now cause = omega (arith, cause)

pub part_write_kept : (before now : ℕ) (end : PartEnd) → end ≢ Ended Write → PartWriteCause before now end → now ≡ before
part_write_kept before now (Ended end) other cause = write_kept before now end (λ is. other (ap Ended is)) cause
part_write_kept before now Past other cause = cause

pub part_kept_cause : (end : PartEnd) (before now : ℕ) → end ≢ Ended Write → now ≡ before → PartWriteCause before now end
part_kept_cause (Ended end) before now other kept = kept_cause end before now (λ is. other (ap Ended is)) kept
part_kept_cause Past before now other kept = kept

settled_on : (form : Form) (pins : List ℕ) (Front More : List ℕ → Type 0) → ((l : List ℕ) → Front l → More l) → (bytes : List ℕ) (told : Told) → SettledFront form pins Front bytes told → SettledFront form pins More bytes told
settled_on form pins Front More on bytes told (OfAll front) = OfAll (on _ front)
settled_on form pins Front More on bytes told (OfFewer count less wants front) = OfFewer count less wants (on _ front)

module _ {M Q : Type 0} (m : MachineGhosts M Q) (machines : List M) (parents : List (Option ℕ)) (stack : Stack) (count : ℕ) (saves : M → List ℕ → Type 0) (kinds : List ℕ) where
  abbrev Lists : Option (List ℕ) → Option (List ℕ) → Form → List ℕ → List ℕ → Told → Option (List ℕ) → Option (List ℕ) → PartEnd → Type 0
  Lists old new = PartLists (WritesCheck m machines parents stack count old new saves kinds) (WritesAll m machines parents stack count old new) (WritesFront m machines parents stack count old new) (CutsCheck m machines parents stack count old new saves kinds) (WritesUpTo m machines parents stack count old new)

  abbrev SaysAt : Option (List ℕ) → Option (List ℕ) → Form → List ℕ → List ℕ → Told → PartEnd → Type 0
  SaysAt old new = PartSays (WritesCheck m machines parents stack count old new saves kinds) (WritesAll m machines parents stack count old new) (WritesFront m machines parents stack count old new) (CutsCheck m machines parents stack count old new saves kinds) (WritesUpTo m machines parents stack count old new)

  -- what was written is written otherwise
  module _ (old new old_to new_to : Option (List ℕ)) (fronts : (out : List ℕ) → AppendsFront old new out → AppendsFront old_to new_to out) where
    front_to : (l : List ℕ) → WritesFront m machines parents stack count old new l → WritesFront m machines parents stack count old_to new_to l
    front_to l front earlier stands = fronts _ (front earlier stands)

    cut_to : (l : List ℕ) → CutsCheck m machines parents stack count old new saves kinds l → CutsCheck m machines parents stack count old_to new_to saves kinds l
    cut_to l cuts = record {
      fits = cuts.fits;
      written = λ earlier stands.
          let c = cuts.written earlier stands in
          record { bytes = c.bytes; check = c.check; front = fronts _ c.front };
    }

    -- whole where it was whole
    module _ (wholes : (out : List ℕ) → Appends old new out → Appends old_to new_to out) where
      check_to : (l : List ℕ) → WritesCheck m machines parents stack count old new saves kinds l → WritesCheck m machines parents stack count old_to new_to saves kinds l
      check_to l checks = record {
        fits = checks.fits;
        written = λ earlier stands.
            let c = checks.written earlier stands in
            record { bytes = c.bytes; check = c.check; written = wholes _ c.written };
      }

      all_to : (l : List ℕ) → WritesAll m machines parents stack count old new l → WritesAll m machines parents stack count old_to new_to l
      all_to l all = record { fits = all.fits; written = λ earlier stands. wholes _ (all.written earlier stands) }

      says_to : (form : Form) (pins bytes : List ℕ) (told : Told) (end : PartEnd) → SaysAt old new form pins bytes told end → SaysAt old_to new_to form pins bytes told end
      says_to form pins bytes told (Ended Done) s = (s.0, s.1, check_to _ s.2)
      says_to form pins bytes told (Ended Read) s = (s.0, all_to _ s.1)
      says_to form pins bytes told (Ended Write) (inl s) = inl (settled_on form pins (WritesFront m machines parents stack count old new) (WritesFront m machines parents stack count old_to new_to) front_to bytes told s)
      says_to form pins bytes told (Ended Write) (inr s) = inr (s.0, s.1, cut_to _ s.2)
      says_to form pins bytes told (Ended (Fault fault)) s = (s.0, all_to _ s.1)
      says_to form pins bytes told (Ended NoMemory) s = settled_on form pins (WritesFront m machines parents stack count old new) (WritesFront m machines parents stack count old_to new_to) front_to bytes told s
      says_to form pins bytes told Past s = record { past = s.past; written = λ earlier stands. wholes _ (s.written earlier stands) }

      pub part_to : (form : Form) (pins before : List ℕ) (then : Told) (left_old left_new : Option (List ℕ)) (end : PartEnd) → Lists old new form pins before then left_old left_new end → Lists old_to new_to form pins before then left_old left_new end
      part_to form pins before then left_old left_new end lists = part_on lists (λ bytes told. says_to form pins bytes told end)

    -- a front of it, as behind a write that failed
    module _ (cuts : (out : List ℕ) → Appends old new out → AppendsFront old_to new_to out) where
      check_cut : (l : List ℕ) → WritesCheck m machines parents stack count old new saves kinds l → CutsCheck m machines parents stack count old_to new_to saves kinds l
      check_cut l checks = record {
        fits = checks.fits;
        written = λ earlier stands.
            let c = checks.written earlier stands in
            record { bytes = c.bytes; check = c.check; front = cuts _ c.written };
      }

      all_cut : (l : List ℕ) → WritesAll m machines parents stack count old new l → WritesFront m machines parents stack count old_to new_to l
      all_cut l all earlier stands =
          subst (λ (list : List ℕ). AppendsFront old_to new_to (output_behind m machines parents stack earlier list)) (sym (take_all (room_behind count) l all.fits)) (cuts _ (all.written earlier stands))

      says_cut : (form : Form) (pins bytes : List ℕ) (told : Told) (end : PartEnd) → SaysAt old new form pins bytes told end → SaysAt old_to new_to form pins bytes told (Ended Write)
      says_cut form pins bytes told (Ended Done) s = inr (s.0, s.1, check_cut _ s.2)
      says_cut form pins bytes told (Ended Read) s = inl (OfAll (all_cut _ s.1))
      says_cut form pins bytes told (Ended Write) (inl s) = inl (settled_on form pins (WritesFront m machines parents stack count old new) (WritesFront m machines parents stack count old_to new_to) front_to bytes told s)
      says_cut form pins bytes told (Ended Write) (inr s) = inr (s.0, s.1, cut_to _ s.2)
      says_cut form pins bytes told (Ended (Fault fault)) s = inl (OfAll (all_cut _ s.1))
      says_cut form pins bytes told (Ended NoMemory) s = inl (settled_on form pins (WritesFront m machines parents stack count old new) (WritesFront m machines parents stack count old_to new_to) front_to bytes told s)
      says_cut form pins bytes told Past s = inl (OfAll (λ earlier stands. cuts _ (s.written earlier stands)))

      pub part_cut : (form : Form) (pins before : List ℕ) (then : Told) (left_old left_new : Option (List ℕ)) (end : PartEnd) → Lists old new form pins before then left_old left_new end → Lists old_to new_to form pins before then left_old left_new (Ended Write)
      part_cut form pins before then left_old left_new end lists = part_on lists (λ bytes told. says_cut form pins bytes told end)

module _ {M Q S : Type 0} (m : MachineGhosts M Q) (saves : M → List ℕ → Type 0) (s : SourceGhosts S) (stack : Stack) (machines : List M) (kinds : List ℕ) (parents : List (Option ℕ)) (count : ℕ) (capture : Capture) (source_old source_new : S) where
  -- with the checkpoint behind the listing
  module _ {K : Type 0} (k : SinkGhosts K) (machines_now : List M) (same_setups : map m.setup machines_now ≡ map m.setup machines) (old mid new : K) (end result : PartEnd) (given samples : ℕ) (number : samples ≡ count + given)
      (listed : ListsPart m s k stack machines machines_now parents count capture source_old source_new old mid end given) where
    abbrev Says_mid : List ℕ → Told → PartEnd → Type 0
    Says_mid bytes told e = PartSays (ListsAll m s k stack machines machines_now parents count (k.written old) (k.written mid) given) (WritesAll m machines parents stack count (k.written old) (k.written mid)) (WritesFront m machines parents stack count (k.written old) (k.written mid)) (λ settled. ⊥)
        (WritesUpTo m machines parents stack count (k.written old) (k.written mid)) (form_of capture) (pins_of capture) bytes told e

    abbrev Says_to : K → List ℕ → Told → PartEnd → Type 0
    Says_to at bytes told e = SaysAt m machines parents stack count saves kinds (k.written old) (k.written at) (form_of capture) (pins_of capture) bytes told e

    abbrev Done_of : K → PartEnd → Type 0
    Done_of at e = DecodesPart m saves s k stack machines kinds parents count capture source_old source_new old at e

    -- with other words
    part_of : (at : K) (e : PartEnd) → ((bytes : List ℕ) (told : Told) → Says_mid bytes told end → Says_to at bytes told e) → PartReadCause (s.faults source_old) (s.faults source_new) e → PartWriteCause (k.faults old) (k.faults at) e → Done_of at e
    part_of at e says read write = record {
      lists = λ before told at_told stands. part_on (listed.lists before told at_told stands) says;
      read = read;
      write = write;
    }

    not_checked : (e : PartEnd) → e ≢ Ended Done → (bytes : List ℕ) (told : Told) → Says_mid bytes told e → Says_to mid bytes told e
    not_checked (Ended Done) other bytes told says = absurd (other refl)
    not_checked (Ended Read) other bytes told says = says
    not_checked (Ended Write) other bytes told (inl says) = inl says
    not_checked (Ended Write) other bytes told (inr says) = absurd says.2
    not_checked (Ended (Fault fault)) other bytes told says = says
    not_checked (Ended NoMemory) other bytes told says = says
    not_checked Past other bytes told says = says

    -- the bytes of a checkpoint are one behind all samples
    module _ (settled bytes : List ℕ) (all : ListsAll m s k stack machines machines_now parents count (k.written old) (k.written mid) given settled) (check : IsCheckOf saves samples kinds machines_now bytes) (earlier : List ℕ) (stands : Behind m machines parents count earlier) where
      is_number : samples ≡ length (earlier ++ settled)
      is_number = let n = all.number in let c = stands.many in omega (arith, number, n, c, length-append earlier settled)

      check_here : IsCheckOf saves (length (earlier ++ settled)) kinds machines_now bytes
      check_here = subst (λ (n : ℕ). IsCheckOf saves n kinds machines_now bytes) is_number check

      pub checks_behind : Appends (k.written mid) (k.written new) (check_line bytes) → ChecksBehind m machines parents stack count (k.written old) (k.written new) saves kinds earlier settled
      checks_behind line = record {
        bytes = bytes;
        check = record { machines = machines_now; setups_are = same_setups; stand = all.stand earlier stands; check = check_here };
        written = appends_on (k.written old) (k.written mid) (k.written new) (output_behind m machines parents stack earlier settled) (check_line bytes) (output_behind m machines parents stack earlier settled ++ check_line bytes) (all.all.written earlier stands) line refl;
      }

      pub cuts_behind : AppendsFront (k.written mid) (k.written new) (check_line bytes) → CutsBehind m machines parents stack count (k.written old) (k.written new) saves kinds earlier settled
      cuts_behind line = record {
        bytes = bytes;
        check = record { machines = machines_now; setups_are = same_setups; stand = all.stand earlier stands; check = check_here };
        front = front_on (k.written old) (k.written mid) (k.written new) (output_behind m machines parents stack earlier settled) (check_line bytes) (all.all.written earlier stands) line;
      }

    pub checked_part : Checks k saves samples kinds machines_now mid new end result → Done_of new result
    checked_part (inl none) =
        subst (λ (e : PartEnd). Done_of new e) (sym none.is) (subst (λ (at : K). Done_of at end) (sym none.same) (part_of mid end (not_checked end none.was) listed.read listed.write))
    checked_part (inr (inl c)) =
        let read : PartReadCause (s.faults source_old) (s.faults source_new) (Ended Done) = subst (λ (e : PartEnd). PartReadCause (s.faults source_old) (s.faults source_new) e) c.was listed.read in
        let write : PartWriteCause (k.faults old) (k.faults mid) (Ended Done) = subst (λ (e : PartEnd). PartWriteCause (k.faults old) (k.faults mid) e) c.was listed.write in
        subst (λ (e : PartEnd). Done_of new e) (sym c.is)
        (part_of new (Ended Done) (λ bytes told says.
        let done = subst (λ (e : PartEnd). Says_mid bytes told e) c.was says in
        (done.0, done.1, record { fits = done.2.all.fits; written = λ earlier stands. checks_behind _ c.bytes done.2 c.check earlier stands c.whole })) read (c.kept ∙ write))
    checked_part (inr (inr c)) =
        let read : PartReadCause (s.faults source_old) (s.faults source_new) (Ended Done) = subst (λ (e : PartEnd). PartReadCause (s.faults source_old) (s.faults source_new) e) c.was listed.read in
        let write : PartWriteCause (k.faults old) (k.faults mid) (Ended Done) = subst (λ (e : PartEnd). PartWriteCause (k.faults old) (k.faults mid) e) c.was listed.write in
        subst (λ (e : PartEnd). Done_of new e) (sym c.is)
        (part_of new (Ended Write) (λ bytes told says.
        let done = subst (λ (e : PartEnd). Says_mid bytes told e) c.was says in
        inr (done.0, done.1, record { fits = done.2.all.fits; written = λ earlier stands. cuts_behind _ c.bytes done.2 c.check earlier stands c.front })) (part_rises (Ended Done) _ _ read) (subst (λ (n : ℕ). Fails n (k.faults new)) write c.failed))

  -- through a buffer before the sink
  module _ {K : Type 0} (k : SinkGhosts K) (old new : K) (first mid last : Buffered K) (from : behind first ≡ old) (empty : held_by first ≡ []) (on : BufferGoesOn k.written k.goes_on first mid) (ends : last.sink.ghost_name ≡ first.sink.ghost_name → behind last ≡ new)
      (end result : PartEnd) where
    abbrev Had : Type 0
    Had = (before : List ℕ) (told : Told) → ToldAt told (s.left source_old) → Stands capture before told []
        → Lists m machines parents stack count saves kinds (got_by k.written first) (got_by k.written mid) (form_of capture) (pins_of capture) before told (s.left source_old) (s.left source_new) end

    abbrev Has : PartEnd → Type 0
    Has e = DecodesPart m saves s k stack machines kinds parents count capture source_old source_new old new e

    pub part_through : Had → PartReadCause (s.faults source_old) (s.faults source_new) end → PartWriteCause (k.faults (behind first)) (k.faults (behind mid)) end → Flushes k (Ended Write) mid last end result → Has result
    part_through had read write flushes = by (ends (flushes.same ∙ on.0)) flushes.does
      where
        by : behind last ≡ new → Left (Ended Write) mid last end result ⊎ Broke k (Ended Write) mid last end result ⊎ Went k (Ended Write) mid last end result → Has result
        by to (inl left) =
            let same : behind mid ≡ new = ap behind (sym left.same) ∙ to in
            subst Has (sym left.is) (record {
              lists = λ before told at stands.
                  part_cut m machines parents stack count saves kinds (got_by k.written first) (got_by k.written mid) (k.written old) (k.written new)
                  (λ out front. front_through k.written k.goes_on first old new out from empty mid front on same)
                  (λ out all. front_through k.written k.goes_on first old new out from empty mid (front_whole (got_by k.written first) (got_by k.written mid) out all) on same)
                  (form_of capture) (pins_of capture) before told (s.left source_old) (s.left source_new) end (had before told at stands);
              read = part_rises end (s.faults source_old) (s.faults source_new) read;
              write = subst (λ (n : ℕ). Fails (k.faults old) n) (ap k.faults same) (subst (λ (n : ℕ). Fails n (k.faults (behind mid))) (ap k.faults from) (subst (λ (e : PartEnd). PartWriteCause (k.faults (behind first)) (k.faults (behind mid)) e) left.was write));
            })
        by to (inr (inl broke)) = subst Has (sym broke.is) (record {
          lists = λ before told at stands.
              part_cut m machines parents stack count saves kinds (got_by k.written first) (got_by k.written mid) (k.written old) (k.written new)
              (λ out front. front_handed k.written k.goes_on first old new out from empty mid last front on broke.handed to)
              (λ out all. front_handed k.written k.goes_on first old new out from empty mid last (front_whole (got_by k.written first) (got_by k.written mid) out all) on broke.handed to)
              (form_of capture) (pins_of capture) before told (s.left source_old) (s.left source_new) end (had before told at stands);
          read = part_rises end (s.faults source_old) (s.faults source_new) read;
          write = fails_through k.faults old (behind first) (behind mid) (behind last) new from (part_write_kept (k.faults (behind first)) (k.faults (behind mid)) end broke.was write) broke.failed.0 broke.failed.1 to;
        })
        by to (inr (inr went)) = subst Has (sym went.is) (record {
          lists = λ before told at stands.
              part_to m machines parents stack count saves kinds (got_by k.written first) (got_by k.written mid) (k.written old) (k.written new)
              (λ out front. front_handed k.written k.goes_on first old new out from empty mid last front on went.handed to)
              (λ out all. all_handed k.written k.goes_on first old new out from empty mid last all went.handed went.whole to)
              (form_of capture) (pins_of capture) before told (s.left source_old) (s.left source_new) end (had before told at stands);
          read = read;
          write = part_kept_cause end (k.faults old) (k.faults new) went.was (ap k.faults (sym to) ∙ (went.kept ∙ (part_write_kept (k.faults (behind first)) (k.faults (behind mid)) end went.was write ∙ ap k.faults from)));
        })

  -- for want of memory nothing was done
  pub part_not_done : {K : Type 0} (k : SinkGhosts K) (sink : K) → source_new ≡ source_old → DecodesPart m saves s k stack machines kinds parents count capture source_old source_new sink sink (Ended NoMemory)
  part_not_done k sink same =
      let left = s.left source_old in
      let written = k.written sink in
      subst (λ (now : S). DecodesPart m saves s k stack machines kinds parents count capture source_old now sink sink (Ended NoMemory)) (sym same)
      (record {
        lists = λ before told at stands.
            as_part (nothing_done capture before told left written (λ l. []) (λ l. []) (λ notes. Unit {0}) tt at stands)
            (settled_on (form_of capture) (pins_of capture) (λ l. WritesFrontSeen (λ notes. Unit {0}) written written [] []) (WritesFront m machines parents stack count written written)
            (λ l front earlier behind_these. front_longer written written [] (output_behind m machines parents stack earlier (take (room_behind count) l)) front.front));
        read = omega arith;
        write = refl;
      })

-- a buffer went on, and then further
pub buffer_further : {K : Type 0} (k : SinkGhosts K) → ((a b c : K) → k.goes_on a b → k.goes_on b c → k.goes_on a c) → (a b c : Buffered K) → BufferGoesOn k.written k.goes_on a b → BufferGoesOn k.written k.goes_on b c → BufferGoesOn k.written k.goes_on a c
buffer_further k further a b c first second =
    (second.0 ∙ first.0, onward_further k.written k.goes_on (behind a) (behind b) (behind c) first.1 second.1 (further (behind a) (behind b) (behind c) first.1.inner second.1.inner))

-- the same values by other names
pub parts_moved : {M Q S K : Type 0} (m : MachineGhosts M Q) (s : SourceGhosts S) (k : SinkGhosts K) (machines machines_now : List M) (parents : List (Option ℕ)) (count : ℕ)
    {stack stack_to : Stack} {capture capture_to : Capture} {old old_to new new_to : S} {first first_to last last_to : K} {end end_to : PartEnd} {given given_to : ℕ}
    → stack ≡ stack_to → capture ≡ capture_to → old ≡ old_to → new ≡ new_to → first ≡ first_to → last ≡ last_to → end ≡ end_to → given ≡ given_to
    → ListsPart m s k stack machines machines_now parents count capture old new first last end given → ListsPart m s k stack_to machines machines_now parents count capture_to old_to new_to first_to last_to end_to given_to
parts_moved m s k machines machines_now parents count a b c d e f g h lists = transport (λ i. ListsPart m s k (a i) machines machines_now parents count (b i) (c i) (d i) (e i) (f i) (g i) (h i)) lists
