-- How far the decoding of a part came, before its checkpoint and behind it.
use Rattle.std.specs.Prelude.{ℕ, ◌≡◌, ◌≢◌, ◌⊎◌, Bool, true, false, List, [], ◌++◌, length, map}
use Rattle.std.specs.Prelude.{Option, Some, None}
use Rattle.std.specs.Io.KnownBytes.{Appends}
use Rattle.la_io.specs.Capture.{Told}
use Rattle.la_io.specs.Causes.{AppendsFront}
use Rattle.la_io.specs.declared.outside.Sink.{Ghosts as SinkGhosts}
use Rattle.la_io.specs.declared.outside.Source.{Ghosts as SourceGhosts}
use Rattle.capture_any.specs.Captures.{ToldAt}
use Rattle.capture_any.specs.Listings.{Fails}
use Rattle.capture_any.specs.Reading.{Stands, form_of, pins_of}
use Rattle.capture_any.specs.declared.capture.Capture.{Capture}
use Rattle.capture_any.specs.declared.end.ListingEnd.{ListingEnd}
use Rattle.capture_any.specs.declared.end.ListingEnd.TheVariants.{Done, Write}
use Rattle.check_point.specs.Checks.{IsCheckOf, check_line}
use Rattle.decoder_core.specs.declared.machine.Machine.{Ghosts as MachineGhosts}
use Rattle.tree_runs.specs.Machines.{Stand}
use Rattle.tree_runs.specs.Runs.{StandOn}
use Rattle.note_lister.specs.declared.stop.ListStop.{ListStop}
use Rattle.stack_words.specs.declared.stack.Stack.{Stack}
use Rattle.decode_job.specs.Ending.{end_of_stop}
use Rattle.decode_job.specs.Parting.{Behind, PartLists, PartReadCause, PartWriteCause, WritesAll}
use Rattle.decode_job.specs.Parting.{WritesFront, WritesUpTo}
use Rattle.decode_job.specs.declared.part_end.PartEnd.{PartEnd}
use Rattle.decode_job.specs.declared.part_end.PartEnd.TheVariants.{Ended, Past}

-- how a part ends, by the cause for which its run was stopped, if it was, by whether there were
-- more samples than may come, and by how its capture ended
abbrev pub end_of_part : Option ListStop → Bool → ListingEnd → PartEnd
end_of_part (Some cause) past end = Ended (end_of_stop cause)
end_of_part None true end = Past
end_of_part None false end = Ended end

module _ {M Q S K : Type 0} (m : MachineGhosts M Q) (s : SourceGhosts S) (k : SinkGhosts K)
    (stack : Stack) (machines machines_now : List M) (parents : List (Option ℕ)) (count : ℕ) where
  -- the listing of all samples was written; so many were given, and the machines stand on them
  pub record ListsAll (old new : Option (List ℕ)) (given : ℕ) (settled : List ℕ) : Type 0 where
    pub all : WritesAll m machines parents stack count old new settled
    pub number : given ≡ length settled
    pub stand : (earlier : List ℕ) → Behind m machines parents count earlier
        → StandOn m.outputs (map m.setup machines) parents (Stand m.consumed machines_now)
        (earlier ++ settled)

  -- a part was listed, and no checkpoint was written yet
  pub record ListsPart (capture : Capture) (source_old source_new : S) (sink_old sink_new : K)
      (end : PartEnd) (given : ℕ) : Type 0 where
    pub lists : (before : List ℕ) (told : Told) → ToldAt told (s.left source_old)
        → Stands capture before told []
        → PartLists
        (ListsAll (k.written sink_old) (k.written sink_new) given)
        (WritesAll m machines parents stack count (k.written sink_old) (k.written sink_new))
        (WritesFront m machines parents stack count (k.written sink_old) (k.written sink_new))
        (λ settled. ⊥)
        (WritesUpTo m machines parents stack count (k.written sink_old) (k.written sink_new))
        (form_of capture) (pins_of capture) before told (s.left source_old) (s.left source_new) end
    pub read : PartReadCause (s.faults source_old) (s.faults source_new) end
    pub write : PartWriteCause (k.faults sink_old) (k.faults sink_new) end

module _ {M K : Type 0} (k : SinkGhosts K) (saves : M → List ℕ → Type 0) (samples : ℕ)
    (kinds : List ℕ) (machines : List M) (old new : K) (end result : PartEnd) where
  -- the capture didn't end well: nothing was done
  pub record ChecksNot : Type 0 where
    pub was : end ≢ Ended Done
    pub is : result ≡ end
    pub same : new ≡ old

  -- the line of a checkpoint was written
  pub record ChecksAll : Type 0 where
    pub was : end ≡ Ended Done
    pub is : result ≡ Ended Done
    pub bytes : List ℕ
    pub check : IsCheckOf saves samples kinds machines bytes
    pub whole : Appends (k.written old) (k.written new) (check_line bytes)
    pub kept : k.faults new ≡ k.faults old

  -- a write failed
  pub record ChecksFront : Type 0 where
    pub was : end ≡ Ended Done
    pub is : result ≡ Ended Write
    pub bytes : List ℕ
    pub check : IsCheckOf saves samples kinds machines bytes
    pub front : AppendsFront (k.written old) (k.written new) (check_line bytes)
    pub failed : Fails (k.faults old) (k.faults new)

  abbrev pub Checks : Type 0
  Checks = ChecksNot ⊎ ChecksAll ⊎ ChecksFront
