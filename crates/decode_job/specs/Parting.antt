-- What the decoding of a part gives, by machines that may already stand behind earlier samples.
use Rattle.std.specs.Prelude.{ℕ, ◌≡◌, ◌<◌, ◌≤◌, ◌-◌, ◌^◌, ◌⊎◌, List, [], ◌++◌, length, map, take, Option}
use Rattle.std.specs.Io.KnownBytes.{Appends, Consumes}
use Rattle.la_io.specs.Capture.{Told}
use Rattle.la_io.specs.Causes.{AppendsFront}
use Rattle.la_io.specs.declared.outside.Sink.{Ghosts as SinkGhosts}
use Rattle.la_io.specs.declared.outside.Source.{Ghosts as SourceGhosts}
use Rattle.capture_any.specs.Captures.{Later, ToldAt, capture_of}
use Rattle.capture_any.specs.Listings.{ReadCause, Says, SettledFront, WriteCause}
use Rattle.capture_any.specs.Reading.{Stands, form_of, pins_of}
use Rattle.capture_any.specs.declared.capture.Capture.{Capture}
use Rattle.capture_any.specs.declared.end.ListingEnd.TheVariants.{Done, Read, Write, Fault}
use Rattle.capture_any.specs.declared.end.ListingEnd.TheVariants.{NoMemory}
use Rattle.capture_any.specs.declared.form.Form.{Form}
use Rattle.check_point.specs.Checks.{check_line}
use Rattle.check_laws.specs.Resuming.{IsCheckOn}
use Rattle.decoder_core.specs.declared.machine.Machine.{Ghosts as MachineGhosts}
use Rattle.tree_runs.specs.Machines.{Stand}
use Rattle.tree_runs.specs.Runs.{StandOn, nodes_of}
use Rattle.stack_words.specs.Stacks.{stack_meaning}
use Rattle.stack_words.specs.declared.stack.Stack.{Stack}
use Rattle.decode_job.specs.Listing.{tree_output_behind}
use Rattle.decode_job.specs.declared.part_end.PartEnd.{PartEnd}
use Rattle.decode_job.specs.declared.part_end.PartEnd.TheVariants.{Ended, Past}

-- how many samples there may be behind so many earlier ones
abbrev pub room_behind : ℕ → ℕ
room_behind count = 2 ^ 59 - count

-- What the end of a part says of the bytes that were taken. Of the samples that they settle,
-- `Checked` says that the listing and a checkpoint were written, `Whole` that the listing was,
-- `Front` that a front of it was, `Cut` that the listing was and a checkpoint wasn't written whole;
-- and `Beyond` that there are more than may come, and what was written of those that may.
module _ (Checked Whole Front Cut Beyond : List ℕ → Type 0) where
  abbrev pub PartSays : Form → List ℕ → List ℕ → Told → PartEnd → Type 0
  PartSays form pins bytes told (Ended Done) = Says form pins Checked Front bytes told Done
  PartSays form pins bytes told (Ended Read) = Says form pins Whole Front bytes told Read
  PartSays form pins bytes told (Ended (Fault fault)) =
      Says form pins Whole Front bytes told (Fault fault)
  PartSays form pins bytes told (Ended Write) =
      SettledFront form pins Front bytes told ⊎ Says form pins Cut Front bytes told Done
  PartSays form pins bytes told (Ended NoMemory) = SettledFront form pins Front bytes told
  PartSays form pins bytes told Past = Beyond (capture_of form pins bytes told).settled

  -- behind the bytes `before`, whose end was told then or not, these were taken, the source told
  -- their end or didn't, and the end says what it says of all of them
  pub record PartLists (form : Form) (pins : List ℕ) (before : List ℕ) (then : Told)
      (left_old left_new : Option (List ℕ)) (end : PartEnd) : Type 0 where
    pub bytes : List ℕ
    pub told : Told
    pub taken : Consumes left_old left_new bytes
    pub later : Later then bytes told
    pub at_end : ToldAt told left_new
    pub says : PartSays form pins (before ++ bytes) told end

-- the source failed where the end is Read, as behind any decoding; never where there are too many
-- samples
abbrev pub PartReadCause : ℕ → ℕ → PartEnd → Type 0
PartReadCause before now (Ended end) = ReadCause before now end
PartReadCause before now Past = now ≡ before

-- the sink failed where the end is Write, and nowhere else
abbrev pub PartWriteCause : ℕ → ℕ → PartEnd → Type 0
PartWriteCause before now (Ended end) = WriteCause before now end
PartWriteCause before now Past = now ≡ before

module _ {M Q : Type 0} (m : MachineGhosts M Q) (machines : List M) (parents : List (Option ℕ))
  where
    -- the machines stand on these samples, and they are as many as came before
    pub record Behind (count : ℕ) (earlier : List ℕ) : Type 0 where
      pub many : length earlier ≡ count
      pub stand :
          StandOn m.outputs (map m.setup machines) parents (Stand m.consumed machines) earlier

    -- what the machines on their places are to write under the stack of samples behind earlier ones
    abbrev pub output_behind : Stack → List ℕ → List ℕ → List ℕ
    output_behind stack earlier samples =
        tree_output_behind m.outputs (stack_meaning stack) (nodes_of (map m.setup machines) parents)
        earlier samples

    -- what was written of settled samples, if the machines stand on earlier ones: of machines that
    -- stand on none nothing is said of it
    module _ (stack : Stack) (count : ℕ) (old new : Option (List ℕ)) where
      -- there are no more samples than may come, and the listing of all was written
      pub record WritesAll (settled : List ℕ) : Type 0 where
        pub fits : length settled ≤ room_behind count
        pub written : (earlier : List ℕ) → Behind count earlier
            → Appends old new (output_behind stack earlier settled)

      -- a front was written of the listing of those that may come
      abbrev pub WritesFront : List ℕ → Type 0
      WritesFront settled = (earlier : List ℕ) → Behind count earlier
          → AppendsFront old new (output_behind stack earlier (take (room_behind count) settled))

      -- there are more samples than may come, and the listing of those that may was written
      pub record WritesUpTo (settled : List ℕ) : Type 0 where
        pub past : room_behind count < length settled
        pub written : (earlier : List ℕ) → Behind count earlier
            → Appends old new (output_behind stack earlier (take (room_behind count) settled))

      module _ (saves : M → List ℕ → Type 0) (kinds : List ℕ) where
        -- the listing of samples and, behind it, the line of a checkpoint of machines that stand on
        -- all samples, the earlier ones and these
        pub record ChecksBehind (earlier settled : List ℕ) : Type 0 where
          pub bytes : List ℕ
          pub check : IsCheckOn m.setup m.outputs m.consumed saves kinds parents
              (map m.setup machines) bytes (earlier ++ settled)
          pub written : Appends old new (output_behind stack earlier settled ++ check_line bytes)

        -- there are no more samples than may come, and both were written
        pub record WritesCheck (settled : List ℕ) : Type 0 where
          pub fits : length settled ≤ room_behind count
          pub written : (earlier : List ℕ) → Behind count earlier → ChecksBehind earlier settled

        -- a front of both
        pub record CutsBehind (earlier settled : List ℕ) : Type 0 where
          pub bytes : List ℕ
          pub check : IsCheckOn m.setup m.outputs m.consumed saves kinds parents
              (map m.setup machines) bytes (earlier ++ settled)
          pub front :
              AppendsFront old new (output_behind stack earlier settled ++ check_line bytes)

        -- there are no more samples than may come, and a front of both was written
        pub record CutsCheck (settled : List ℕ) : Type 0 where
          pub fits : length settled ≤ room_behind count
          pub written : (earlier : List ℕ) → Behind count earlier → CutsBehind earlier settled

module _ {M Q S K : Type 0} (m : MachineGhosts M Q) (saves : M → List ℕ → Type 0)
    (s : SourceGhosts S) (k : SinkGhosts K) where
  -- a part of a capture was decoded, behind so many earlier samples: what the machines add on the
  -- settled samples of the bytes that were taken was written, and a checkpoint behind it where the
  -- capture ended well, or a front, as the end says; and each failure has its cause
  pub record DecodesPart (stack : Stack) (machines : List M) (kinds : List ℕ)
      (parents : List (Option ℕ)) (count : ℕ) (capture : Capture) (source_old source_new : S)
      (sink_old sink_new : K) (end : PartEnd) : Type 0 where
    pub lists : (before : List ℕ) (told : Told) → ToldAt told (s.left source_old)
        → Stands capture before told []
        → PartLists
        (WritesCheck m machines parents stack count (k.written sink_old) (k.written sink_new)
        saves kinds)
        (WritesAll m machines parents stack count (k.written sink_old) (k.written sink_new))
        (WritesFront m machines parents stack count (k.written sink_old) (k.written sink_new))
        (CutsCheck m machines parents stack count (k.written sink_old) (k.written sink_new)
        saves kinds)
        (WritesUpTo m machines parents stack count (k.written sink_old) (k.written sink_new))
        (form_of capture) (pins_of capture) before told (s.left source_old) (s.left source_new) end
    pub read : PartReadCause (s.faults source_old) (s.faults source_new) end
    pub write : PartWriteCause (k.faults sink_old) (k.faults sink_new) end
