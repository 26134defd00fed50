-- What the run of a part came to.
use Rattle.std.proofs.Common.{◌≡◌, ◌≢◌, ◌<◌, ◌≤◌, ◌-◌, ◌++◌, ◌+◌, not, true, false, Bool, ℕ, List, [], map, length, length-append, take, Option, Some, None, refl, sym, ap, subst, ◌∙◌, inl, arith}
use Rattle.std.specs.Io.KnownBytes.{Appends}
use Rattle.std.proofs.lemmas.List.{append-nil, length-map, take_all, take-append-le}
use Rattle.la_base.specs.Runs.{samples_of}
use Rattle.la_io.specs.Capture.{Told}
use Rattle.tree_io.specs.Feeds.{together}
use Rattle.la_io.specs.Causes.{AppendsFront}
use Rattle.la_io.specs.declared.outside.Sink.{Ghosts as SinkGhosts}
use Rattle.la_io.specs.declared.outside.Source.{Ghosts as SourceGhosts}
use Rattle.la_io.proofs.Bytes.{take_past}
use Rattle.la_io.proofs.Fronts.{front_whole}
use Rattle.capture_any.specs.Captures.{capture_of}
use Rattle.capture_any.specs.Listings.{Lists, OfAll, OfFewer, ReadCause, Says, SettledFront}
use Rattle.capture_any.specs.Reading.{form_of, is_open_of, pins_of}
use Rattle.capture_any.specs.Taking.{GaveMore}
use Rattle.capture_any.specs.declared.capture.Capture.{Capture}
use Rattle.capture_any.specs.declared.end.ListingEnd.{ListingEnd}
use Rattle.capture_any.specs.declared.end.ListingEnd.TheVariants.{Done, Fault, NoMemory, Read, Write}
use Rattle.capture_any.specs.declared.form.Form.{Form}
use Rattle.capture_any.proofs.CaptureLaws.{given_is_front}
use Rattle.capture_any.proofs.ListingLemmas.{gave_more, gave_nothing}
use Rattle.decoder_core.specs.Inputs.{Item}
use Rattle.decoder_core.specs.Promises.{KeepsFront}
use Rattle.decoder_core.specs.declared.end.RunEnd.{RunEnd}
use Rattle.decoder_core.specs.declared.end.RunEnd.TheVariants.{Ended as RunEnded}
use Rattle.decoder_core.specs.declared.machine.Machine.{Ghosts as MachineGhosts}
use Rattle.tree_runs.specs.Machines.{Stand, defined, near_of, whole_of}
use Rattle.tree_runs.specs.Runs.{RunsOn, ToldOn as ToldOf, feeds_on, input_at, is_ended, nodes_of, samples_in}
use Rattle.tree_runs.specs.Taking.{IsTree}
use Rattle.stack_laws.specs.Laws.{IsLawful}
use Rattle.annot_merge.specs.Held.{count_of as merged_of}
use Rattle.stack_words.specs.Accepting.{Accepted}
use Rattle.stack_words.specs.Stacks.{stack_meaning}
use Rattle.stack_words.specs.declared.stack.Stack.{Stack}
use Rattle.note_order.specs.declared.entry.Entry.{Entry}
use Rattle.note_lister.specs.Prompt.{Prompts}
use Rattle.note_lister.specs.Taking.{Goes, Took, WritesAll as ListerWrites, first_sink, instances_of, sink_of, stack_of}
use Rattle.note_lister.specs.declared.lister.Lister.{Lister}
use Rattle.note_lister.specs.declared.stop.ListStop.{ListStop}
use Rattle.note_lister.specs.declared.stop.ListStop.TheVariants.{Write as WriteStop, NoMemory as MemoryStop}
use Rattle.note_lister.proofs.TakingLemmas.{never_stopped}
use Rattle.decode_job.specs.Asking.{WantsOf}
use Rattle.decode_job.specs.Ending.{end_of_stop}
use Rattle.decode_job.specs.Feeding.{Caused, Given}
use Rattle.decode_job.specs.PartRunning.{ListsAll, ListsPart, end_of_part}
use Rattle.decode_job.specs.Parting.{Behind, PartLists, PartSays, WritesAll, WritesFront, WritesUpTo, output_behind, room_behind}
use Rattle.decode_job.specs.UpTo.{GaveOf, GaveUpTo, count_of, has_ended, inner_of, is_past, most_of}
use Rattle.decode_job.specs.declared.capture_feed.CaptureFeed.{CaptureFeed}
use Rattle.decode_job.specs.declared.part_end.PartEnd.{PartEnd}
use Rattle.decode_job.specs.declared.part_end.PartEnd.TheVariants.{Ended, Past}
use Rattle.decode_job.specs.declared.up_to.UpTo.{UpTo}
use Rattle.decode_job.proofs.Ends.{StoppedBy, kept_cause, not_stopped, read_of_stop, stopped_by}
use Rattle.decode_job.proofs.FeedLemmas.{feed_cause, feed_failed, feed_stopped, feed_whole}
use Rattle.decode_job.proofs.Listed.{all_of_tree, front_of_tree}
use Rattle.decode_job.proofs.Relisting.{as_part}

-- a front, as the end of a part that was stopped
stopped_says : (Checked Whole Front Cut Beyond All : List ℕ → Type 0) (form : Form) (pins before : List ℕ) (then : Told) (left_old left_new : Option (List ℕ)) (why : ListStop)
    → Lists form pins All Front before then left_old left_new (end_of_stop why) → PartLists Checked Whole Front Cut Beyond form pins before then left_old left_new (Ended (end_of_stop why))
stopped_says Checked Whole Front Cut Beyond All form pins before then left_old left_new WriteStop lists = as_part lists (λ bytes told says. inl says)
stopped_says Checked Whole Front Cut Beyond All form pins before then left_old left_new MemoryStop lists = as_part lists (λ bytes told says. says)

-- samples that are all that is settled
module _ (Checked Whole Front Cut Beyond : List ℕ → Type 0) (form : Form) (pins all : List ℕ) (checked : Checked all) (whole : Whole all) (front : Front all) where
  abbrev Is : List ℕ → Type 0
  Is settled = settled ≡ all

  front_says : (bytes : List ℕ) (told : Told) → SettledFront form pins Is bytes told → SettledFront form pins Front bytes told
  front_says bytes told (OfAll is) = OfAll (subst Front (sym is) front)
  front_says bytes told (OfFewer count less wants is) = OfFewer count less wants (subst Front (sym is) front)

  ended_says : (bytes : List ℕ) (told : Told) (end : ListingEnd) → end ≢ Write → Says form pins Is Is bytes told end → PartSays Checked Whole Front Cut Beyond form pins bytes told (Ended end)
  ended_says bytes told Done other s = (s.0, s.1, subst Checked (sym s.2) checked)
  ended_says bytes told Read other s = (s.0, subst Whole (sym s.1) whole)
  ended_says bytes told Write other s = absurd (other refl)
  ended_says bytes told (Fault fault) other s = (s.0, subst Whole (sym s.1) whole)
  ended_says bytes told NoMemory other s = front_says bytes told s

module _ {M Q S K W : Type 0} (m : MachineGhosts M Q) (s : SourceGhosts S) (k : SinkGhosts K) (saw : W → List Entry → Type 0) (machines machines_now : List M) (parents : List (Option ℕ)) (count : ℕ) (first feed : UpTo S) (lister_first lister : Lister K W) (end : RunEnd)
    (runs : RunsOn m.outputs m.near (map m.setup machines) parents (Stand m.consumed machines) (Stand m.consumed machines_now) (λ lists. GaveUpTo s.left s.faults first (together lists)) (λ lists. GaveUpTo s.left s.faults feed (together lists))
    (Took k.written k.faults k.goes_on saw lister_first) (Took k.written k.faults k.goes_on saw lister) (has_ended feed) end)
    (gave : GaveUpTo s.left s.faults feed (together runs.lists)) (took : Took k.written k.faults k.goes_on saw lister runs.marks)
    (at_end : end ≡ RunEnded → has_ended feed ≡ true) (going : Goes (is_ended end) lister) (most : most_of feed ≡ room_behind count) (few : count_of feed ≤ most_of feed)
    (lawful : IsLawful parents (defined m.outputs m.near (map m.setup machines))) (tree : IsTree parents (length machines) (instances_of lister)) (wanted : WantsOf (stack_of lister) (length parents)) where
  abbrev inner : CaptureFeed S
  inner = inner_of feed

  abbrev capture : Capture
  capture = inner.first_capture.value.now

  abbrev source : S
  source = inner.first_source.value.now

  abbrev sink : K
  sink = first_sink lister

  abbrev stack : Stack
  stack = stack_of lister

  abbrev accepted : Accepted
  accepted = stack_meaning stack

  abbrev setups : List Q
  setups = map m.setup machines

  abbrev samples : List ℕ
  samples = samples_in runs.lists

  abbrev all : List ℕ
  all = samples_of gave.all

  abbrev old : Option (List ℕ)
  old = k.written sink

  abbrev new : Option (List ℕ)
  new = k.written (sink_of lister)

  abbrev Whole : List ℕ → Type 0
  Whole l = WritesAll m machines parents stack count old new l

  abbrev Front : List ℕ → Type 0
  Front l = WritesFront m machines parents stack count old new l

  abbrev Beyond : List ℕ → Type 0
  Beyond l = WritesUpTo m machines parents stack count old new l

  abbrev Checked : List ℕ → Type 0
  Checked l = ListsAll m s k stack machines machines_now parents count old new (count_of feed) l

  abbrev Uncut : List ℕ → Type 0
  Uncut l = ⊥

  abbrev Came : PartEnd → Type 0
  Came part_end = ListsPart m s k stack machines machines_now parents count capture source inner.source.now sink (sink_of lister) part_end (count_of feed)

  count_is : length setups ≡ length parents
  count_is = length-map machines m.setup ∙ tree.each

  keeps : (j : ℕ) → j < length parents → KeepsFront (whole_of m.outputs setups j)
  keeps j within = lawful.prefix j

  many : length samples ≤ room_behind count
  many = let is = gave.count in omega (arith, is, few, most)

  -- what was told of each instance
  tells : (earlier : List ℕ) → Behind m machines parents count earlier → (j : ℕ) → j < length parents
      → (feeds : List (List Item)) × ToldOf end (has_ended feed) (whole_of m.outputs setups j) (near_of m.near setups j) (input_at m.outputs (nodes_of setups parents) earlier j) (input_at m.outputs (nodes_of setups parents) (earlier ++ samples) j) (λ more. input_at m.outputs (nodes_of setups parents) ((earlier ++ samples) ++ more) j) feeds (runs.marks j)
  tells earlier behind j within = (feeds_on m.outputs setups parents earlier runs.lists j, runs.told earlier behind.stand j within)

  -- it wasn't stopped
  module _ (none : lister.cause ≡ None) where
    ended : end ≡ RunEnded
    ended = not_stopped end lister.cause lister.stops none (λ is. subst (λ (b : Bool). Goes b lister) is going)

    written : (lister.stops ≡ 0) × (k.faults (sink_of lister) ≡ k.faults sink) × ListerWrites accepted accepted.binary lister.merge (saw lister.watch) old new runs.marks
    written = never_stopped accepted lister.merge lister.cause lister.stops (saw lister.watch) old new (k.faults sink) (k.faults (sink_of lister)) runs.marks none took.writes

    listed : (earlier : List ℕ) → Behind m machines parents count earlier → Appends old new (output_behind m machines parents stack earlier samples)
    listed earlier behind = subst (λ (l : List ℕ). Appends old new (output_behind m machines parents stack earlier l)) (append-nil samples)
        (all_of_tree m.outputs (near_of m.near setups) setups parents tree.forest count_is keeps accepted end (has_ended feed) earlier samples [] runs.marks (tells earlier behind) (λ _. refl) ended accepted.binary wanted lister.merge tree.takes (saw lister.watch) old new written.2).whole

    -- there were no more samples than may come
    module _ (within : is_past feed ≡ false) where
      same : samples ≡ all
      same = subst (λ (b : Bool). GaveOf b (most_of feed) (is_open_of inner.capture.now) all samples) within gave.samples

      closed : is_open_of inner.capture.now ≡ false
      closed = gave.at_end (at_end ended) within

      cause : ReadCause (s.faults source) (s.faults inner.source.now) inner.end × (inner.end ≢ Write)
      cause = feed_cause s.left s.faults inner gave.all gave.gave capture refl source refl inner.source.now refl closed

      whole : Whole samples
      whole = record { fits = many; written = listed }

      checked : Checked samples
      checked = record {
        all = whole;
        number = gave.count;
        stand = λ earlier behind. runs.stand ended earlier behind.stand;
      }

      front : Front samples
      front earlier behind =
          let short : take (room_behind count) samples ≡ samples = take_all (room_behind count) samples many in
          front_whole old new _ (subst (λ (l : List ℕ). Appends old new (output_behind m machines parents stack earlier l)) (sym short) (listed earlier behind))

      pub ended_part : Came (Ended inner.end)
      ended_part = record {
        lists = λ before told at stands.
            as_part (feed_whole s.left s.faults inner gave.all gave.gave capture refl source refl inner.source.now refl closed before told at stands) (λ bytes at_last says.
            ended_says Checked Whole Front Uncut Beyond (form_of capture) (pins_of capture) all (subst Checked same checked) (subst Whole same whole) (subst Front same front) bytes at_last inner.end cause.1 says);
        read = cause.0;
        write = kept_cause inner.end (k.faults sink) (k.faults (sink_of lister)) cause.1 written.1;
      }

    -- there were more
    module _ (past : is_past feed ≡ true) where
      beyond : (is_open_of inner.capture.now ≡ true) × (most_of feed < length all) × (samples ≡ take (most_of feed) all)
      beyond = subst (λ (b : Bool). GaveOf b (most_of feed) (is_open_of inner.capture.now) all samples) past gave.samples

      given : GaveMore capture inner.capture.now (s.left source) (s.left inner.source.now) all
      given = subst (λ (b : Bool). Given s.left s.faults b inner.end capture inner.capture.now source inner.source.now all) beyond.0 gave.gave.given

      kept : s.faults inner.source.now ≡ s.faults source
      kept = subst (λ (b : Bool). Caused s.left s.faults b inner.end source inner.source.now) beyond.0 gave.gave.cause

      up_to : (rest : List ℕ) → Beyond (all ++ rest)
      up_to rest = record {
        past = let b = beyond.1 in omega (arith, b, most, length-append all rest);
        written = λ earlier behind.
            let less : room_behind count ≤ length all = (let b = beyond.1 in omega (arith, b, most)) in
            let is : samples ≡ take (room_behind count) (all ++ rest) = beyond.2 ∙ (ap (λ (n : ℕ). take n all) most ∙ sym (take-append-le (room_behind count) all rest less)) in
            subst (λ (l : List ℕ). Appends old new (output_behind m machines parents stack earlier l)) is (listed earlier behind);
      }

      pub past_part : Came Past
      past_part = record {
        lists = λ before told at stands.
            let now = gave_more capture inner.capture.now before told (s.left source) (s.left source) (s.left inner.source.now) [] all (gave_nothing capture before told (s.left source) at stands) given in
            let settled = given_is_front inner.capture.now (before ++ now.bytes) now.told all now.stands in
            let g = gave.gave in
            let is : (capture_of (form_of capture) (pins_of capture) (before ++ now.bytes) now.told).settled ≡ all ++ settled.0 = (λ i. (capture_of (sym g.form i) (sym g.pins i) (before ++ now.bytes) now.told).settled) ∙ settled.1 in
            record {
              bytes = now.bytes;
              told = now.told;
              taken = now.taken;
              later = now.later;
              at_end = now.at_end;
              says = subst Beyond (sym is) (up_to settled.0);
            };
        read = kept;
        write = written.1;
      }

  -- it was stopped
  module _ (why : ListStop) (is : lister.cause ≡ Some why) where
    stopped : StoppedBy accepted (merged_of lister.merge) (saw lister.watch) old new (k.faults sink) (k.faults (sink_of lister)) runs.marks (end_of_stop why)
    stopped = stopped_by accepted lister.merge lister.cause why lister.stops (saw lister.watch) old new (k.faults sink) (k.faults (sink_of lister)) runs.marks is took.writes

    -- a front of what is to be written of these samples, and more
    front_of : (rest : List ℕ) → (has_ended feed ≡ true → rest ≡ []) → (earlier : List ℕ) → Behind m machines parents count earlier → AppendsFront old new (output_behind m machines parents stack earlier (samples ++ rest))
    front_of rest none earlier behind =
        let front = stopped.front in
        let prompts : Prompts accepted accepted.binary (length parents) front.first front.out front.notes = subst (λ (n : ℕ). Prompts accepted accepted.binary n front.first front.out front.notes) tree.takes front.prompts in
        (front_of_tree m.outputs (near_of m.near setups) setups parents tree.forest count_is keeps accepted end (has_ended feed) earlier samples rest runs.marks (tells earlier behind) none accepted.binary wanted front.first front.begins front.out front.notes prompts (saw lister.watch) old new front.front front.seen).front

    fronts : (past : Bool) → is_past feed ≡ past → (rest : List ℕ) → (not (is_open_of inner.capture.now) ≡ true → rest ≡ []) → Front (all ++ rest)
    fronts false within rest none earlier behind =
        let same : samples ≡ all = subst (λ (b : Bool). GaveOf b (most_of feed) (is_open_of inner.capture.now) all samples) within gave.samples in
        let same_len : length samples ≡ length all = ap length same in
        let split : length all + (room_behind count - length samples) ≡ room_behind count = omega (arith, same_len, many) in
        let cut : samples ++ take (room_behind count - length samples) rest ≡ take (room_behind count) (all ++ rest) =
        ap (λ (l : List ℕ). l ++ take (room_behind count - length samples) rest) same ∙ (sym (take_past all rest (room_behind count - length samples)) ∙ ap (λ (n : ℕ). take n (all ++ rest)) split) in
        subst (λ (l : List ℕ). AppendsFront old new (output_behind m machines parents stack earlier l)) cut
        (front_of (take (room_behind count - length samples) rest) (λ at. ap (take (room_behind count - length samples)) (none (ap not (gave.at_end at within))) ∙ take_nothing (room_behind count - length samples)) earlier behind)
      where
        take_nothing : (n : ℕ) → take {A = ℕ} n [] ≡ []
        take_nothing n = take_all n [] (omega arith)
    fronts true past rest none earlier behind =
        let beyond : (is_open_of inner.capture.now ≡ true) × (most_of feed < length all) × (samples ≡ take (most_of feed) all) = subst (λ (b : Bool). GaveOf b (most_of feed) (is_open_of inner.capture.now) all samples) past gave.samples in
        let less : room_behind count ≤ length all = (let b = beyond.1 in omega (arith, b, most)) in
        let cut : samples ++ [] ≡ take (room_behind count) (all ++ rest) = append-nil samples ∙ (beyond.2 ∙ (ap (λ (n : ℕ). take n all) most ∙ sym (take-append-le (room_behind count) all rest less))) in
        subst (λ (l : List ℕ). AppendsFront old new (output_behind m machines parents stack earlier l)) cut (front_of [] (λ _. refl) earlier behind)

    pub stopped_part : Came (Ended (end_of_stop why))
    stopped_part = record {
      lists = λ before told at stands.
          stopped_says Checked Whole Front Uncut Beyond Whole (form_of capture) (pins_of capture) before told (s.left source) (s.left inner.source.now) why
          (feed_stopped s.left s.faults inner gave.all gave.gave capture refl source refl inner.source.now refl Whole Front (fronts (is_past feed) refl) (end_of_stop why) stopped.is_front before told at stands);
      read = read_of_stop why (s.faults source) (s.faults inner.source.now) (feed_failed s.left s.faults inner gave.all gave.gave capture refl source refl inner.source.now refl);
      write = stopped.cause;
    }

  -- however it ran
  pub parted : Came (end_of_part lister.cause (is_past feed) inner.end)
  parted = by lister.cause refl (is_past feed) refl
    where
      by : (cause : Option ListStop) → lister.cause ≡ cause → (past : Bool) → is_past feed ≡ past → Came (end_of_part cause past inner.end)
      by None none true past = past_part none past
      by None none false within = ended_part none within
      by (Some why) is past any = stopped_part why is
