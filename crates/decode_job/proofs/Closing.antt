-- What a run came to, as what a decoding gives.
use Rattle.std.proofs.Common.{◌≡◌, ◌≢◌, ◌<◌, ◌≤◌, ◌++◌, not, true, false, Bool, ℕ, List, [], All, map, length, Option, Some, None, Result, Ok, Err, refl, sym, ap, subst, ◌∙◌, arith}
use Rattle.std.proofs.lemmas.List.{append-nil, length-map}
use Rattle.la_base.specs.declared.names.NoMemory.{NoMemory as Wanted}
use Rattle.tree_io.specs.Feeds.{together}
use Rattle.la_io.specs.declared.outside.Sink.{Ghosts as SinkGhosts}
use Rattle.la_io.specs.declared.outside.Source.{Ghosts as SourceGhosts}
use Rattle.capture_any.specs.Listings.{ReadCause}
use Rattle.capture_any.specs.Reading.{form_of, is_open_of, pins_of}
use Rattle.capture_any.specs.declared.capture.Capture.{Capture}
use Rattle.capture_any.specs.declared.end.ListingEnd.TheVariants.{NoMemory, Write}
use Rattle.capture_any.proofs.ListingLemmas.{lists_on}
use Rattle.la_base.specs.declared.wires.Out.{Out}
use Rattle.decoder_core.specs.Inputs.{Item}
use Rattle.decoder_core.specs.declared.end.RunEnd.{RunEnd}
use Rattle.decoder_core.specs.declared.end.RunEnd.TheVariants.{Ended}
use Rattle.decoder_core.specs.declared.machine.Machine.{Ghosts as MachineGhosts}
use Rattle.decoder_core.specs.Promises.{GivesNothing, KeepsFront}
use Rattle.tree_runs.specs.Machines.{Stand, defined, near_of, whole_of}
use Rattle.tree_runs.specs.Runs.{StandOn, ToldOn as ToldOf, input_at, is_ended, nodes_of, samples_in}
use Rattle.tree_runs.specs.Taking.{IsTree}
use Rattle.tree_runs.proofs.Fresh.{fresh}
use Rattle.stack_laws.specs.Laws.{IsLawful}
use Rattle.stack_threads.specs.Runs.{RunsBy}
use Rattle.annot_merge.specs.Held.{count_of}
use Rattle.stack_words.specs.Accepting.{Accepted}
use Rattle.stack_words.specs.Stacks.{stack_meaning}
use Rattle.note_order.specs.declared.entry.Entry.{Entry}
use Rattle.note_lister.specs.Prompt.{Prompts}
use Rattle.note_lister.specs.Taking.{Goes, Took, WritesAll, first_sink, instances_of, sink_of, stack_of, watch_of}
use Rattle.note_lister.specs.declared.lister.Lister.{Lister}
use Rattle.note_lister.specs.declared.stop.ListStop.{ListStop}
use Rattle.note_lister.proofs.TakingLemmas.{never_stopped}
use Rattle.decode_job.specs.Asking.{WantsOf}
use Rattle.decode_job.specs.Decoding.{Decodes}
use Rattle.decode_job.specs.Ending.{end_behind, end_of_stop}
use Rattle.decode_job.specs.Feeding.{GaveRuns}
use Rattle.decode_job.specs.Listing.{notes_to_list, output_of, tree_notes, tree_output}
use Rattle.decode_job.specs.Seen.{WritesFrontSeen, WritesSeen}
use Rattle.decode_job.specs.declared.capture_feed.CaptureFeed.{CaptureFeed}
use Rattle.decode_job.proofs.Ends.{StoppedBy, kept_cause, lists_moved, not_stopped, read_of_stop, stopped_by}
use Rattle.decode_job.proofs.FeedLemmas.{closed_at_end, feed_cause, feed_failed, feed_stopped, feed_whole}
use Rattle.decode_job.proofs.Handing.{nothing_done}
use Rattle.decode_job.proofs.Listed.{all_of_tree, behind_nothing, front_of_tree}
use Rattle.decode_job.proofs.Seen.{front_seen}

-- nothing was read, taken or seen
pub record Rested {S K W : Type 0} (s : SourceGhosts S) (k : SinkGhosts K) (saw : W → List Entry → Type 0) (feed : CaptureFeed S) (lister : Lister K W) : Type 0 where
  pub gave : GaveRuns s.left s.faults feed []
  pub took : Took k.written k.faults k.goes_on saw lister (λ _. [])
  pub source : feed.source.now ≡ feed.first_source.value.now
  pub sink : sink_of lister ≡ first_sink lister
  pub unseen : saw (watch_of lister) []
  pub goes : Goes true lister

module _ {M Q S K W : Type 0} (m : MachineGhosts M Q) (s : SourceGhosts S) (k : SinkGhosts K) (saw : W → List Entry → Type 0) (machines : List M) (parents : List (Option ℕ)) (feed : CaptureFeed S) (lister : Lister K W) where
  -- the machines ran over a feed that had given nothing, to a lister that had taken nothing, and
  -- came to this end
  pub record Came (end : RunEnd) : Type 0 where
    pub runs : RunsBy m.outputs m.near (map m.setup machines) parents (Stand m.consumed machines) (λ lists. lists ≡ []) (λ lists. GaveRuns s.left s.faults feed (together lists))
        (λ marks. (j : ℕ) → marks j ≡ []) (Took k.written k.faults k.goes_on saw lister) (not (is_open_of feed.capture.now)) end
    pub at_end : end ≡ Ended → not (is_open_of feed.capture.now) ≡ true
    pub going : Goes (is_ended end) lister

  -- the machines ran; or for want of memory nothing was done
  abbrev pub RanTo : Result RunEnd Wanted → Type 0
  RanTo (Ok end) = Came end
  RanTo (Err why) = Rested s k saw feed lister

  abbrev capture : Capture
  capture = feed.first_capture.value.now

  abbrev source : S
  source = feed.first_source.value.now

  abbrev sink : K
  sink = first_sink lister

  -- for want of memory nothing was done
  pub rested_decodes : Rested s k saw feed lister → Decodes m s k (stack_of lister) machines parents capture source feed.source.now sink (sink_of lister) (saw (watch_of lister)) NoMemory
  rested_decodes rested =
      let out : List ℕ → List ℕ = tree_output m.outputs (stack_meaning (stack_of lister)) (nodes_of (map m.setup machines) parents) in
      let notes : List ℕ → List Entry = tree_notes m.outputs (stack_meaning (stack_of lister)) (nodes_of (map m.setup machines) parents) in
      record {
        lists = λ before told at stands new.
            lists_moved s.left (λ (x : K) (l : List ℕ). WritesSeen (saw (watch_of lister)) (k.written sink) (k.written x) (out l) (notes l)) (λ (x : K) (l : List ℕ). WritesFrontSeen (saw (watch_of lister)) (k.written sink) (k.written x) (out l) (notes l))
            (form_of capture) (pins_of capture) before told (s.left source) source feed.source.now sink (sink_of lister) NoMemory (sym rested.source) (sym rested.sink)
            (nothing_done capture before told (s.left source) (k.written sink) out notes (saw (watch_of lister)) rested.unseen at stands);
        read = subst (λ (n : ℕ). s.faults source ≤ n) (ap s.faults (sym rested.source)) (omega arith);
        write = ap k.faults rested.sink;
      }

  module _ (end : RunEnd) (came : Came end) where
    abbrev gave : GaveRuns s.left s.faults feed (together came.runs.lists)
    gave = came.runs.gave [] refl

    abbrev took : Took k.written k.faults k.goes_on saw lister came.runs.marks
    took = came.runs.took (λ _. []) came.runs.marks (λ j. refl) (λ j. refl)

    abbrev accepted : Accepted
    accepted = stack_meaning (stack_of lister)

    abbrev samples : List ℕ
    samples = samples_in came.runs.lists

    abbrev setups : List Q
    setups = map m.setup machines

    abbrev out : List ℕ → List ℕ
    out = tree_output m.outputs accepted (nodes_of setups parents)

    abbrev notes : List ℕ → List Entry
    notes = tree_notes m.outputs accepted (nodes_of setups parents)

    abbrev saw_now : List Entry → Type 0
    saw_now = saw (watch_of lister)

    abbrev old_bytes : Option (List ℕ)
    old_bytes = k.written sink

    abbrev new_bytes : Option (List ℕ)
    new_bytes = k.written (sink_of lister)

    abbrev Whole : List ℕ → Type 0
    Whole l = WritesSeen saw_now old_bytes new_bytes (out l) (notes l)

    abbrev Front : List ℕ → Type 0
    Front l = WritesFrontSeen saw_now old_bytes new_bytes (out l) (notes l)

    module _ (lawful : IsLawful parents (defined m.outputs m.near setups)) (tree : IsTree parents (length machines) (instances_of lister)) (wanted : WantsOf (stack_of lister) (length parents)) where
      count : length setups ≡ length parents
      count = length-map machines m.setup ∙ tree.each

      nothing : (j : ℕ) → j < length parents → GivesNothing (whole_of m.outputs setups j)
      nothing j within = lawful.nothing j

      keeps : (j : ℕ) → j < length parents → KeepsFront (whole_of m.outputs setups j)
      keeps j within = lawful.prefix j

      stand_at : All (λ machine. m.consumed machine []) machines → (j : ℕ) → j < length parents → Stand m.consumed machines j []
      stand_at new j within = (omega (arith, within, tree.each), λ d. new j d (omega (arith, within, tree.each)))

      -- what was told of each instance
      tells : StandOn m.outputs setups parents (Stand m.consumed machines) [] → (j : ℕ) → j < length parents
          → (feeds : List (List Item)) × ToldOf end (not (is_open_of feed.capture.now)) (whole_of m.outputs setups j) (near_of m.near setups j) (input_at m.outputs (nodes_of setups parents) [] j) (input_at m.outputs (nodes_of setups parents) samples j) (λ more. input_at m.outputs (nodes_of setups parents) (samples ++ more) j) feeds (came.runs.marks j)
      tells stand j within = let t = came.runs.told [] stand j within in (t.0, t.2)

      -- it wasn't stopped: all of the capture was decoded
      module _ (none : lister.cause ≡ None) where
        ended : end ≡ Ended
        ended = not_stopped end lister.cause lister.stops none (λ is. subst (λ (b : Bool). Goes b lister) is came.going)

        closed : is_open_of feed.capture.now ≡ false
        closed = closed_at_end (is_open_of feed.capture.now) (came.at_end ended)

        written : (lister.stops ≡ 0) × (k.faults (sink_of lister) ≡ k.faults sink) × WritesAll accepted accepted.binary lister.merge saw_now old_bytes new_bytes came.runs.marks
        written = never_stopped accepted lister.merge lister.cause lister.stops saw_now old_bytes new_bytes (k.faults sink) (k.faults (sink_of lister)) came.runs.marks none took.writes

        cause : ReadCause (s.faults source) (s.faults feed.source.now) feed.end × (feed.end ≢ Write)
        cause = feed_cause s.left s.faults feed (together came.runs.lists) gave capture refl source refl feed.source.now refl closed

        pub ended_decodes : Decodes m s k (stack_of lister) machines parents capture source feed.source.now sink (sink_of lister) saw_now feed.end
        ended_decodes = record {
          lists = λ before told at stands new.
              let stand = fresh m.outputs setups parents tree.forest count nothing (Stand m.consumed machines) (stand_at new) in
              let all : Whole samples = subst Whole (append-nil samples) (subst (λ (l : List (List Out)). WritesSeen saw_now old_bytes new_bytes (output_of accepted accepted.binary l) (notes_to_list accepted accepted.binary l)) (behind_nothing m.outputs setups parents tree.forest count nothing (samples ++ []))
              (all_of_tree m.outputs (near_of m.near setups) setups parents tree.forest count keeps accepted end (not (is_open_of feed.capture.now)) [] samples [] came.runs.marks (tells stand) (λ _. refl) ended accepted.binary wanted lister.merge tree.takes saw_now old_bytes new_bytes written.2)) in
              lists_on (form_of capture) (pins_of capture) (λ settled. settled ≡ samples) (λ settled. settled ≡ samples) before told (s.left source) (s.left feed.source.now)
              Front (λ given is. subst Front (sym is) (front_seen saw_now old_bytes new_bytes (out samples) (notes samples) all))
              Whole (λ given is. subst Whole (sym is) all) feed.end
              (feed_whole s.left s.faults feed (together came.runs.lists) gave capture refl source refl feed.source.now refl closed before told at stands);
          read = cause.0;
          write = kept_cause feed.end (k.faults sink) (k.faults (sink_of lister)) cause.1 written.1;
        }

      -- it was stopped: a front was written
      module _ (why : ListStop) (is : lister.cause ≡ Some why) where
        stopped : StoppedBy accepted (count_of lister.merge) saw_now old_bytes new_bytes (k.faults sink) (k.faults (sink_of lister)) came.runs.marks (end_of_stop why)
        stopped = stopped_by accepted lister.merge lister.cause why lister.stops saw_now old_bytes new_bytes (k.faults sink) (k.faults (sink_of lister)) came.runs.marks is took.writes

        pub stopped_decodes : Decodes m s k (stack_of lister) machines parents capture source feed.source.now sink (sink_of lister) saw_now (end_of_stop why)
        stopped_decodes = record {
          lists = λ before told at stands new.
              let stand = fresh m.outputs setups parents tree.forest count nothing (Stand m.consumed machines) (stand_at new) in
              let front = stopped.front in
              let prompts : Prompts accepted accepted.binary (length parents) front.first front.out front.notes = subst (λ (n : ℕ). Prompts accepted accepted.binary n front.first front.out front.notes) tree.takes front.prompts in
              let fronts : (rest : List ℕ) → (not (is_open_of feed.capture.now) ≡ true → rest ≡ []) → Front (samples ++ rest) = λ rest none.
              subst (λ (l : List (List Out)). WritesFrontSeen saw_now old_bytes new_bytes (output_of accepted accepted.binary l) (notes_to_list accepted accepted.binary l)) (behind_nothing m.outputs setups parents tree.forest count nothing (samples ++ rest))
              (front_of_tree m.outputs (near_of m.near setups) setups parents tree.forest count keeps accepted end (not (is_open_of feed.capture.now)) [] samples rest came.runs.marks (tells stand) none accepted.binary wanted front.first front.begins front.out front.notes prompts saw_now old_bytes new_bytes front.front front.seen) in
              feed_stopped s.left s.faults feed (together came.runs.lists) gave capture refl source refl feed.source.now refl Whole Front fronts (end_of_stop why) stopped.is_front before told at stands;
          read = read_of_stop why (s.faults source) (s.faults feed.source.now) (feed_failed s.left s.faults feed (together came.runs.lists) gave capture refl source refl feed.source.now refl);
          write = stopped.cause;
        }

  -- however it ran
  module _ (lawful : IsLawful parents (defined m.outputs m.near (map m.setup machines))) (tree : IsTree parents (length machines) (instances_of lister)) (wanted : WantsOf (stack_of lister) (length parents)) where
    pub closed_decodes : (ran : Result RunEnd Wanted) → RanTo ran
        → Decodes m s k (stack_of lister) machines parents capture source feed.source.now sink (sink_of lister) (saw (watch_of lister)) (end_behind ran lister.cause feed.end)
    closed_decodes (Err why) rested = rested_decodes rested
    closed_decodes (Ok end) came = by lister.cause refl
      where
        by : (cause : Option ListStop) → lister.cause ≡ cause → Decodes m s k (stack_of lister) machines parents capture source feed.source.now sink (sink_of lister) (saw (watch_of lister)) (end_behind (Ok end) cause feed.end)
        by None is = ended_decodes end came lawful tree wanted is
        by (Some why) is = stopped_decodes end came lawful tree wanted why is

  pub same_source : (ran : Result RunEnd Wanted) → RanTo ran → feed.source.ghost_name ≡ feed.first_source.value.ghost_name
  same_source (Ok end) came = (gave end came).same_source
  same_source (Err why) rested = rested.gave.same_source

  pub same_sink : (ran : Result RunEnd Wanted) → RanTo ran → lister.sink.ghost_name ≡ lister.first.value.ghost_name
  same_sink (Ok end) came = (took end came).same_sink
  same_sink (Err why) rested = rested.took.same_sink

  pub sink_goes_on : (ran : Result RunEnd Wanted) → RanTo ran → k.goes_on sink (sink_of lister)
  sink_goes_on (Ok end) came = (took end came).goes_on_is
  sink_goes_on (Err why) rested = rested.took.goes_on_is
