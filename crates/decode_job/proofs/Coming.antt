-- A run of any feed and any taking of marks, as a decoding of what was lent to them.
use Rattle.std.proofs.Common.{MutBor, ◌≡◌, not, true, ℕ, List, [], ◌++◌, length, map, Option, Result, Ok, Err, refl, sym, ap, subst, ◌∙◌}
use Rattle.std.specs.Prelude.{IfOk, OnErr}
use Rattle.std.proofs.Math.Path.{transport}
use Rattle.std.specs.declared.snapshot.Snapshot.{Snapshot}
use Rattle.la_base.specs.declared.names.NoMemory.{NoMemory}
use Rattle.la_base.specs.declared.samples.Run.{Run}
use Rattle.la_base.specs.declared.wires.Mark.{Mark}
use Rattle.tree_io.specs.Feeds.{together}
use Rattle.la_io.specs.declared.outside.Sink.{Ghosts as SinkGhosts}
use Rattle.la_io.specs.declared.outside.Source.{Ghosts as SourceGhosts}
use Rattle.capture_any.specs.Reading.{is_open_of}
use Rattle.capture_any.specs.declared.capture.Capture.{Capture}
use Rattle.capture_any.specs.declared.end.ListingEnd.{ListingEnd}
use Rattle.decoder_core.specs.declared.end.RunEnd.{RunEnd}
use Rattle.decoder_core.specs.declared.end.RunEnd.TheVariants.{Ended}
use Rattle.decoder_core.specs.declared.machine.Machine.{Ghosts as MachineGhosts}
use Rattle.tree_runs.specs.Machines.{Stand, defined}
use Rattle.tree_runs.specs.Runs.{is_ended}
use Rattle.tree_runs.specs.Taking.{IsTree}
use Rattle.stack_laws.specs.Laws.{IsLawful}
use Rattle.stack_threads.specs.Runs.{RunsBy}
use Rattle.stack_words.specs.declared.stack.Stack.{Stack}
use Rattle.note_order.specs.declared.entry.Entry.{Entry}
use Rattle.note_lister.specs.Taking.{Goes, SameOrigin, Took, first_of, first_sink, instances_of, sink_of, sink_ref, stack_of, watch_of}
use Rattle.note_lister.specs.declared.lister.Lister.{Lister}
use Rattle.decode_job.specs.Asking.{WantsOf}
use Rattle.decode_job.specs.Decoding.{DecodesOn}
use Rattle.decode_job.specs.Ending.{end_behind}
use Rattle.decode_job.specs.Feeding.{GaveRuns}
use Rattle.decode_job.specs.declared.capture_feed.CaptureFeed.{CaptureFeed}
use Rattle.decode_job.proofs.Closing.{RanTo, Rested, closed_decodes, same_sink, same_source, sink_goes_on}

-- what follows from a run follows where it is Ok
pub ok_follows : (P Q : RunEnd → Type 0) (ran : Result RunEnd NoMemory) → IfOk ran P → ((end : RunEnd) → P end → Q end) → IfOk ran Q
ok_follows P Q (Ok end) holds follows = follows end holds
ok_follows P Q (Err why) holds follows = tt

-- the same values by other names
pub decodes_moved : {M Q S K W O : Type 0} (m : MachineGhosts M Q) (s : SourceGhosts S) (k : SinkGhosts K) (machines : List M) (parents : List (Option ℕ)) (saw : W → List Entry → Type 0) (origin : W → O) (end : ListingEnd)
    {stack stack_to : Stack} {capture capture_to : Capture} {old old_to new new_to : S} {first first_to last last_to : K} {watch watch_to now now_to : W}
    → stack ≡ stack_to → capture ≡ capture_to → old ≡ old_to → new ≡ new_to → first ≡ first_to → last ≡ last_to → watch ≡ watch_to → now ≡ now_to
    → DecodesOn m s k stack machines parents saw origin capture old new first last watch now end → DecodesOn m s k stack_to machines parents saw origin capture_to old_to new_to first_to last_to watch_to now_to end
decodes_moved m s k machines parents saw origin end a b c d e f g h decodes = transport (λ i. DecodesOn m s k (a i) machines parents saw origin (b i) (c i) (d i) (e i) (f i) (g i) (h i) end) decodes

-- the capture and the source that a feed was made over
abbrev lent_of : {S : Type 0} → CaptureFeed S → Snapshot (MutBor Capture) × Snapshot (MutBor S)
lent_of feed = (feed.first_capture, feed.first_source)

-- from a feed and a lister to these, what was lent to them was decoded, and they still have it
pub record DecodesOver {M Q S K W O : Type 0} (m : MachineGhosts M Q) (s : SourceGhosts S) (k : SinkGhosts K) (saw : W → List Entry → Type 0) (origin : W → O) (machines : List M) (parents : List (Option ℕ)) (feed feed_now : CaptureFeed S) (lister lister_now : Lister K W) (end : ListingEnd) : Type 0 where
  pub decodes : DecodesOn m s k (stack_of lister) machines parents saw origin feed.first_capture.value.now feed.first_source.value.now feed_now.source.now (first_sink lister) (sink_of lister_now) (watch_of lister) (watch_of lister_now) end
  pub same_source : feed_now.source.ghost_name ≡ feed.first_source.value.ghost_name
  pub same_sink : (sink_ref lister_now).ghost_name ≡ (first_of lister).ghost_name

module _ {M Q S K W O : Type 0} (m : MachineGhosts M Q) (s : SourceGhosts S) (k : SinkGhosts K) (saw : W → List Entry → Type 0) (origin : W → O) (machines : List M) (parents : List (Option ℕ)) (feed feed_now : CaptureFeed S) (lister lister_now : Lister K W) (rested : Rested s k saw feed lister) where
  abbrev Gave : CaptureFeed S → List (List Run) → Type 0
  Gave one lists = GaveRuns s.left s.faults one (together lists)

  abbrev Taken : Lister K W → (ℕ → List Mark) → Type 0
  Taken one marks = Took k.written k.faults k.goes_on saw one marks

  ran_to : (ran : Result RunEnd NoMemory)
      → IfOk ran (λ end. RunsBy m.outputs m.near (map m.setup machines) parents (Stand m.consumed machines) (Gave feed) (Gave feed_now) (Taken lister) (Taken lister_now) (not (is_open_of feed_now.capture.now)) end)
      → IfOk ran (λ end. end ≡ Ended → not (is_open_of feed_now.capture.now) ≡ true)
      → IfOk ran (λ end. Goes true lister → Goes (is_ended end) lister_now)
      → OnErr ran ((feed_now ≡ feed) × (lister_now ≡ lister))
      → RanTo m s k saw machines parents feed_now lister_now ran
  ran_to (Ok end) runs at_end going none = record {
    runs = record {
      lists = runs.lists;
      marks = runs.marks;
      gave = λ earlier is. subst (λ (l : List (List Run)). Gave feed_now (l ++ runs.lists)) (sym is) (runs.gave [] rested.gave);
      took = λ before after none adds. runs.took (λ _. []) after rested.took (λ j. adds j ∙ ap (λ (l : List Mark). l ++ runs.marks j) (none j));
      told = runs.told;
    };
    at_end = at_end;
    going = going rested.goes;
  }
  ran_to (Err why) runs at_end going none =
      subst (λ (one : CaptureFeed S). Rested s k saw one lister_now) (sym none.0) (subst (λ (one : Lister K W). Rested s k saw feed one) (sym none.1) rested)

  pub ran_decodes : (ran : Result RunEnd NoMemory)
      → IfOk ran (λ end. RunsBy m.outputs m.near (map m.setup machines) parents (Stand m.consumed machines) (Gave feed) (Gave feed_now) (Taken lister) (Taken lister_now) (not (is_open_of feed_now.capture.now)) end)
      → IfOk ran (λ end. end ≡ Ended → not (is_open_of feed_now.capture.now) ≡ true)
      → IfOk ran (λ end. Goes true lister → Goes (is_ended end) lister_now)
      → OnErr ran ((feed_now ≡ feed) × (lister_now ≡ lister))
      → lent_of feed_now ≡ lent_of feed
      → SameOrigin origin lister lister_now
      → instances_of lister_now ≡ instances_of lister
      → IsLawful parents (defined m.outputs m.near (map m.setup machines)) → IsTree parents (length machines) (instances_of lister) → WantsOf (stack_of lister) (length parents)
      → DecodesOver m s k saw origin machines parents feed feed_now lister lister_now (end_behind ran lister_now.cause feed_now.end)
  ran_decodes ran runs at_end going none lent over takes lawful tree wanted =
      let to = ran_to ran runs at_end going none in
      let stack_is : stack_of lister_now ≡ stack_of lister = ap (λ o. o.0.now) over in
      let tree_now : IsTree parents (length machines) (instances_of lister_now) = subst (IsTree parents (length machines)) (sym takes) tree in
      let wanted_now : WantsOf (stack_of lister_now) (length parents) = subst (λ (stack : Stack). WantsOf stack (length parents)) (sym stack_is) wanted in
      let end = end_behind ran lister_now.cause feed_now.end in
      let decodes = closed_decodes m s k saw machines parents feed_now lister_now lawful tree_now wanted_now ran to in
      let goes_on = sink_goes_on m s k saw machines parents feed_now lister_now ran to in
      record {
        decodes = decodes_moved m s k machines parents saw origin end stack_is (ap (λ o. o.0.value.now) lent) (ap (λ o. o.1.value.now) lent) refl (ap (λ o. o.1.value.now) over) refl refl refl
            (record { decodes = decodes; goes_on = goes_on; origin_is = ap (λ o. o.2) over });
        same_source = same_source m s k saw machines parents feed_now lister_now ran to ∙ ap (λ o. o.1.value.ghost_name) lent;
        same_sink = same_sink m s k saw machines parents feed_now lister_now ran to ∙ ap (λ o. o.1.value.ghost_name) over;
      }
