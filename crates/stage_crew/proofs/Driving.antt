-- What a driver did, from what it kept on its way; and with a reader, all that a crew did.
use Rattle.std.proofs.Common.{◌≡◌, ◌<◌, ℕ, zero, suc, Bool, true, false, not, List, [], ◌∷◌, ◌++◌, map, length, slice_get, Some, refl, sym, ◌∙◌, ap, subst, arith, if◌then◌else◌, replicate}
use Rattle.std.specs.Prelude.{nat_lt}
use Rattle.std.proofs.lemmas.Bool.Decides.{nat_tests}
use Rattle.std.proofs.lemmas.List.{append-nil}
use Rattle.std.proofs.lemmas.Option.{slice_get_within}
use Rattle.la_base.specs.declared.samples.Run.{Run}
use Rattle.la_base.specs.declared.wires.Feed.{Feed}
use Rattle.la_base.specs.declared.wires.Feed.TheVariants.{Run as RunFeed, End as EndFeed}
use Rattle.la_base.specs.declared.wires.Mark.{Mark}
use Rattle.la_base.specs.declared.wires.Mark.TheVariants.{End as EndMark}
use Rattle.tree_io.specs.declared.feeds.MarkTake.{Ghosts as TakeGhosts}
use Rattle.tree_io.specs.declared.feeds.RunFeed.{Ghosts as FeedGhosts}
use Rattle.decoder_core.specs.declared.end.RunEnd.{RunEnd}
use Rattle.decoder_core.specs.declared.end.RunEnd.TheVariants.{Ended}
use Rattle.tree_runs.specs.Runs.{TookEnds, is_ended}
use Rattle.tree_runs.proofs.Joining.{took_then, took_nothing}
use Rattle.stage_ring.specs.Link.{received, sent}
use Rattle.stage_run.specs.Inputs.{feeds_in, telling}
use Rattle.stage_run.proofs.Telling.{end_feeds}
use Rattle.stage_crew.specs.Driving.{Drove}
use Rattle.tree_io.specs.Feeds.{real}
use Rattle.stage_crew.specs.Gathering.{Fronts, Gathers, TakesUntil}
use Rattle.stage_crew.specs.Keeping.{Collects, Kept}
use Rattle.stage_crew.specs.Pumping.{end_if, is_sent}
use Rattle.stage_crew.specs.Reading.{Fed}
use Rattle.stage_crew.specs.declared.gatherer.Gatherer.{Gatherer}
use Rattle.stage_crew.specs.declared.reader.Reader.{Reader}
use Rattle.stage_crew.proofs.Common.{not_before, not_true}
use Rattle.stage_crew.proofs.Handing.{fans_given}
use Rattle.stage_crew.proofs.Pumping.{sent_all}
use Rattle.stage_crew.proofs.Taking.{takes_none, takes_on, takes_then}

no_flag : (n i : ℕ) → slice_get (replicate n false) i ≡ Some true → ⊥
no_flag zero i is = absurd cc
no_flag (suc n) zero is = absurd (contra is)
  where
    contra : Some false ≡ Some true → ⊥
    contra e = cc
no_flag (suc n) (suc i) is = no_flag n i is

module _ {B Q : Type 0} (g : TakeGhosts B Q) where
  -- nothing was done yet
  pub kept_none : (take : B) (state : Gatherer) (gathered : List (List Mark)) (told : List Bool)
      → state.over ≡ replicate 24 false → state.stopped ≡ false → ((k : ℕ) (m : List Mark) → slice_get gathered k ≡ Some m → m ≡ []) → told ≡ []
      → Kept g take take state gathered told
  kept_none take state gathered told unset going fresh untold = record {
    taken = λ i. [];
    took = took_nothing (g.took take);
    fronts = λ i marks there. subst (λ (b : Bool). Fronts (not b) (λ j. []) gathered) (sym going) (λ j ms at_j. sym (ap real (fresh j ms at_j))) i marks there;
    others = λ i more. refl;
    overs = λ i marks there flag. absurd (no_flag 24 i (ap (λ (l : List Bool). slice_get l i) (sym unset) ∙ flag));
    takes = subst (λ (b : Bool). TakesUntil g false b take take) (sym going) (takes_none g false take);
    untold = λ still. untold;
  }

  -- one round more
  pub kept_next : {take0 take1 take2 : B} {s1 s2 : Gatherer} {g1 g2 : List (List Mark)} {t1 t2 : List Bool}
      → Kept g take0 take1 s1 g1 t1 → Gathers g take1 take2 s1 s2 g1 g2 → (s2.stopped ≡ false → t2 ≡ t1) → Kept g take0 take2 s2 g2 t2
  kept_next {take0} {take1} {take2} {s1} {s2} k q tells = record {
    taken = λ i. k.taken i ++ q.change i;
    took = took_then (g.took take0) (g.took take1) (g.took take2) k.taken q.change k.took q.took;
    fronts = q.fronts k.taken k.fronts;
    others = λ i more. (λ j. k.others i (omega (arith, q.count, more)) j ++ q.others i (omega (arith, q.count, more)) j);
    overs = q.overs k.overs;
    takes = takes_then g k.takes q.takes;
    untold = λ still. tells still ∙ k.untold (not_before s1.stopped s2.stopped q.takes.stays still);
  }

  -- and all that it did
  pub collects : {take0 take1 : B} {state : Gatherer} {gathered : List (List Mark)} {told : List Bool} (take2 : B) (result : RunEnd) (k : ℕ)
      → Kept g take0 take1 state gathered told → ((i : ℕ) → i < length gathered → slice_get state.over i ≡ Some true)
      → TookEnds (g.took take1) (g.took take2) k → (state.stopped ≡ true → k ≡ 0) → (result ≡ Ended → (k ≡ length gathered) × (state.stopped ≡ false))
      → TakesUntil g state.stopped (not (is_ended result)) take1 take2 → Collects g take0 take2 result gathered told
  collects {take0} {take1} {state} {gathered} {told} take2 result k kept all ends no_ends closes takes = record {
    came = λ i marks there. kept.overs i marks there (all i (slice_get_within gathered i marks there));
    done = not state.stopped;
    taken = kept.taken;
    fronts = kept.fronts;
    others = kept.others;
    ends = k;
    took = took_then (g.took take0) (g.took take1) (g.took take2) kept.taken (λ i. if nat_lt i k then EndMark ∷ [] else []) kept.took ends;
    by_done = λ i less. by state.stopped refl i less;
    closes = λ is.
        let c = closes is in
        (ap not c.1, λ i marks there. let within = slice_get_within gathered i marks there in let test : nat_lt i k ≡ true = grind (arith, nat_tests, c.0, within) in test);
    untold = λ is. kept.untold (going state.stopped is);
    takes = takes_on g result (takes_then g kept.takes takes);
  }
    where
      going : (s : Bool) → not s ≡ true → s ≡ false
      going true is = absurd (not_true refl is)
      going false is = refl

      by : (s : Bool) → s ≡ state.stopped → (i : ℕ) → nat_lt i k ≡ true → not state.stopped ≡ true
      by true is i less =
          let zero_k = no_ends (sym is) in
          let none_less : nat_lt i k ≡ false = grind (arith, nat_tests, zero_k) in
          absurd (not_true none_less less)
      by false is i less = ap not (sym is)

module _ {A O B Q : Type 0} (f : FeedGhosts A O) (g : TakeGhosts B Q) where
  module _ {feed0 : A} {reader : Reader A} (fed : Fed f feed0 reader) (over : is_sent reader.pump ≡ true) {take0 take2 : B} {result : RunEnd} {gathered : List (List Mark)} {told : List Bool}
      (c : Collects g take0 take2 result gathered told) (heard : told ≡ [] → received reader.stop ≡ []) where
    -- it has read to the end of its feed, where it wasn't stopped before the ends
    pub read_all : c.done ≡ true → f.at_end reader.feed.now ≡ true
    read_all done = by reader.stop_heard refl
      where
        by : (b : Bool) → b ≡ reader.stop_heard → f.at_end reader.feed.now ≡ true
        by true is = absurd (fed.heard (sym is) (heard (c.untold done)))
        by false is = fed.at_end (fed.in_place.said (sent_all reader.pump over).0) (sym is)

    pub drove : Drove (f.gave feed0) (f.gave reader.feed.now) (g.took take0) (g.took take2) (f.at_end reader.feed.now) result (map sent reader.feeds.items) gathered
    drove =
        let p = reader.pump in
        let is = sent_all p over in
        record {
          lists = fed.lists;
          gave = fed.gave;
          fed = λ j s there.
              ap (feeds_in 0) (fans_given fed.pumped.fans is.1 is.2 j s there ∙ ap (λ (b : Bool). fed.pumped.fed ++ end_if (telling p.upper) b) is.0)
              ∙ end_feeds fed.pumped.fed p.upper p.upper fed.pumped.told refl
              ∙ ap (λ (l : List Feed). l ++ EndFeed ∷ []) (sym (append-nil (feeds_in 0 fed.pumped.fed)) ∙ ap (λ (l : List Run). feeds_in 0 fed.pumped.fed ++ map RunFeed l) (sym (fed.pumped.all is.0)) ∙ fed.pumped.left);
          came = c.came;
          done = c.done;
          taken = c.taken;
          fronts = c.fronts;
          others = c.others;
          ends = c.ends;
          took = c.took;
          by_end = λ i less. let is_done = c.by_done i less in (is_done, read_all is_done);
          closes = c.closes;
        }
