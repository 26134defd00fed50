-- What a reader has read and sent.
use Rattle.std.proofs.Common.{◌≡◌, ◌∙◌, ℕ, Bool, true, false, List, [], ◌++◌, map, length, slice_get, Some, ◌⊎◌, inl, inr, refl, sym, ap, subst, arith, append_assoc}
use Rattle.std.proofs.lemmas.List.{append-nil}
use Rattle.la_base.specs.declared.samples.Run.{Run}
use Rattle.la_base.specs.declared.wires.Feed.TheVariants.{Run as RunFeed}
use Rattle.tree_io.specs.declared.feeds.RunFeed.{Ghosts as FeedGhosts}
use Rattle.stage_ring.specs.Link.{received, rx_link, rx_misses, sent}
use Rattle.stage_ring.specs.declared.ends.Rx.{Rx}
use Rattle.stage_run.specs.Acts.{More}
use Rattle.stage_run.specs.Inputs.{telling}
use Rattle.stage_run.specs.declared.input.HalfRun.{HalfRun}
use Rattle.stage_crew.specs.Fans.{Fans}
use Rattle.stage_crew.specs.Listening.{Later}
use Rattle.stage_crew.specs.Pumping.{Pumped, PumpsOn, end_if}
use Rattle.stage_crew.specs.Reading.{Fed, Obeys, Reads, ReadsOn}
use Rattle.stage_crew.specs.declared.pump.Pump.{Pump}
use Rattle.stage_crew.specs.declared.reader.Reader.{Reader}
use Rattle.stage_crew.proofs.Common.{gone, not_true}
use Rattle.stage_crew.proofs.Handing.{fans_fresh}

-- nothing was sent yet, and all that the feed gave before is passed over
pub pumped_none : (held : List Run) (pump : Pump) (sents : List (List HalfRun)) → pump.row ≡ [] → pump.cursor.child ≡ 0 → pump.at ≡ length held → pump.upper ≡ 0 → pump.said ≡ false
    → ((k : ℕ) (s : List HalfRun) → slice_get sents k ≡ Some s → s ≡ []) → Pumped [] held pump sents
pumped_none held pump sents none first at upper said fresh = record {
  fed = [];
  left = ap (map RunFeed) (gone held pump.at (omega (arith, at)));
  told = sym upper;
  all = λ is. absurd (not_true said is);
  fans = subst (λ (b : Bool). Fans sents pump.row pump.cursor (end_if (telling pump.upper) b)) (sym said) (subst (λ (l : List HalfRun). Fans sents l pump.cursor []) (sym none) (fans_fresh sents pump.cursor first fresh));
}

module _ {A O : Type 0} (f : FeedGhosts A O) where
  pub fed_none : (reader : Reader A) → Pumped [] (f.held reader.feed.now) reader.pump (map sent reader.feeds.items) → reader.pump.at ≡ length (f.held reader.feed.now) → reader.pump.over ≡ false → reader.pump.said ≡ false → reader.stop_heard ≡ false
      → (start : A) → reader.feed.now ≡ start → Fed f start reader
  fed_none reader pumped at over said told start is = record {
    lists = [];
    gave = λ earlier had. subst (f.gave reader.feed.now) (sym (append-nil earlier)) (subst (λ (a : A). f.gave a earlier) (sym is) had);
    origin = ap f.origin is;
    pumped = pumped;
    in_place = record { at = omega (arith, at); said = λ s. absurd (not_true said s) };
    at_end = λ o t. absurd (not_true over o);
    heard = λ t none. absurd (not_true told t);
    obeys = λ t. absurd (not_true told t);
  }

  -- it has read on
  pub fed_on : (old new : Reader A) → PumpsOn f old.feed.now new.feed.now old.pump new.pump (map sent old.feeds.items) (map sent new.feeds.items) → new.stop_heard ≡ old.stop_heard → new.stop ≡ old.stop
      → (start : A) → Fed f start old → Fed f start new
  fed_on old new pumps told stop start had =
      let p = pumps had.in_place in
      record {
        lists = had.lists ++ p.more;
        gave = λ earlier gave. subst (f.gave new.feed.now) (append_assoc earlier had.lists p.more) (p.gave (earlier ++ had.lists) (had.gave earlier gave));
        origin = p.origin ∙ had.origin;
        pumped = p.pumped had.lists had.pumped;
        in_place = p.in_place;
        at_end = λ over still. ended old.pump.over refl p.at_end p.over over (sym told ∙ still);
        heard = λ is none. had.heard (sym told ∙ is) (ap received (sym stop) ∙ none);
        obeys = λ is. (p.over (had.obeys (sym told ∙ is))).0;
      }
    where
      ended : (o : Bool) → o ≡ old.pump.over → (old.pump.over ≡ false → new.pump.over ≡ true → f.at_end new.feed.now ≡ true) → (old.pump.over ≡ true → (new.pump.over ≡ true) × (new.feed.now ≡ old.feed.now))
          → new.pump.over ≡ true → old.stop_heard ≡ false → f.at_end new.feed.now ≡ true
      ended true is asks keeps over still = ap f.at_end (keeps (sym is)).1 ∙ had.at_end (sym is) still
      ended false is asks keeps over still = asks (sym is) over

  -- its pump stays in place, and calls no feed where it is over
  pub obeys_on : (old new : Reader A) → PumpsOn f old.feed.now new.feed.now old.pump new.pump (map sent old.feeds.items) (map sent new.feeds.items) → new.stop_heard ≡ old.stop_heard
      → Obeys f old → Obeys f new × (old.pump.over ≡ true → new.feed.now ≡ old.feed.now)
  obeys_on old new pumps told had =
      let p = pumps had.in_place in
      (record { in_place = p.in_place; over = λ is. (p.over (had.over (sym told ∙ is))).0 }, λ is. (p.over is).1)

  -- it has listened, and then read on
  pub turn_reads : (old mid new : Reader A) → ReadsOn f old mid → mid.feed.now ≡ old.feed.now → (mid.stop_heard ≡ false → More (rx_misses old.stop) (rx_misses mid.stop)) → Reads f mid new → ReadsOn f old new
  turn_reads old mid new heard same looked reads = record {
    lent = reads.lent ∙ heard.lent;
    feeds = reads.feeds ∙ heard.feeds;
    stop = ap (λ (r : Rx Bool). rx_link r) reads.stop ∙ heard.stop;
    keeps = λ start had. reads.keeps start (heard.keeps start had);
    listens = λ had.
        let h = heard.listens had in
        let r = reads.obeys h.0 in (
          r.0,
          record {
            stays = λ is. reads.told ∙ h.1.stays is;
            hears = λ is. ap (λ (r : Rx Bool). received r) reads.stop ∙ h.1.hears (sym reads.told ∙ is);
            obeys = λ is. r.1 (h.0.over (h.1.stays is)) ∙ same;
            looks = by mid.stop_heard refl h.0 r.1;
            misses = subst (Later (rx_misses old.stop)) (sym (ap (λ (r : Rx Bool). rx_misses r) reads.stop)) h.1.misses;
          },
        );
  }
    where
      by : (b : Bool) → b ≡ mid.stop_heard → Obeys f mid → (mid.pump.over ≡ true → new.feed.now ≡ mid.feed.now) → (new.feed.now ≡ old.feed.now) ⊎ More (rx_misses old.stop) (rx_misses new.stop)
      by true is had stays = inl (stays (had.over (sym is)) ∙ same)
      by false is had stays = inr (subst (More (rx_misses old.stop)) (sym (ap (λ (r : Rx Bool). rx_misses r) reads.stop)) (looked (sym is)))
