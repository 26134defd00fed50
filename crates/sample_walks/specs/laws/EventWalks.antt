-- Walks by events are sound walks, and give what a definition over the whole list of events gives.
use Rattle.std.proofs.Common.{◌≡◌, inl, inr, ℕ, ◌+◌, ◌≤◌, List, [], ◌∷◌, ◌++◌, length, Option, Some}
use Rattle.std.proofs.Common.{None, sym, ◌∙◌, ap, subst, arith, append_assoc}
use Rattle.std.proofs.lemmas.Bool.{true≢false}
use Rattle.std.proofs.lemmas.List.{append-nil}
use Rattle.la_base.specs.declared.wires.Out.{Out}
use Rattle.list_cuts.specs.Neighbours.{at_neighbours, last_of}
use Rattle.list_cuts.proofs.NeighbourLaws.{at_neighbours_push}
use Rattle.decoder_core.specs.Promises.{NotesFrom, PacketsOn, packet_starts}
use Rattle.decoder_core.specs.laws.OutLaws.{PacketsOn-append}
use Rattle.sample_walks.specs.Walks.{Between, walked, given, given_from, Sound}
use Rattle.sample_walks.specs.Events.{EventWalk, is_some_event, gives_all, next_all, by_events}
use Rattle.sample_walks.specs.Events.{SoundEvents, PushedEvents}
use Rattle.sample_walks.specs.laws.WalkLaws.{walked_push, given_push}

module _ {H E : Type 0} (w : EventWalk H E) where
  module _ (fits : H → ℕ → Option ℕ → Type 0) (sound : SoundEvents w fits) where
    -- what a fact of no event and one of an event are together
    pub by_event : (P : List E → Type 0) (q : ℕ) (before : Option ℕ) (now : ℕ)
        → (w.event_at q before now ≡ [] → P [])
        → ((e : E) → w.event_at q before now ≡ e ∷ [] → P (e ∷ [])) → P (w.event_at q before now)
    by_event P q before now none some = elim (sound.one q before now) [
      | inl is ↦ subst P (sym is) (none is)
      | inr one ↦ subst P (sym one.1) (some one.0 one.1)
    ]

    single : (h : H) (e : E) → gives_all w h (e ∷ []) ≡ w.gives h e
    single h e = append-nil (w.gives h e)

    pub events_sound : Sound (by_events w) fits (λ h q. Unit {0})
    events_sound = record {
      begin_fits = sound.begin_fits;
      begin_timed = tt;
      next_fits =
          λ h q before now fit. by_event
          (λ (es : List E). fits (next_all w h es) (q + 1) (Some now)) q before now
          (λ is. sound.fits_on h q before now fit is)
          (λ e is. sound.next_fits h q before now e fit is);
      next_timed = λ h q before now fit moves. tt;
      still = λ h q before now fit stays. elim (sound.one q before now) [
        | inl is ↦
            (ap (λ (es : List E). gives_all w h es) is, ap (λ (es : List E). next_all w h es) is)
        | inr one ↦ absurd (true≢false (sym (ap (λ (es : List E). is_some_event es) one.1) ∙ stays))
      ];
      none = λ h q before now from fit timed set. ap (λ (es : List E). is_some_event es)
          (sound.none h q before now from fit set);
      some = λ h q before now from met fit timed set some. ap (λ (es : List E). is_some_event es)
          (sound.some h q before now from met fit set some);
      few = λ h q before now. by_event (λ (es : List E). length (gives_all w h es) ≤ 16) q before
          now (λ is. omega arith)
          (λ e is. subst (λ (l : List Out). length l ≤ 16) (sym (single h e)) (sound.few h e));
      notes = λ h q before now fit. by_event
          (λ (es : List E). NotesFrom (w.near h q) (gives_all w h es)) q before now (λ is. tt)
          (λ e is. subst (λ (l : List Out). NotesFrom (w.near h q) l) (sym (single h e))
          (sound.notes h q before now e fit is));
      packets =
          λ h q before now fit. by_event
          (λ (es : List E). Between (w.near h q) (w.near (next_all w h es) (q + 1))
          (packet_starts (gives_all w h es))) q before now
          (λ is. sound.near_on h q before fit)
          (λ e is. subst
          (λ (l : List Out). Between (w.near h q) (w.near (w.next h e) (q + 1)) (packet_starts l))
          (sym (single h e)) (sound.packets h q before now e fit is));
    }

    -- each packet is of the wire of the walk
    all_on : (h : H) (es : List E) → PacketsOn w.wire (gives_all w h es)
    all_on h [] = tt
    all_on h (e ∷ es) =
        PacketsOn-append w.wire (w.gives h e) (gives_all w (w.next h e) es) (sound.on_wire h e)
        (all_on (w.next h e) es)

    from_on : (list : List ℕ) (h : H) (k : ℕ) (before : Option ℕ)
        → PacketsOn w.wire (given_from (by_events w) h k before list)
    from_on [] h k before = tt
    from_on (now ∷ later) h k before =
        let es = w.event_at k before now in
        PacketsOn-append w.wire (gives_all w h es)
        (given_from (by_events w) (next_all w h es) (k + 1) (Some now) later) (all_on h es)
        (from_on later (next_all w h es) (k + 1) (Some now))

    pub events_on : (list : List ℕ) → PacketsOn w.wire (given (by_events w) list)
    unfolding given
    events_on list = from_on list w.begin 0 None

  -- the definition on the events of samples is the walk over them
  module _ (outs : List E → List Out) (kept : List E → H) (pushed : PushedEvents w outs kept) where
    abbrev events : List ℕ → List E
    events samples = at_neighbours w.event_at samples

    outs_more : (more es : List E) → outs (es ++ more) ≡ outs es ++ gives_all w (kept es) more
    outs_more [] es = ap outs (append-nil es) ∙ sym (append-nil (outs es))
    outs_more (e ∷ more) es =
        ap outs (sym (append_assoc es (e ∷ []) more))
        ∙ outs_more more (es ++ e ∷ [])
        ∙ (λ i. pushed.outs_push es e i ++ gives_all w (pushed.kept_push es e i) more)
        ∙ append_assoc (outs es) (w.gives (kept es) e) (gives_all w (w.next (kept es) e) more)

    kept_more : (more es : List E) → kept (es ++ more) ≡ next_all w (kept es) more
    kept_more [] es = ap kept (append-nil es)
    kept_more (e ∷ more) es =
        ap kept (sym (append_assoc es (e ∷ []) more)) ∙ kept_more more (es ++ e ∷ [])
        ∙ ap (λ (h : H). next_all w h more) (pushed.kept_push es e)

    -- what holds of a list and, with one more sample, of the longer list
    record Told (s : List ℕ) : Type 0 where
      pub outs_are : outs (events s) ≡ given (by_events w) s
      pub kept_is : kept (events s) ≡ walked (by_events w) s

    told_push : (s : List ℕ) (now : ℕ) → Told s → Told (s ++ now ∷ [])
    told_push s now t = record {
      outs_are = ap outs (at_neighbours_push w.event_at s now)
          ∙ outs_more (w.event_at (length s) (last_of s) now) (events s)
          ∙ (λ i. t.outs_are i ++ gives_all w (t.kept_is i) (w.event_at (length s) (last_of s) now))
          ∙ sym (given_push (by_events w) s now);
      kept_is = ap kept (at_neighbours_push w.event_at s now)
          ∙ kept_more (w.event_at (length s) (last_of s) now) (events s)
          ∙ ap (λ (h : H). next_all w h (w.event_at (length s) (last_of s) now)) t.kept_is
          ∙ sym (walked_push (by_events w) s now);
    }

    told_more : (more s : List ℕ) → Told s → Told (s ++ more)
    told_more [] s t = subst Told (sym (append-nil s)) t
    told_more (now ∷ more) s t =
        subst Told (append_assoc s (now ∷ []) more)
        (told_more more (s ++ now ∷ []) (told_push s now t))

    told : (s : List ℕ) → Told s
    unfolding walked given
    told s = told_more s [] (record { outs_are = pushed.no_outs; kept_is = pushed.no_kept })

    pub events_given : (s : List ℕ) → outs (events s) ≡ given (by_events w) s
    events_given s = (told s).outs_are

    pub events_walked : (s : List ℕ) → kept (events s) ≡ walked (by_events w) s
    events_walked s = (told s).kept_is
