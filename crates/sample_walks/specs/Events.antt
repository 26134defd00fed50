-- Walks by events: what two neighbouring samples give is at most one event, and nothing else
-- changes or gives anything.
use Rattle.std.specs.Prelude.{ℕ, ◌≡◌, ◌≢◌, ◌+◌, ◌≤◌, ◌⊎◌, Bool, true, false, List, [], ◌∷◌, ◌++◌}
use Rattle.std.specs.Prelude.{length, Option, Some, None}
use Rattle.la_base.specs.declared.wires.Out.{Out}
use Rattle.la_base.specs.declared.wires.Wire.{Wire}
use Rattle.wait_cond.specs.declared.alt.Alt.{Alt}
use Rattle.wait_cond.specs.Stops.{MetSet}
use Rattle.decoder_core.specs.Promises.{NotesFrom, PacketsOn, packet_starts}
use Rattle.sample_walks.specs.Walks.{Between, Walk}

-- a walk by events: its states, and what one event does to a state
pub record EventWalk (H E : Type 0) : Type 0 where
  -- the event of a sample, by its place, the sample before it and its own value
  pub event_at : ℕ → Option ℕ → ℕ → List E
  -- what is kept of no events; what is kept behind an event, and what it gives
  pub begin : H
  pub next : H → E → H
  pub gives : H → E → List Out
  -- what is waited for, and where that starts which has begun and isn't given yet
  pub alts : H → List Alt
  pub near : H → ℕ → ℕ
  -- the event of a stop, by what is kept, its place, its own value and the set of alternatives that
  -- it meets
  pub event_of : H → ℕ → ℕ → ℕ → E
  -- the wire of the packets that are given
  pub wire : Wire

-- whether there is an event
abbrev pub is_some_event : {E : Type 0} → List E → Bool
is_some_event [] = false
is_some_event (e ∷ es) = true

module _ {H E : Type 0} (w : EventWalk H E) where
  -- what events give one after another, and what is then kept
  abbrev pub gives_all : H → List E → List Out
  gives_all h [] = []
  gives_all h (e ∷ es) = w.gives h e ++ gives_all (w.next h e) es

  abbrev pub next_all : H → List E → H
  next_all h [] = h
  next_all h (e ∷ es) = next_all (w.next h e) es

  -- the walk over samples that goes by the events of neighbours
  abbrev pub by_events : Walk H
  by_events = record {
    begin = w.begin;
    next = λ h k before now. next_all h (w.event_at k before now);
    gives = λ h k before now. gives_all h (w.event_at k before now);
    moves = λ h k before now. is_some_event (w.event_at k before now);
    alts = w.alts;
    near = w.near;
  }

  -- what events owe: eleven facts, all of one state and one sample. `fits` is that of a walk over
  -- samples; no time is asked for, since no alternative has a skip
  pub record SoundEvents (fits : H → ℕ → Option ℕ → Type 0) : Type 0 where
    pub one : (q : ℕ) (before : Option ℕ) (now : ℕ)
        → (w.event_at q before now ≡ []) ⊎ ((e : E) × (w.event_at q before now ≡ e ∷ []))
    pub begin_fits : fits w.begin 0 None
    pub fits_on : (h : H) (q : ℕ) (before : Option ℕ) (now : ℕ) → fits h q before
        → w.event_at q before now ≡ [] → fits h (q + 1) (Some now)
    pub next_fits : (h : H) (q : ℕ) (before : Option ℕ) (now : ℕ) (e : E) → fits h q before
        → w.event_at q before now ≡ e ∷ [] → fits (w.next h e) (q + 1) (Some now)
    pub none : (h : H) (q : ℕ) (before : Option ℕ) (now from : ℕ) → fits h q before
        → MetSet (w.alts h) before now from q 0 → w.event_at q before now ≡ []
    pub some : (h : H) (q : ℕ) (before : Option ℕ) (now from met : ℕ) → fits h q before
        → MetSet (w.alts h) before now from q met → met ≢ 0
        → w.event_at q before now ≡ w.event_of h q now met ∷ []
    pub few : (h : H) (e : E) → length (w.gives h e) ≤ 16
    pub near_on : (h : H) (q : ℕ) (before : Option ℕ) → fits h q before
        → w.near h q ≤ w.near h (q + 1)
    pub notes : (h : H) (q : ℕ) (before : Option ℕ) (now : ℕ) (e : E) → fits h q before
        → w.event_at q before now ≡ e ∷ [] → NotesFrom (w.near h q) (w.gives h e)
    pub packets : (h : H) (q : ℕ) (before : Option ℕ) (now : ℕ) (e : E) → fits h q before
        → w.event_at q before now ≡ e ∷ []
        → Between (w.near h q) (w.near (w.next h e) (q + 1)) (packet_starts (w.gives h e))
    pub on_wire : (h : H) (e : E) → PacketsOn w.wire (w.gives h e)

  -- a definition over the whole list of events, and what it leaves, with one more event
  pub record PushedEvents (outs : List E → List Out) (kept : List E → H) : Type 0 where
    pub no_outs : outs [] ≡ []
    pub no_kept : kept [] ≡ w.begin
    pub outs_push : (es : List E) (e : E) → outs (es ++ e ∷ []) ≡ outs es ++ w.gives (kept es) e
    pub kept_push : (es : List E) (e : E) → kept (es ++ e ∷ []) ≡ w.next (kept es) e
