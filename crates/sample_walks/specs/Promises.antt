-- What the outputs of a sound walk promise.
use Rattle.std.specs.Prelude.{ℕ, ◌≡◌, List, [], ◌++◌, length, Option}
use Rattle.la_base.specs.declared.wires.Out.{Out}
use Rattle.decoder_core.specs.Promises.{IsFloor, GivesFrom, GivesNothing, KeepsFront}
use Rattle.decoder_core.specs.Promises.{PacketsInOrder, AddsFew, Rests}
use Rattle.list_cuts.specs.Neighbours.{at_neighbours, last_of}
use Rattle.sample_walks.specs.Walks.{Walk, walked, given, EndsThere, Sound}
use Rattle.sample_walks.specs.Events.{EventWalk, by_events, PushedEvents}

-- quiet, one stop, nothing, prefix, order, few, and the floor of all later samples, of notes and of
-- packets
pub record Promises {H : Type 0} (w : Walk H) (outs : List ℕ → List Out) : Type 0 where
  pub quiet : (seen more : List ℕ) → EndsThere w seen → Rests (w.alts (walked w seen)) seen more
      → outs (seen ++ more) ≡ outs seen
  pub one_stop : (seen more : List ℕ) → EndsThere w seen → EndsThere w (seen ++ more)
      → Rests (w.alts (walked w seen)) seen more → more ≡ []
  pub nothing : GivesNothing outs
  pub prefix : KeepsFront outs
  pub order : PacketsInOrder outs
  pub few : AddsFew outs
  pub floor : (list : List ℕ) → IsFloor outs list (w.near (walked w list) (length list))
  pub packets : (list : List ℕ) → GivesFrom outs list (w.near (walked w list) (length list))

-- a state that samples leave, and one that they leave where the last of them is a stop
abbrev pub Reached : {H : Type 0} → Walk H → H → ℕ → Option ℕ → Type 0
Reached w h q before =
    (list : List ℕ) × (walked w list ≡ h) × (length list ≡ q) × (last_of list ≡ before)

abbrev pub Began : {H : Type 0} → Walk H → H → ℕ → Type 0
Began w h from = (list : List ℕ) × EndsThere w list × (walked w list ≡ h) × (length list ≡ from)

-- outputs that are those of a walk which is sound where samples lead keep these promises
abbrev pub KeepsPromises : Type 0 → Type 0
KeepsPromises H =
    (w : Walk H) (outs : List ℕ → List Out) → Sound w (Reached w) (Began w)
    → ((list : List ℕ) → outs list ≡ given w list) → Promises w outs

-- a definition over whole lists of events that goes on as the events say gives what the walk by
-- events gives
abbrev pub GivesByEvents : Type 0 → Type 0 → Type 0
GivesByEvents H E =
    (w : EventWalk H E) (outs : List E → List Out) (kept : List E → H) → PushedEvents w outs kept
    → (list : List ℕ) → outs (at_neighbours w.event_at list) ≡ given (by_events w) list

-- and leaves what that keeps
abbrev pub KeepsByEvents : Type 0 → Type 0 → Type 0
KeepsByEvents H E =
    (w : EventWalk H E) (outs : List E → List Out) (kept : List E → H) → PushedEvents w outs kept
    → (list : List ℕ) → kept (at_neighbours w.event_at list) ≡ walked (by_events w) list
