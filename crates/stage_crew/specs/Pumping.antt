-- How far the runs of a feed were sent to the roots.
use Rattle.std.specs.Prelude.{◌≡◌, ◌≤◌, Bool, true, false, List, [], ◌∷◌, ◌++◌, map, drop, length}
use Rattle.std.specs.Prelude.{◌&&◌, nat_eq}
use Rattle.la_base.specs.declared.samples.Run.{Run}
use Rattle.la_base.specs.declared.wires.Feed.TheVariants.{Run as RunFeed}
use Rattle.tree_io.specs.Feeds.{together}
use Rattle.tree_io.specs.declared.feeds.RunFeed.{Ghosts as FeedGhosts}
use Rattle.stage_run.specs.Inputs.{feeds_in, told_behind, telling}
use Rattle.stage_run.specs.declared.input.HalfRun.{HalfRun}
use Rattle.stage_crew.specs.Fans.{Fans}
use Rattle.stage_crew.specs.declared.pump.Pump.{Pump}

-- an end, once it was told
abbrev pub end_if : {X : Type 0} → X → Bool → List X
end_if last true = last ∷ []
end_if last false = []

-- what is behind a place of the runs that the feed gave last is still to be put into the row; of
-- the row some is handed out
pub record Pumped (lists : List (List Run)) (held : List Run) (pump : Pump)
    (sents : List (List HalfRun)) : Type 0 where
  pub fed : List HalfRun
  pub left : feeds_in 0 fed ++ map RunFeed (drop pump.at held) ≡ map RunFeed (together lists)
  pub told : told_behind 0 fed ≡ pump.upper
  pub all : pump.said ≡ true → drop pump.at held ≡ []
  pub fans : Fans sents pump.row pump.cursor (fed ++ end_if (telling pump.upper) pump.said)

-- the place is one of these runs; and the end is told once no more runs are asked for
pub record InPlace (held : List Run) (pump : Pump) : Type 0 where
  pub at : pump.at ≤ length held
  pub said : pump.said ≡ true → pump.over ≡ true

-- whether the end was sent to each root
abbrev pub is_sent : Pump → Bool
is_sent pump = pump.said && nat_eq (length pump.row) 0 && nat_eq pump.cursor.child 0

-- all of the row was handed out, and the end wasn't put there yet
pub record IsFree (pump : Pump) : Type 0 where
  pub said : pump.said ≡ false
  pub none : pump.row ≡ []
  pub first : pump.cursor.child ≡ 0

module _ {A O : Type 0} (f : FeedGhosts A O) where
  -- more runs were asked of the feed, put into the row or handed out; once no more are asked for,
  -- the feed isn't called
  pub record Pumps (old new : A) (pump_old pump_new : Pump)
      (sents_old sents_new : List (List HalfRun)) : Type 0 where
    pub more : List (List Run)
    pub gave : (earlier : List (List Run)) → f.gave old earlier → f.gave new (earlier ++ more)
    pub pumped : (lists : List (List Run)) → Pumped lists (f.held old) pump_old sents_old
        → Pumped (lists ++ more) (f.held new) pump_new sents_new
    pub in_place : InPlace (f.held new) pump_new
    pub origin : f.origin new ≡ f.origin old
    pub over : pump_old.over ≡ true → (pump_new.over ≡ true) × (new ≡ old)
    pub at_end : pump_old.over ≡ false → pump_new.over ≡ true → f.at_end new ≡ true

  -- the same of a pump that is in place
  abbrev pub PumpsOn : A → A → Pump → Pump → List (List HalfRun) → List (List HalfRun) → Type 0
  PumpsOn old new pump_old pump_new sents_old sents_new =
      InPlace (f.held old) pump_old → Pumps old new pump_old pump_new sents_old sents_new
