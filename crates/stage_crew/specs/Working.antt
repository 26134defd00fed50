-- What the frames of a crew need, and what they do.
use Rattle.std.specs.Prelude.{ℕ, ◌≡◌, ◌≤◌, ◌<◌, ◌+◌, ◌++◌, List, [], Bool, Some, map, slice_get}
use Rattle.std.specs.Prelude.{vec_capacity, vec_len}
use Rattle.la_base.specs.declared.wires.Mark.{Mark}
use Rattle.tree_io.specs.declared.feeds.MarkTake.{Ghosts as TakeGhosts}
use Rattle.tree_io.specs.declared.feeds.RunFeed.{Ghosts as FeedGhosts}
use Rattle.decoder_core.specs.declared.end.RunEnd.{RunEnd}
use Rattle.tree_runs.specs.Trees.{ReadsFeed, TakesRun}
use Rattle.stage_ring.specs.Link.{received, rx_link, sent, tx_link}
use Rattle.stage_crew.specs.Crew.{AllGoOn, Each, Ends}
use Rattle.stage_crew.specs.Driving.{Drove}
use Rattle.stage_crew.specs.Gathering.{AreMarksOf}
use Rattle.stage_crew.specs.Keeping.{Collects}
use Rattle.stage_crew.specs.declared.crew.CrewEnds.{CrewEnds}
use Rattle.stage_crew.specs.declared.crew.DriverEnds.{DriverEnds}
use Rattle.stage_crew.specs.declared.crew.FrameResult.{FrameResult}
use Rattle.stage_crew.specs.declared.crew.Ran.{Ran}
use Rattle.stage_crew.specs.declared.crew.Work.{Work}
use Rattle.stage_crew.specs.declared.turns.Turns.{Ghosts as TurnsGhosts}

-- the driver has the marks of so many instances; nothing was received of them, and the reader wasn't
-- told of a stop
pub record AreUnused (instances : ℕ) (ends : DriverEnds) : Type 0 where
  pub of : AreMarksOf instances ends.marks
  pub fresh : (k : ℕ) (marks : List Mark) → slice_get (map received ends.marks.items) k ≡ Some marks
      → marks ≡ []
  pub untold : sent ends.stop ≡ []

-- each stage that is to be run has room where it comes back, and where no thread takes it; there are
-- 24 at the most
pub record HasRoom {D S : Type 0} (work : Work D S) : Type 0 where
  pub done : vec_len work.done + vec_len work.todo ≤ vec_capacity work.done
  pub own : vec_len work.own + vec_len work.todo ≤ vec_capacity work.own
  pub few : vec_len work.todo ≤ 24

-- so has the reader; and none came back yet
pub record IsReady {D S : Type 0} (work : Work D S) : Type 0 where
  pub room : HasRoom work
  pub reader : (vec_len work.readers < vec_capacity work.readers) × (vec_len work.readers ≡ 0)
  pub none : work.done.items ≡ []

-- there are workers for the stages that are to be run, and a driver that has done nothing
pub record CanRun {D S : Type 0} (workers instances : ℕ) (work : Work D S) (ends : DriverEnds)
    : Type 0 where
  pub ready : IsReady work
  pub few : vec_len work.todo ≤ workers
  pub unused : AreUnused instances ends

-- the stages came back, each over, behind those that did before; those that the driver runs went on
pub record WorksOff {D S : Type 0} (reads_on : D → D → Type 0) (goes_on : S → S → Type 0)
    (over : S → Bool) (old new : Work D S) : Type 0 where
  pub readers : AllGoOn reads_on old.readers new.readers
  pub own : AllGoOn goes_on old.own new.own
  pub done : (made : List S) × (new.done.items ≡ old.done.items ++ made)
      × Each (Ends goes_on over) old.todo.items made
  pub done_len : vec_len new.done ≡ vec_len old.done + vec_len old.todo
  pub room : vec_capacity new.done ≡ vec_capacity old.done

-- a driver, which has the same links, gathered the marks of all instances and had them taken
pub record Drives {A O : Type 0} (g : TakeGhosts A O) (take_old take_new : A) (result : RunEnd)
    (old new : DriverEnds) : Type 0 where
  pub collects : Collects g take_old take_new result (map received new.marks.items) (sent new.stop)
  pub marks : map rx_link new.marks.items ≡ map rx_link old.marks.items
  pub stop : tx_link new.stop ≡ tx_link old.stop

-- a crew has the same links
pub record SameLinks (old new : CrewEnds) : Type 0 where
  pub feeds : map tx_link new.feeds.items ≡ map tx_link old.feeds.items
  pub marks : map rx_link new.marks.items ≡ map rx_link old.marks.items

-- a driver did its part; the reader and the stages came back, each over
pub record FramesRan {A O D S : Type 0} (g : TakeGhosts A O) (d : TurnsGhosts D)
    (s : TurnsGhosts S) (take_old : A) (reader : D) (work : Work D S) (ends : DriverEnds)
    (result : FrameResult D S A) : Type 0 where
  pub drives : Drives g take_old result.take.now result.end ends result.ends
  pub reads : Ends d.goes_on d.over reader result.reader
  pub stages : Each (Ends s.goes_on s.over) work.todo.items result.done.items

-- a crew, which has the same links, sent all that its feed gave, and gathered all marks and had them
-- taken; its stages came back, each over
pub record CrewRuns {A O B Q S : Type 0} (f : FeedGhosts A O) (g : TakeGhosts B Q)
    (s : TurnsGhosts S) (feed_old feed_new : A) (take_old take_new : B) (todo : List S)
    (ends : CrewEnds) (ran : Ran S) : Type 0 where
  pub drove : Drove (f.gave feed_old) (f.gave feed_new) (g.took take_old) (g.took take_new)
      (f.at_end feed_new) ran.end (map sent ran.ends.feeds.items)
      (map received ran.ends.marks.items)
  pub reads : ReadsFeed f ran.end feed_old feed_new
  pub takes : TakesRun g ran.end take_old take_new
  pub links : SameLinks ends ran.ends
  pub stages : Each (Ends s.goes_on s.over) todo ran.stages.items
