-- What the writing of some samples' stops does.
use Rattle.std.specs.Prelude.{ℕ, List, ◌++◌, Option, Result, Ok, Err}
use Rattle.std.specs.Io.KnownBytes.{Appends}
use Rattle.la_io.specs.Causes.{AppendsFront}
use Rattle.la_io.specs.declared.outside.Failed.{Failed}
use Rattle.wait_cond.specs.Stops.{Stop, Chain}
use Rattle.wait_cond.specs.Waiting.{Waits, alts_of, wait_from}
use Rattle.wait_cond.specs.declared.alt.Alt.{Alt}
use Rattle.wait_cond.specs.declared.scan.Waiter.{Waiter}
use Rattle.listing_out.specs.StopLines.{lines_of}

-- all of the samples were consumed, and the lines of their stops were appended
pub record AllWritten (waiter : Waiter) (alts : List Alt) (all : List ℕ) (stops : List Stop)
    (old new : Option (List ℕ)) : Type 0 where
  pub more : List Stop
  pub waits : Waits waiter all
  pub chain : Chain all alts 0 (stops ++ more) (wait_from waiter)
  pub written : Appends old new (lines_of more)

-- a front of those lines was appended
pub record CutOff (alts : List Alt) (all : List ℕ) (stops : List Stop)
    (old new : Option (List ℕ)) : Type 0 where
  pub more : List Stop
  pub to : ℕ
  pub chain : Chain all alts 0 (stops ++ more) to
  pub written : AppendsFront old new (lines_of more)

-- what an answer means for samples, where the waiter stood for this list and these stops led to its
-- wait
abbrev pub Written : Waiter → Waiter → List ℕ → List ℕ → List Stop → Option (List ℕ)
    → Option (List ℕ) → Result (Unit {0}) Failed → Type 0
Written waiter before samples list stops old new (Ok done) =
    AllWritten waiter (alts_of before) (list ++ samples) stops old new
Written waiter before samples list stops old new (Err failed) =
    CutOff (alts_of before) (list ++ samples) stops old new

-- the stops of samples are written, whatever the waiter stood for
abbrev pub WritesStops : Waiter → Waiter → List ℕ → Option (List ℕ) → Option (List ℕ)
    → Result (Unit {0}) Failed → Type 0
WritesStops before waiter samples old new result =
    (list : List ℕ) (stops : List Stop) → Waits before list
    → Chain list (alts_of before) 0 stops (wait_from before)
    → Written waiter before samples list stops old new result
