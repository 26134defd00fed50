-- What holds of all stops, as laws.
use Rattle.std.specs.Prelude.{ℕ, ◌≡◌, ◌≤◌, List, ◌++◌, length}
use Rattle.wait_cond.specs.Stops.{IsStop, Stop, Chain, NoneMet, AreStops}
use Rattle.wait_cond.specs.declared.alt.Alt.{Alt}

-- a wait has one stop at most: one place and one set
abbrev pub OneStop : Type 0
OneStop =
    (samples : List ℕ) (alts : List Alt) (from p q met set : ℕ) → IsStop samples alts from p met
    → IsStop samples alts from q set → (p ≡ q) × (met ≡ set)

-- a list of samples has one list of all stops
abbrev pub OneList : Type 0
OneList =
    (samples : List ℕ) (alts : List Alt) (stops others : List Stop) → AreStops samples alts stops
    → AreStops samples alts others → stops ≡ others

-- the stops of a longer list go on from those of the shorter one
abbrev pub GoOn : Type 0
GoOn = (samples more : List ℕ) (alts : List Alt) (stops longer : List Stop)
    → AreStops samples alts stops → AreStops (samples ++ more) alts longer
    → (new : List Stop) × (longer ≡ stops ++ new)

-- a chain of stops is one of every longer list
abbrev pub ChainStays : Type 0
ChainStays =
    (samples more : List ℕ) (alts : List Alt) (from to : ℕ) (stops : List Stop)
    → Chain samples alts from stops to → Chain (samples ++ more) alts from stops to

-- where a front of the samples meets nothing, no longer list meets anything there
abbrev pub NoneStays : Type 0
NoneStays =
    (samples more : List ℕ) (alts : List Alt) (from end : ℕ) → end ≤ length samples
    → NoneMet samples alts from end → NoneMet (samples ++ more) alts from end
