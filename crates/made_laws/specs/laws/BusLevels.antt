-- The walk over samples goes by the levels of SCL and SDA alone, whatever the third line does.
use Rattle.std.proofs.Common.{◌≡◌, ℕ, ◌+◌, Bool, true, false, List, [], ◌∷◌, ◌++◌, Option, Some, refl, ◌∙◌, ap}
use Rattle.la_base.specs.Samples.{is_high}
use Rattle.la_base.specs.declared.wires.Out.{Out}
use Rattle.capture_make.specs.Made.{sample_of, samples_of}
use Rattle.sample_walks.specs.Walks.{Walk, given_from}
use Rattle.sample_walks.specs.Events.{gives_all, next_all, by_events}
use Rattle.dec_i2c.specs.declared.held.Segment.{Segment}
use Rattle.dec_i2c.specs.Bus.{Event, event_by, event_at}
use Rattle.dec_i2c.specs.laws.Machine.{i2c_walk}

-- the walk of a bus with SCL in bit 0 and SDA in bit 1
abbrev pub bus_walk : Walk (Option Segment)
bus_walk = by_events (i2c_walk 0 1)

-- a sample has the levels that it was made of
scl_is : (scl sda rx : Bool) → is_high (sample_of scl sda rx) 0 ≡ scl
scl_is true true true = refl
scl_is true true false = refl
scl_is true false true = refl
scl_is true false false = refl
scl_is false true true = refl
scl_is false true false = refl
scl_is false false true = refl
scl_is false false false = refl

sda_is : (scl sda rx : Bool) → is_high (sample_of scl sda rx) 1 ≡ sda
sda_is true true true = refl
sda_is true true false = refl
sda_is true false true = refl
sda_is true false false = refl
sda_is false true true = refl
sda_is false true false = refl
sda_is false false true = refl
sda_is false false false = refl

-- so the event of two neighbours is the event of their levels
pub event_is : (k : ℕ) (scl sda rx scl2 sda2 rx2 : Bool) → event_at 0 1 k (Some (sample_of scl sda rx)) (sample_of scl2 sda2 rx2) ≡ event_by k scl scl2 sda sda2
event_is k scl sda rx scl2 sda2 rx2 = λ i. event_by k (scl_is scl sda rx i) (scl_is scl2 sda2 rx2 i) (sda_is scl sda rx i) (sda_is scl2 sda2 rx2 i)

-- the last level of a line that had this level before
abbrev pub last_level : Bool → List Bool → Bool
last_level level [] = level
last_level level (next ∷ later) = last_level next later

-- three lines are equally long
abbrev pub AlikeLong : List Bool → List Bool → List Bool → Type 0
AlikeLong [] [] [] = Unit {0}
AlikeLong [] [] (rx ∷ rxs) = ⊥
AlikeLong [] (sda ∷ sdas) rxs = ⊥
AlikeLong (scl ∷ scls) [] rxs = ⊥
AlikeLong (scl ∷ scls) (sda ∷ sdas) [] = ⊥
AlikeLong (scl ∷ scls) (sda ∷ sdas) (rx ∷ rxs) = AlikeLong scls sdas rxs

-- what samples give behind a held segment, the first of which stands at place k
unfoldable pub told_from : Option Segment → ℕ → Option ℕ → List ℕ → List Out
told_from held k before list = given_from bus_walk held k before list

-- what levels of SCL and SDA give that follow these two, and then what `rest` gives behind them
unfoldable pub given_levels : (Option Segment → ℕ → Bool → Bool → List Out) → Option Segment → ℕ → Bool → Bool → List Bool → List Bool → List Out
given_levels rest held k scl sda [] sdas = rest held k scl sda
given_levels rest held k scl sda (scl2 ∷ scls) [] = []
given_levels rest held k scl sda (scl2 ∷ scls) (sda2 ∷ sdas) =
    gives_all (i2c_walk 0 1) held (event_by k scl scl2 sda sda2)
    ++ given_levels rest (next_all (i2c_walk 0 1) held (event_by k scl scl2 sda sda2)) (k + 1) scl2 sda2 scls sdas

-- a sample without an event gives nothing
pub quiet : (held : Option Segment) (k : ℕ) (before : Option ℕ) (now : ℕ) (list : List ℕ) → event_at 0 1 k before now ≡ [] → told_from held k before (now ∷ list) ≡ told_from held (k + 1) (Some now) list
unfolding told_from
quiet held k before now list none = ap (λ (es : List Event). gives_all (i2c_walk 0 1) held es ++ given_from bus_walk (next_all (i2c_walk 0 1) held es) (k + 1) (Some now) list) none

-- samples of three lines give what the levels of the first two give
pub samples_are : (later : List ℕ) (scls sdas rxs : List Bool) (held : Option Segment) (k : ℕ) (scl sda rx : Bool) → AlikeLong scls sdas rxs
    → told_from held k (Some (sample_of scl sda rx)) (samples_of scls sdas rxs ++ later)
    ≡ given_levels (λ held2 k2 scl2 sda2. told_from held2 k2 (Some (sample_of scl2 sda2 (last_level rx rxs))) later) held k scl sda scls sdas
unfolding given_levels told_from
samples_are later [] [] [] held k scl sda rx alike = refl
samples_are later [] [] (rx2 ∷ rxs) held k scl sda rx alike = absurd alike
samples_are later [] (sda2 ∷ sdas) rxs held k scl sda rx alike = absurd alike
samples_are later (scl2 ∷ scls) [] rxs held k scl sda rx alike = absurd alike
samples_are later (scl2 ∷ scls) (sda2 ∷ sdas) [] held k scl sda rx alike = absurd alike
samples_are later (scl2 ∷ scls) (sda2 ∷ sdas) (rx2 ∷ rxs) held k scl sda rx alike =
    ap (λ (es : List Event). gives_all (i2c_walk 0 1) held es
    ++ given_from bus_walk (next_all (i2c_walk 0 1) held es) (k + 1) (Some (sample_of scl2 sda2 rx2)) (samples_of scls sdas rxs ++ later))
    (event_is k scl sda rx scl2 sda2 rx2)
    ∙ ap (λ (l : List Out). gives_all (i2c_walk 0 1) held (event_by k scl scl2 sda sda2) ++ l)
    (samples_are later scls sdas rxs (next_all (i2c_walk 0 1) held (event_by k scl scl2 sda sda2)) (k + 1) scl2 sda2 rx2 alike)
