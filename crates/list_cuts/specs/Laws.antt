-- What holds of every list that is cut.
use Rattle.std.specs.Prelude.{ℕ, ◌≡◌, ◌+◌, ◌*◌, ◌/◌, ◌^◌, ◌<◌, ◌==◌, if◌then◌else◌, suc, Bool, true}
use Rattle.std.specs.Prelude.{false, List, [], ◌∷◌, ◌++◌, map, length, take, drop, replicate}
use Rattle.std.specs.Prelude.{Option, Some, None, slice_get}
use Rattle.std.specs.List.{flat_map}
use Rattle.list_cuts.specs.Along.{along_from, along}
use Rattle.list_cuts.specs.Bits.{bit_of, high_first, low_first}
use Rattle.list_cuts.specs.Groups.{groups, after_groups}
use Rattle.list_cuts.specs.LastWhere.{last_where, last_that, StandsLast}
use Rattle.list_cuts.specs.Neighbours.{neighbours_from, at_neighbours, last_from, last_of, AllAt}
use Rattle.list_cuts.specs.Neighbours.{Rise}
use Rattle.list_cuts.specs.Places.{first_place, last_place}
use Rattle.list_cuts.specs.Parts.{before_mark, parts, IsPart, grow_last, Part, parts_between}
use Rattle.list_cuts.specs.Parts.{longer, ended, grow_open, end_open}

-- the whole groups of n elements, and what they leave
pub record Groups (X : Type 0) (n : ℕ) : Type 0 where
  pub few : (list : List X) → length list < n → (groups n list ≡ []) × (after_groups n list ≡ list)
  pub first : (front rest : List X) → length front ≡ n
      → (groups n (front ++ rest) ≡ front ∷ groups n rest)
      × (after_groups n (front ++ rest) ≡ after_groups n rest)
  pub whole : (list : List X)
      → flat_map (λ group. group) (groups n list) ++ after_groups n list ≡ list
  pub count : (list : List X) → length (groups n list) ≡ length list / n
  pub each : (list : List X) (k : ℕ) (group : List X) → slice_get (groups n list) k ≡ Some group
      → (group ≡ take n (drop (k * n) list)) × (length group ≡ n)
  pub left : (list : List X) → length (after_groups n list) < n
  pub longer : (list more : List X)
      → groups n (list ++ more) ≡ groups n list ++ groups n (after_groups n list ++ more)
  pub no_group : (list : List X) (x : X) → length (after_groups n list) + 1 < n
      → (groups n (list ++ x ∷ []) ≡ groups n list)
      × (after_groups n (list ++ x ∷ []) ≡ after_groups n list ++ x ∷ [])
  pub a_group : (list : List X) (x : X) → length (after_groups n list) + 1 ≡ n
      → (groups n (list ++ x ∷ []) ≡ groups n list ++ (after_groups n list ++ x ∷ []) ∷ [])
      × (after_groups n (list ++ x ∷ []) ≡ [])

-- what neighbours give
pub record Neighbours (X E : Type 0) (f : ℕ → Option X → X → List E) : Type 0 where
  pub one_more : (list : List X) (now : X)
      → at_neighbours f (list ++ now ∷ [])
      ≡ at_neighbours f list ++ f (length list) (last_of list) now
  pub more : (list more : List X) → at_neighbours f (list ++ more)
      ≡ at_neighbours f list ++ neighbours_from f (length list) (last_of list) more
  pub silent : (list more : List X)
      → ((front : List X) (now : X) (back : List X) → more ≡ front ++ now ∷ back
      → f (length list + length front) (last_from (last_of list) front) now ≡ [])
      → at_neighbours f (list ++ more) ≡ at_neighbours f list
  pub same : (list : List X) (n : ℕ) (x : X) → last_of list ≡ Some x
      → ((place : ℕ) → f place (Some x) x ≡ [])
      → at_neighbours f (list ++ replicate n x) ≡ at_neighbours f list
  pub rise : (place : E → ℕ)
      → ((k : ℕ) (before : Option X) (now : X) → AllAt place k (f k before now)) → (list : List X)
      → Rise place 0 (at_neighbours f list)
  pub last : (list : List X) (x : X) → last_of (list ++ x ∷ []) ≡ Some x

-- the parts that begin at a mark, each up to the next
pub record Parts (X : Type 0) (mark : X → Bool) : Type 0 where
  pub new_part : (list : List X) (x : X) → mark x ≡ true
      → parts mark (list ++ x ∷ []) ≡ parts mark list ++ (x ∷ []) ∷ []
  pub joins : (list : List X) (x : X) → mark x ≡ false
      → parts mark (list ++ x ∷ []) ≡ grow_last (parts mark list) x
  pub last : (others : List (List X)) (part : List X) (x : X)
      → grow_last (others ++ part ∷ []) x ≡ others ++ (part ++ x ∷ []) ∷ []
  pub more : (list : List X) (x : X) (later : List X) → mark x ≡ true
      → parts mark (list ++ x ∷ later) ≡ parts mark list ++ parts mark (x ∷ later)
  pub whole : (list : List X)
      → before_mark mark list ++ flat_map (λ part. part) (parts mark list) ≡ list
  pub each : (list : List X) (k : ℕ) (part : List X) → slice_get (parts mark list) k ≡ Some part
      → IsPart mark part
  pub no_ends : (list : List X) → map (λ (part : Part X). part.items)
      (parts_between mark (λ x. false) list) ≡ parts mark list

-- the parts that begin at a beginning, each up to the next beginning or end
pub record PartsBetween (X : Type 0) (begins ends : X → Bool) : Type 0 where
  pub new_part : (list : List X) (x : X) → begins x ≡ true
      → parts_between begins ends (list ++ x ∷ [])
      ≡ end_open (parts_between begins ends list) x
      ++ record { items = x ∷ []; ended_by = None } ∷ []
  pub ends_part : (list : List X) (x : X) → begins x ≡ false → ends x ≡ true
      → parts_between begins ends (list ++ x ∷ []) ≡ end_open (parts_between begins ends list) x
  pub joins : (list : List X) (x : X) → begins x ≡ false → ends x ≡ false
      → parts_between begins ends (list ++ x ∷ []) ≡ grow_open (parts_between begins ends list) x
  pub longer_last : (others : List (Part X)) (part : Part X) (x : X)
      → grow_open (others ++ part ∷ []) x ≡ others ++ longer x part.items part.ended_by ∷ []
  pub ended_last : (others : List (Part X)) (part : Part X) (x : X)
      → end_open (others ++ part ∷ []) x ≡ others ++ ended x part.items part.ended_by ∷ []
  pub one_open : (list : List X) (k : ℕ) (part : Part X)
      → slice_get (parts_between begins ends list) k ≡ Some part
      → suc k < length (parts_between begins ends list) → (e : X) × (part.ended_by ≡ Some e)

-- the last element that passes a test, and its place
pub record LastWhere (X : Type 0) (test : X → Bool) : Type 0 where
  pub passes : (list : List X) (x : X) → test x ≡ true
      → (last_where test (list ++ x ∷ []) ≡ Some (length list))
      × (last_that test (list ++ x ∷ []) ≡ Some x)
  pub fails : (list : List X) (x : X) → test x ≡ false
      → (last_where test (list ++ x ∷ []) ≡ last_where test list)
      × (last_that test (list ++ x ∷ []) ≡ last_that test list)
  pub stays : (list more : List X) → last_where test more ≡ None
      → (last_where test (list ++ more) ≡ last_where test list)
      × (last_that test (list ++ more) ≡ last_that test list)
  pub moves : (list more : List X) (place : ℕ) → last_where test more ≡ Some place
      → (last_where test (list ++ more) ≡ Some (length list + place))
      × (last_that test (list ++ more) ≡ last_that test more)
  pub within : (list : List X) (place : ℕ) → last_where test list ≡ Some place → place < length list
  pub none : (list : List X) → last_where test list ≡ None
      → (last_that test list ≡ None)
      × ((k : ℕ) (other : X) → slice_get list k ≡ Some other → test other ≡ false)
  pub stands : (list : List X) (place : ℕ) → last_where test list ≡ Some place
      → (element : X) × StandsLast test list place element × (last_that test list ≡ Some element)
  pub found : (list : List X) (place : ℕ) (element : X) → StandsLast test list place element
      → (last_where test list ≡ Some place) × (last_that test list ≡ Some element)

-- what items give with those before them
pub record Along (X Y : Type 0) (f : List X → X → List Y) : Type 0 where
  pub one_more : (list : List X) (x : X) → along f (list ++ x ∷ []) ≡ along f list ++ f list x
  pub more : (list later : List X)
      → along f (list ++ later) ≡ along f list ++ along_from f list later

-- numbers that bits make up
pub record Bits : Type 0 where
  pub high : (bits : List Bool) (b : Bool)
      → high_first (bits ++ b ∷ []) ≡ 2 * high_first bits + bit_of b
  pub high_below : (bits : List Bool) → high_first bits < 2 ^ length bits
  pub low : (bits : List Bool) (b : Bool)
      → low_first (bits ++ b ∷ []) ≡ low_first bits + bit_of b * 2 ^ length bits
  pub low_below : (bits : List Bool) → low_first bits < 2 ^ length bits

-- the first and the last place of events
pub record Places (E : Type 0) (place : E → ℕ) : Type 0 where
  pub first : (es : List E) (e : E) → first_place place (es ++ e ∷ [])
      ≡ (if length es == 0 then place e else first_place place es)
  pub last : (es : List E) (e : E) → last_place place (es ++ e ∷ []) ≡ place e
