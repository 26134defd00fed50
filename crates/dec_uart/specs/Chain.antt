-- Frames on a line, as a chain over the whole list of samples: the first begins at the first fall
-- of the line, and each further one at the first fall behind the last point that was looked at of
-- the frame before. Point i of a frame that begins at f is the sample f + point i; the points are 0
-- to `last`.
use Rattle.std.specs.Prelude.{ℕ, zero, suc, ◌+◌, nat_lt, Bool, true, false, not, ◌&&◌}
use Rattle.std.specs.Prelude.{if◌then◌else◌, List, [], ◌∷◌, ◌++◌, length, drop, slice_index, Option}
use Rattle.std.specs.Prelude.{Some, None, is_some}
use Rattle.std.specs.List.{flat_map, list_any}
use Rattle.la_base.specs.Samples.{is_high}
use Rattle.la_base.specs.declared.wires.Out.{Out}
use Rattle.list_cuts.specs.Neighbours.{at_neighbours, last_of}

-- the line falls from the sample before, if there is one, to this one
abbrev pub is_fall : ℕ → Option ℕ → ℕ → Bool
is_fall rx None now = false
is_fall rx (Some before) now = is_high before rx && not (is_high now rx)

abbrev pub fall_at : ℕ → ℕ → Option ℕ → ℕ → List ℕ
fall_at rx k before now = if is_fall rx before now then k ∷ [] else []

-- the places of all falls
abbrev pub falls : ℕ → List ℕ → List ℕ
falls rx samples = at_neighbours (fall_at rx) samples

-- the first place at which the line is high, of samples the first of which stands at place k
abbrev pub high_from : ℕ → ℕ → List ℕ → Option ℕ
high_from rx k [] = None
high_from rx k (now ∷ later) = if is_high now rx then Some k else high_from rx (k + 1) later

-- whether one of some levels is high
abbrev pub any_high : List Bool → Bool
any_high levels = list_any (λ level. level) levels

-- what a frame shows: a point that has to be looked at lies behind the samples; the line is high at
-- point 0, so that it is no frame; the levels at all points, some of them high; or the levels, all
-- of them low, and the first place behind the last point at which the line is high
pub data Look : Type 0 where
  Ahead : Look
  FalseStart : Look
  Whole : List Bool → Look
  AllLow : List Bool → Option ℕ → Look

-- frames of a line: the bit of the line in a sample, the number of the last point, where each point
-- is, and what is given: where the line is high at point 0; at the last point, with the levels at
-- all points; and where the line gets high behind points that were all low. Each is told where the
-- frame begins and where it stands itself
pub record Shape : Type 0 where
  pub rx : ℕ
  pub last : ℕ
  pub point : ℕ → ℕ
  pub false_start : ℕ → ℕ → List Out
  pub frame : ℕ → ℕ → List Bool → List Out
  pub rise : ℕ → ℕ → List Out

abbrev pub rise_outs : Shape → ℕ → Option ℕ → List Out
rise_outs c f None = []
rise_outs c f (Some r) = c.rise f r

-- what a frame that begins at f gives
abbrev pub look_outs : Shape → ℕ → Look → List Out
look_outs c f Ahead = []
look_outs c f FalseStart = c.false_start f (f + c.point 0)
look_outs c f (Whole levels) = c.frame f (f + c.point c.last) levels
look_outs c f (AllLow levels high) = c.frame f (f + c.point c.last) levels ++ rise_outs c f high

-- whether it has something still to give
abbrev pub is_open : Look → Bool
is_open Ahead = true
is_open FalseStart = false
is_open (Whole levels) = false
is_open (AllLow levels high) = not (is_some high)

-- the place behind its last point that is looked at
abbrev pub behind : Shape → ℕ → Look → ℕ
behind c f FalseStart = f + c.point 0 + 1
behind c f Ahead = f + c.point c.last + 1
behind c f (Whole levels) = f + c.point c.last + 1
behind c f (AllLow levels high) = f + c.point c.last + 1

module _ (c : Shape) (samples : List ℕ) where
  abbrev pub level : ℕ → Bool
  level k = is_high (slice_index samples k) c.rx

  -- the levels at the first points of a frame
  abbrev pub levels_at : ℕ → ℕ → List Bool
  levels_at f zero = []
  levels_at f (suc i) = levels_at f i ++ level (f + c.point i) ∷ []

  -- a frame with these levels at all its points
  abbrev pub all_points : ℕ → List Bool → Look
  all_points f levels =
      if any_high levels then Whole levels
      else AllLow levels
      (high_from c.rx (f + c.point c.last + 1) (drop (f + c.point c.last + 1) samples))

  abbrev pub look : ℕ → Look
  look f =
      if nat_lt (f + c.point 0) (length samples) then
      (if level (f + c.point 0) then FalseStart
      else (if nat_lt (f + c.point c.last) (length samples)
      then all_points f (levels_at f (suc c.last)) else Ahead))
      else Ahead

  -- those of some falls at which a frame begins, the first of them at place `from` or later
  abbrev pub starts_from : ℕ → List ℕ → List ℕ
  starts_from from [] = []
  starts_from from (f ∷ later) =
      if nat_lt f from then starts_from from later else f ∷ starts_from (behind c f (look f)) later

  -- where frames begin
  abbrev pub starts : List ℕ
  starts = starts_from 0 (falls c.rx samples)

  -- what some frames give
  abbrev pub frames_outs : List ℕ → List Out
  frames_outs places = flat_map (λ f. look_outs c f (look f)) places

  abbrev pub near_of : Option ℕ → ℕ
  near_of None = length samples
  near_of (Some f) = if is_open (look f) then f else length samples

-- all that samples give
unfoldable pub chain_outs : Shape → List ℕ → List Out
chain_outs c samples = frames_outs c samples (starts c samples)

-- where the last frame begins, if it has something still to give; else the number of samples
unfoldable pub chain_near : Shape → List ℕ → ℕ
chain_near c samples = near_of c samples (last_of (starts c samples))
