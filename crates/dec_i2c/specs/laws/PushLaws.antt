-- One more event: what the whole list of events gives is what the state says that the events before
-- it left.
use Rattle.std.proofs.Common.{◌≡◌, ℕ, Bool, List, [], ◌∷◌, ◌++◌, length, Option, Some, None, refl}
use Rattle.std.proofs.Common.{sym, ◌∙◌, ap, append_assoc}
use Rattle.std.specs.Prelude.{is_some}
use Rattle.std.proofs.lemmas.List.{append-nil}
use Rattle.la_base.specs.declared.wires.Out.{Out}
use Rattle.list_cuts.specs.Along.{along_from, along}
use Rattle.list_cuts.specs.Groups.{groups, after_groups}
use Rattle.list_cuts.specs.Neighbours.{last_from}
use Rattle.list_cuts.specs.Parts.{grow_last, parts}
use Rattle.list_cuts.specs.Places.{first_place}
use Rattle.list_cuts.proofs.AlongLaws.{along_push}
use Rattle.list_cuts.proofs.PartLaws.{parts_mark, parts_join}
use Rattle.sample_walks.specs.Events.{PushedEvents}
use Rattle.dec_i2c.specs.declared.held.Segment.{Segment}
use Rattle.dec_i2c.specs.Bytes.{role_behind}
use Rattle.dec_i2c.specs.Bus.{Event, Start, Stop, Clock, place_of, value_of, values_of, bytes_of}
use Rattle.dec_i2c.specs.Bus.{start_outs, stop_outs, clocks_outs, is_mark, segment_in, segment_of}
use Rattle.dec_i2c.specs.Bus.{open_segment, bytes_in, read_from, part_outs, events_outs, near_in}
use Rattle.dec_i2c.specs.laws.Machine.{left_by, left_behind, segment_by, held_of, held_last}
use Rattle.dec_i2c.specs.laws.Machine.{held_after, near_by, handed, clock_outs, begun, gives, next}
use Rattle.dec_i2c.specs.laws.Machine.{i2c_walk}
use Rattle.dec_i2c.specs.laws.TenLaws.{read_is, handed_is}
use Rattle.dec_i2c.specs.laws.ClockLaws.{clocks_push, kept_push, same_gives}

-- what parts leave with one more
left_push : (ps : List (List Event)) (p : List Event) (ten : Option ℕ)
    → left_behind ten (ps ++ p ∷ []) ≡ left_by (left_behind ten ps) (bytes_in (segment_in p))
left_push [] p ten = refl
left_push (q ∷ ps) p ten = left_push ps p (left_by ten (bytes_in (segment_in q)))

held_push : (ps : List (List Event)) (p : List Event) (ten : Option ℕ)
    → held_last ten (ps ++ p ∷ []) ≡ held_of (left_behind ten ps) (segment_in p)
held_push [] p ten = refl
held_push (q ∷ []) p ten = refl
held_push (q ∷ r ∷ ps) p ten = held_push (r ∷ ps) p (left_by ten (bytes_in (segment_in q)))

-- a clock joins a part
module _ (k : ℕ) (level : Bool) where
  abbrev c : Event
  c = Clock k level

  part_push : (earlier : List (List Event)) (p : List Event)
      → part_outs earlier (p ++ c ∷ [])
      ≡ part_outs earlier p ++ gives (held_of (left_behind None earlier) (segment_in p)) c
  part_push earlier [] = refl
  part_push earlier (Start s ∷ clocks) =
      let start = start_outs (is_some (open_segment earlier)) s in
      let known = read_from earlier in
      let rest = after_groups 9 clocks in
      let role = role_behind (values_of (bytes_of clocks)) in
      let ten = left_behind None earlier in
      ap (λ (l : List Out). start ++ l) (clocks_push clocks k level known)
      ∙ sym (append_assoc start (clocks_outs known clocks)
      (clock_outs known role (length rest) (value_of rest) (first_place place_of rest) k level))
      ∙ ap (λ (f : ℕ → Option ℕ). (start ++ clocks_outs known clocks)
      ++ clock_outs f role (length rest) (value_of rest) (first_place place_of rest) k level)
      (read_is earlier)
      ∙ ap (λ (l : List Out). (start ++ clocks_outs known clocks) ++ l)
      (same_gives clocks k level ten)
  part_push earlier (Stop s ∷ clocks) = sym (append-nil (stop_outs s))
  part_push earlier (Clock s bit ∷ clocks) = refl

  part_held : (ten : Option ℕ) (p : List Event)
      → held_of ten (segment_in (p ++ c ∷ [])) ≡ next (held_of ten (segment_in p)) c
  part_held ten [] = refl
  part_held ten (Start s ∷ clocks) = ap (λ (s : Segment). Some s) (kept_push clocks k level ten)
  part_held ten (Stop s ∷ clocks) = refl
  part_held ten (Clock s bit ∷ clocks) = refl

  -- and so the last part
  join_outs : (ps earlier : List (List Event))
      → along_from part_outs earlier (grow_last ps c)
      ≡ along_from part_outs earlier ps ++ gives (held_last (left_behind None earlier) ps) c
  join_outs [] earlier = refl
  join_outs (p ∷ []) earlier =
      append-nil (part_outs earlier (p ++ c ∷ []))
      ∙ part_push earlier p
      ∙ ap (λ (l : List Out). l ++ gives (held_of (left_behind None earlier) (segment_in p)) c)
      (sym (append-nil (part_outs earlier p)))
  join_outs (p ∷ q ∷ ps) earlier =
      let here = part_outs earlier p in
      let later = along_from part_outs (earlier ++ p ∷ []) (q ∷ ps) in
      ap (λ (l : List Out). here ++ l) (join_outs (q ∷ ps) (earlier ++ p ∷ []))
      ∙ sym (append_assoc here later
      (gives (held_last (left_behind None (earlier ++ p ∷ [])) (q ∷ ps)) c))
      ∙ ap (λ (ten : Option ℕ). (here ++ later) ++ gives (held_last ten (q ∷ ps)) c)
      (left_push earlier p None)

  join_held : (ps : List (List Event)) (ten : Option ℕ)
      → held_last ten (grow_last ps c) ≡ next (held_last ten ps) c
  join_held [] ten = refl
  join_held (p ∷ []) ten = part_held ten p
  join_held (p ∷ q ∷ []) ten = part_held (left_by ten (bytes_in (segment_in p))) q
  join_held (p ∷ q ∷ r ∷ ps) ten = join_held (q ∷ r ∷ ps) (left_by ten (bytes_in (segment_in p)))

-- what is kept is that of the last part, where it is a segment
held_is : (ps : List (List Event)) (p : List Event) (ten : Option ℕ)
    → (left : Option ℕ)
    × (held_last ten (p ∷ ps) ≡ held_of left (segment_of (last_from (Some p) ps)))
held_is [] p ten = (ten, refl)
held_is (q ∷ ps) p ten = held_is ps q (left_by ten (bytes_in (segment_in p)))

-- whether a segment is open
some_is : (ten : Option ℕ) (segment : Option (List Event))
    → is_some segment ≡ is_some (held_of ten segment)
some_is ten None = refl
some_is ten (Some clocks) = refl

again_is : (ps : List (List Event)) → is_some (open_segment ps) ≡ is_some (held_last None ps)
again_is [] = refl
again_is (p ∷ ps) = let h = held_is ps p None in
    some_is h.0 (segment_of (last_from (Some p) ps))
    ∙ ap (λ (o : Option Segment). is_some o) (sym h.1)

-- where the byte starts that has begun
near_of : (ten : Option ℕ) (segment : Option (List Event)) (n : ℕ)
    → near_in segment n ≡ near_by (held_of ten segment) n
near_of ten None n = refl
near_of ten (Some clocks) n = refl

pub near_is : (ps : List (List Event)) (n : ℕ)
    → near_in (open_segment ps) n ≡ near_by (held_last None ps) n
near_is [] n = refl
near_is (p ∷ ps) n = let h = held_is ps p None in
    near_of h.0 (segment_of (last_from (Some p) ps)) n
    ∙ ap (λ (o : Option Segment). near_by o n) (sym h.1)

-- what a segment leaves to the next one is what the parts up to it leave
handed_of : (ten : Option ℕ) (segment : Option (List Event))
    → left_by ten (bytes_in segment) ≡ handed (held_of ten segment)
handed_of ten None = refl
handed_of ten (Some clocks) = sym (handed_is ten (values_of (bytes_of clocks)))

left_is : (ps : List (List Event)) (ten : Option ℕ) (p : List Event)
    → left_behind ten (p ∷ ps) ≡ handed (held_last ten (p ∷ ps))
left_is [] ten p = handed_of ten (segment_in p)
left_is (q ∷ ps) ten p = left_is ps (left_by ten (bytes_in (segment_in p))) q

left_all : (ps : List (List Event)) → left_behind None ps ≡ handed (held_last None ps)
left_all [] = refl
left_all (p ∷ ps) = left_is ps None p

-- a segment that has just begun
clocks_none : (known : ℕ → Option ℕ) → clocks_outs known [] ≡ []
unfolding clocks_outs bytes_of groups after_groups
clocks_none known = refl

held_none : (ten : Option ℕ) → segment_by ten [] ≡ begun ten
unfolding bytes_of groups after_groups
held_none ten = refl

-- one more event
outs_push : (es : List Event) (e : Event)
    → events_outs (es ++ e ∷ []) ≡ events_outs es ++ gives (held_after es) e
outs_push es (Start k) =
    let ps = parts is_mark es in
    ap (λ (l : List (List Event)). along part_outs l) (parts_mark is_mark es (Start k) refl)
    ∙ along_push part_outs ps (Start k ∷ [])
    ∙ (λ i. events_outs es ++ (start_outs (again_is ps i) k ++ clocks_none (read_from ps) i))
    ∙ ap (λ (l : List Out). events_outs es ++ l)
    (append-nil (start_outs (is_some (held_after es)) k))
outs_push es (Stop k) =
    ap (λ (l : List (List Event)). along part_outs l) (parts_mark is_mark es (Stop k) refl)
    ∙ along_push part_outs (parts is_mark es) (Stop k ∷ [])
outs_push es (Clock k level) =
    ap (λ (l : List (List Event)). along part_outs l) (parts_join is_mark es (Clock k level) refl)
    ∙ join_outs k level (parts is_mark es) []

kept_more : (es : List Event) (e : Event) → held_after (es ++ e ∷ []) ≡ next (held_after es) e
kept_more es (Start k) =
    let ps = parts is_mark es in
    ap (held_last None) (parts_mark is_mark es (Start k) refl)
    ∙ held_push ps (Start k ∷ []) None
    ∙ ap (λ (s : Segment). Some s) (held_none (left_behind None ps))
    ∙ ap (λ (ten : Option ℕ). Some (begun ten)) (left_all ps)
kept_more es (Stop k) =
    ap (held_last None) (parts_mark is_mark es (Stop k) refl)
    ∙ held_push (parts is_mark es) (Stop k ∷ []) None
kept_more es (Clock k level) =
    ap (held_last None) (parts_join is_mark es (Clock k level) refl)
    ∙ join_held k level (parts is_mark es) None

pub i2c_pushed : (scl sda : ℕ) → PushedEvents (i2c_walk scl sda) events_outs held_after
i2c_pushed scl sda =
    record { no_outs = refl; no_kept = refl; outs_push = outs_push; kept_push = kept_more }
