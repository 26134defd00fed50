-- What every sound walk promises.
use Rattle.std.proofs.Common.{◌≡◌, inl, inr, ℕ, zero, suc, ◌+◌, ◌-◌, ◌<◌, ◌≤◌, true, false, List}
use Rattle.std.proofs.Common.{[], ◌∷◌, ◌++◌, take, drop, length, slice_index, Option, Some, None}
use Rattle.std.proofs.Common.{refl, sym, ◌∙◌, ap, subst, arith, append_assoc, length-append}
use Rattle.std.proofs.Common.{length-take-le, take-append-drop}
use Rattle.std.specs.List.Sorted.{IsNonDecreasing}
use Rattle.std.proofs.Math.ListN.{get_or}
use Rattle.std.proofs.Math.Seq.{get_or-append_seam, take-append-add}
use Rattle.std.proofs.lemmas.Bool.{true≢false}
use Rattle.std.proofs.lemmas.List.{append-nil, append_cancel_left, get_or_append_left}
use Rattle.std.proofs.lemmas.Grind.{take_at_read}
use Rattle.la_base.specs.Samples.{before_of}
use Rattle.la_base.specs.declared.wires.Out.{Out}
use Rattle.la_base.specs.declared.wires.Out.TheVariants.{Note as NoteOut, Piece as PieceOut}
use Rattle.la_base.specs.declared.wires.Out.TheVariants.{Packet as PacketOut}
use Rattle.wait_cond.specs.declared.alt.Alt.{Alt}
use Rattle.wait_cond.specs.Stops.{NoneMet, MetIn, MetSet}
use Rattle.list_cuts.specs.Neighbours.{last_from, last_of}
use Rattle.decoder_core.specs.Promises.{NotesFrom, PacketsFrom, IsFloor, GivesFrom, GivesNothing}
use Rattle.decoder_core.specs.Promises.{KeepsFront}
use Rattle.decoder_core.specs.Promises.{PacketsInOrder, AddsFew, Rests, StopsIn, packet_starts}
use Rattle.decoder_core.specs.laws.OutLaws.{NotesFrom-append, packet_starts-append}
use Rattle.sample_walks.specs.Walks.{Between, Walk, walk_from, given_from, walked, given, EndsThere}
use Rattle.sample_walks.specs.Walks.{Sound}

-- the sample before one of a front is the one before it in every longer list
pub before_in_front : (list more : List ℕ) (q : ℕ) → q ≤ length list
    → before_of (list ++ more) q ≡ before_of list q
before_in_front list more zero within = refl
before_in_front list more (suc q) within =
    ap (λ (n : ℕ). Some n) (get_or_append_left list more 0 q (omega (arith, within)))

-- the last sample of a list is the one before the next
last_is : (x : ℕ) (xs : List ℕ) → last_from (Some x) xs ≡ Some (slice_index (x ∷ xs) (length xs))
last_is x [] = refl
last_is x (y ∷ xs) = last_is y xs

pub last_before : (xs rest : List ℕ) → last_of xs ≡ before_of (xs ++ rest) (length xs)
last_before [] rest = refl
last_before (x ∷ xs) rest =
    let within : length xs < length (x ∷ xs) = omega arith in
    last_is x xs
    ∙ ap (λ (n : ℕ). Some n) (sym (get_or_append_left (x ∷ xs) rest 0 (length xs) within))

last_append : (xs ys : List ℕ) (before : Option ℕ)
    → last_from (last_from before xs) ys ≡ last_from before (xs ++ ys)
last_append [] ys before = refl
last_append (x ∷ xs) ys before = last_append xs ys (Some x)

-- samples that meet nothing, one by one
pub each_rests : (alts : List Alt) (seen more : List ℕ) → Rests alts seen more
    → (front : List ℕ) (now : ℕ) (back : List ℕ) → more ≡ front ++ now ∷ back
    → MetSet alts (last_from (last_of seen) front) now (length seen) (length seen + length front) 0
each_rests alts seen more none front now back is =
    let whole = seen ++ more in
    let q = length (seen ++ front) in
    let place : q ≡ length seen + length front = length-append seen front in
    let cut : whole ≡ seen ++ front ++ now ∷ back =
    ap (λ (l : List ℕ). seen ++ l) is ∙ sym (append_assoc seen front (now ∷ back)) in
    let before : before_of whole q ≡ last_from (last_of seen) front =
    ap (λ (l : List ℕ). before_of l q) cut ∙ sym (last_before (seen ++ front) (now ∷ back))
    ∙ sym (last_append seen front None) in
    let here : slice_index whole q ≡ now =
    ap (λ (l : List ℕ). slice_index l q) cut ∙ get_or-append_seam (seen ++ front) now back 0 in
    let all : length whole ≡ length (seen ++ front) + length (now ∷ back) =
    ap length cut ∙ length-append (seen ++ front) (now ∷ back) in
    let met : MetIn whole alts (length seen) q 0 =
    none q (omega (arith, place)) (omega (arith, all)) in
    subst (λ (p : Option ℕ × ℕ × ℕ). MetSet alts p.0 p.1 (length seen) p.2 0)
    (λ i. (before i, here i, place i)) met

-- the samples before place q, where those behind `seen` meet nothing
module _ (alts : List Alt) (seen more : List ℕ) (q : ℕ) (after : length seen ≤ q)
    (within : q ≤ length (seen ++ more)) (first : NoneMet (seen ++ more) alts (length seen) q) where
  abbrev whole : List ℕ
  whole = seen ++ more

  abbrev between : List ℕ
  between = take (q - length seen) more

  pub front_len : length (take q whole) ≡ q
  front_len = length-take-le q whole within

  pub front_is : take q whole ≡ seen ++ between
  front_is =
      let sum : q ≡ length seen + (q - length seen) = omega (arith, after) in
      ap (λ (n : ℕ). take n whole) sum ∙ take-append-add seen more (q - length seen)

  joined : take q whole ++ drop q whole ≡ whole
  joined = take-append-drop q whole

  before_is : (p : ℕ) → p ≤ q → before_of whole p ≡ before_of (take q whole) p
  before_is p below =
      ap (λ (l : List ℕ). before_of l p) (sym joined)
      ∙ before_in_front (take q whole) (drop q whole) p (omega (arith, below, front_len))

  pub before_last : last_of (take q whole) ≡ before_of whole q
  before_last =
      last_before (take q whole) (drop q whole) ∙ (λ i. before_of (joined i) (front_len i))

  pub rests_before : Rests alts seen between
  rests_before =
      subst (λ (l : List ℕ). NoneMet l alts (length seen) (length l)) front_is
      (λ p after below. by p after (omega (arith, below, front_len)))
    where
      by : (p : ℕ) → length seen ≤ p → p < q → MetIn (take q whole) alts (length seen) p 0
      by p after below =
          let less : p ≤ q = omega (arith, below) in
          let here : slice_index whole p ≡ slice_index (take q whole) p =
          ap (λ (l : List ℕ). slice_index l p) (sym joined)
          ∙ get_or_append_left (take q whole) (drop q whole) 0 p
          (omega (arith, below, front_len)) in
          subst (λ (x : Option ℕ × ℕ). MetSet alts x.0 x.1 (length seen) p 0)
          (λ i. (before_is p less i, here i)) (first p after below)

-- from a chain of numbers to any two of them
chain_at : (xs : List ℕ) (low high i d : ℕ) → Between low high xs → i < length xs
    → low ≤ get_or xs i d
chain_at [] low high i d rise within = absurd (omega (arith, within))
chain_at (x ∷ xs) low high zero d rise within = rise.0
chain_at (x ∷ xs) low high (suc i) d rise within =
    let on = chain_at xs x high i d rise.1 (omega (arith, within)) in
    omega (arith, rise.0, on)

chain_sorted : (xs : List ℕ) (low high : ℕ) → Between low high xs → IsNonDecreasing xs
chain_sorted [] low high rise i j d before within = absurd (omega (arith, within))
chain_sorted (x ∷ xs) low high rise zero zero d before within = omega arith
chain_sorted (x ∷ xs) low high rise zero (suc j) d before within =
    chain_at xs x high j d rise.1 (omega (arith, within))
chain_sorted (x ∷ xs) low high rise (suc i) zero d before within = absurd (omega (arith, before))
chain_sorted (x ∷ xs) low high rise (suc i) (suc j) d before within =
    chain_sorted xs x high rise.1 i j d (omega (arith, before)) (omega (arith, within))

between_ends : (xs : List ℕ) (low high : ℕ) → Between low high xs → low ≤ high
between_ends [] low high rise = rise
between_ends (x ∷ xs) low high rise = let on = between_ends xs x high rise.1 in
    omega (arith, rise.0, on)

between_lower : (xs : List ℕ) (less low high : ℕ) → less ≤ low → Between low high xs
    → Between less high xs
between_lower [] less low high below rise = omega (arith, below, rise)
between_lower (x ∷ xs) less low high below rise = (omega (arith, below, rise.0), rise.1)

between_append : (xs ys : List ℕ) (low mid high : ℕ) → Between low mid xs → Between mid high ys
    → Between low high (xs ++ ys)
between_append [] ys low mid high first rest = between_lower ys low mid high first rest
between_append (x ∷ xs) ys low mid high first rest =
    (first.0, between_append xs ys x mid high first.1 rest)

notes_lower : (less low : ℕ) (outs : List Out) → less ≤ low → NotesFrom low outs
    → NotesFrom less outs
notes_lower less low [] below notes = tt
notes_lower less low (NoteOut note ∷ outs) below notes =
    (omega (arith, below, notes.0), notes_lower less low outs below notes.1)
notes_lower less low (PieceOut piece ∷ outs) below notes = notes_lower less low outs below notes
notes_lower less low (PacketOut packet ∷ outs) below notes = notes_lower less low outs below notes

-- packets that start one after another from a place on start at any earlier place or later
pub between_packets : (outs : List Out) (less low high : ℕ) → less ≤ low
    → Between low high (packet_starts outs) → PacketsFrom less outs
between_packets [] less low high below rise = tt
between_packets (NoteOut note ∷ outs) less low high below rise =
    between_packets outs less low high below rise
between_packets (PieceOut piece ∷ outs) less low high below rise =
    between_packets outs less low high below rise
between_packets (PacketOut packet ∷ outs) less low high below rise =
    let first = rise.0 in (
      omega (arith, below, first),
      between_packets outs less packet.start high (omega (arith, below, first)) rise.1,
    )

no_more : (xs ys : List ℕ) → xs ++ ys ≡ [] → ys ≡ []
no_more [] ys is = is
no_more (x ∷ xs) ys is = absurd cc

module _ {H : Type 0} (w : Walk H) where
  walk_append : (xs ys : List ℕ) (h : H) (k : ℕ) (before : Option ℕ)
      → walk_from w h k before (xs ++ ys)
      ≡ walk_from w (walk_from w h k before xs) (k + length xs) (last_from before xs) ys
  walk_append [] ys h k before = let same : k ≡ k + 0 = omega arith in
      ap (λ (n : ℕ). walk_from w h n before ys) same
  walk_append (x ∷ xs) ys h k before =
      let place : k + 1 + length xs ≡ k + suc (length xs) = omega arith in
      walk_append xs ys (w.next h k before x) (k + 1) (Some x)
      ∙ ap (λ (n : ℕ). walk_from w (walk_from w (w.next h k before x) (k + 1) (Some x) xs) n
      (last_from (Some x) xs) ys) place

  given_append : (xs ys : List ℕ) (h : H) (k : ℕ) (before : Option ℕ)
      → given_from w h k before (xs ++ ys) ≡ given_from w h k before xs
      ++ given_from w (walk_from w h k before xs) (k + length xs) (last_from before xs) ys
  given_append [] ys h k before = let same : k ≡ k + 0 = omega arith in
      ap (λ (n : ℕ). given_from w h n before ys) same
  given_append (x ∷ xs) ys h k before =
      let place : k + 1 + length xs ≡ k + suc (length xs) = omega arith in
      ap (λ (l : List Out). w.gives h k before x ++ l)
      (given_append xs ys (w.next h k before x) (k + 1) (Some x)
      ∙ ap (λ (n : ℕ). given_from w (w.next h k before x) (k + 1) (Some x) xs
      ++ given_from w (walk_from w (w.next h k before x) (k + 1) (Some x) xs) n
      (last_from (Some x) xs) ys) place)
      ∙ sym (append_assoc (w.gives h k before x)
      (given_from w (w.next h k before x) (k + 1) (Some x) xs)
      (given_from w (walk_from w (w.next h k before x) (k + 1) (Some x) xs) (k + suc (length xs))
      (last_from (Some x) xs) ys))

  -- more samples, and one more
  pub walked_append : (xs ys : List ℕ)
      → walked w (xs ++ ys) ≡ walk_from w (walked w xs) (length xs) (last_of xs) ys
  unfolding walked
  walked_append xs ys =
      let same : 0 + length xs ≡ length xs = omega arith in
      walk_append xs ys w.begin 0 None
      ∙ ap (λ (n : ℕ). walk_from w (walk_from w w.begin 0 None xs) n (last_of xs) ys) same

  pub given_append_all : (xs ys : List ℕ)
      → given w (xs ++ ys) ≡ given w xs ++ given_from w (walked w xs) (length xs) (last_of xs) ys
  unfolding walked given
  given_append_all xs ys =
      let same : 0 + length xs ≡ length xs = omega arith in
      given_append xs ys w.begin 0 None ∙ ap
      (λ (n : ℕ). given_from w w.begin 0 None xs
      ++ given_from w (walk_from w w.begin 0 None xs) n (last_of xs) ys) same

  pub walked_push : (xs : List ℕ) (now : ℕ)
      → walked w (xs ++ now ∷ []) ≡ w.next (walked w xs) (length xs) (last_of xs) now
  walked_push xs now = walked_append xs (now ∷ [])

  pub given_push : (xs : List ℕ) (now : ℕ)
      → given w (xs ++ now ∷ []) ≡ given w xs ++ w.gives (walked w xs) (length xs) (last_of xs) now
  given_push xs now =
      given_append_all xs (now ∷ [])
      ∙ ap (λ (l : List Out). given w xs ++ l)
      (append-nil (w.gives (walked w xs) (length xs) (last_of xs) now))

  module _ (fits : H → ℕ → Option ℕ → Type 0) (timed : H → ℕ → Type 0)
      (sound : Sound w fits timed) where
    fits_from : (more : List ℕ) (h : H) (k : ℕ) (before : Option ℕ) → fits h k before
        → fits (walk_from w h k before more) (k + length more) (last_from before more)
    fits_from [] h k before f = let same : k ≡ k + 0 = omega arith in
        subst (λ (n : ℕ). fits h n before) same f
    fits_from (x ∷ more) h k before f =
        let place : k + 1 + length more ≡ k + suc (length more) = omega arith in
        subst (λ (n : ℕ). fits (walk_from w (w.next h k before x) (k + 1) (Some x) more) n
        (last_from (Some x) more)) place
        (fits_from more (w.next h k before x) (k + 1) (Some x) (sound.next_fits h k before x f))

    -- what is kept of samples fits behind them
    pub walked_fits : (list : List ℕ) → fits (walked w list) (length list) (last_of list)
    unfolding walked
    walked_fits list =
        let same : 0 + length list ≡ length list = omega arith in
        subst (λ (n : ℕ). fits (walk_from w w.begin 0 None list) n (last_of list)) same
        (fits_from list w.begin 0 None sound.begin_fits)

    -- samples that meet nothing change nothing
    still_from : (more : List ℕ) (h : H) (k from : ℕ) (before : Option ℕ) → fits h k before
        → timed h from
        → ((front : List ℕ) (now : ℕ) (back : List ℕ) → more ≡ front ++ now ∷ back
        → MetSet (w.alts h) (last_from before front) now from (k + length front) 0)
        → (walk_from w h k before more ≡ h) × (given_from w h k before more ≡ [])
    still_from [] h k from before f t each = (refl, refl)
    still_from (x ∷ more) h k from before f t each =
        let here : k + 0 ≡ k = omega arith in
        let set : MetSet (w.alts h) before x from k 0 =
        subst (λ (n : ℕ). MetSet (w.alts h) before x from n 0) here (each [] x more refl) in
        let s = sound.still h k before x f (sound.none h k before x from f t set) in
        let f2 : fits h (k + 1) (Some x) =
        subst (λ (g : H). fits g (k + 1) (Some x)) s.1 (sound.next_fits h k before x f) in
        let rest = still_from more h (k + 1) from (Some x) f2 t (λ front now back is.
        let next : k + suc (length front) ≡ k + 1 + length front = omega arith in
        subst (λ (n : ℕ). MetSet (w.alts h) (last_from (Some x) front) now from n 0) next
        (each (x ∷ front) now back (ap (λ (l : List ℕ). x ∷ l) is))) in (
          ap (λ (g : H). walk_from w g (k + 1) (Some x) more) s.1 ∙ rest.0,
          (λ i. s.0 i ++ given_from w (s.1 i) (k + 1) (Some x) more) ∙ rest.1,
        )

    -- behind a stop the wait has just begun
    pub ends_timed : (list : List ℕ) → EndsThere w list → timed (walked w list) (length list)
    unfolding walked
    ends_timed list ends = elim ends [
      | inl none ↦ subst (λ (l : List ℕ). timed (walked w l) (length l))
          (sym none) sound.begin_timed
      | inr last ↦
          let front = last.0 in
          let now = last.1 in
          let len : length front + 1 ≡ length (front ++ now ∷ []) =
          sym (length-append front (now ∷ [])) in
          subst (λ (l : List ℕ). timed (walked w l) (length l)) (sym last.2)
          (subst (λ (p : H × ℕ). timed p.0 p.1) (λ i. (sym (walked_push front now) i, len i))
          (sound.next_timed (walked w front) (length front) (last_of front) now
          (walked_fits front) last.3))
    ]

    module _ (seen more : List ℕ) (ends : EndsThere w seen)
        (none : Rests (w.alts (walked w seen)) seen more) where
      rested : (walk_from w (walked w seen) (length seen) (last_of seen) more ≡ walked w seen)
          × (given_from w (walked w seen) (length seen) (last_of seen) more ≡ [])
      rested = still_from more (walked w seen) (length seen) (length seen) (last_of seen)
          (walked_fits seen) (ends_timed seen ends)
          (each_rests (w.alts (walked w seen)) seen more none)

      -- *quiet*
      pub walked_quiet : walked w (seen ++ more) ≡ walked w seen
      walked_quiet = walked_append seen more ∙ rested.0

      pub given_quiet : given w (seen ++ more) ≡ given w seen
      given_quiet =
          given_append_all seen more ∙ ap (λ (l : List Out). given w seen ++ l) rested.1
          ∙ append-nil (given w seen)

    -- *one stop*: where nothing more is met, the samples don't end with another stop
    pub one_stop : (seen more : List ℕ) → EndsThere w seen → EndsThere w (seen ++ more)
        → Rests (w.alts (walked w seen)) seen more → more ≡ []
    one_stop seen [] ends also none = refl
    one_stop seen (x ∷ more) ends also none = elim also [
      | inl empty ↦ no_more seen (x ∷ more) empty
      | inr last ↦
          let h = walked w seen in
          let alts = w.alts h in
          let whole = seen ++ x ∷ more in
          let front = last.0 in
          let now = last.1 in
          let q = length front in
          let sum : length whole ≡ length front + 1 =
          ap length last.2 ∙ length-append front (now ∷ []) in
          let both : length whole ≡ length seen + suc (length more) =
          length-append seen (x ∷ more) in
          let after : length seen ≤ q = omega (arith, sum, both) in
          let within : q ≤ length whole = omega (arith, sum) in
          let first : NoneMet whole alts (length seen) q =
          (λ p low below. none p low (omega (arith, below, sum))) in
          let cut : take q whole ≡ front =
          ap (λ (l : List ℕ). take (length front) l) last.2 ∙ take_front front (now ∷ []) in
          let same : walked w front ≡ h =
          ap (λ (l : List ℕ). walked w l)
          (sym cut ∙ front_is alts seen (x ∷ more) q after within first)
          ∙ walked_quiet seen (take (q - length seen) (x ∷ more)) ends
          (rests_before alts seen (x ∷ more) q after within first) in
          let before : before_of whole q ≡ last_of front =
          sym (before_last alts seen (x ∷ more) q after within first)
          ∙ ap (λ (l : List ℕ). last_of l) cut in
          let here : slice_index whole q ≡ now =
          ap (λ (l : List ℕ). slice_index l q) last.2 ∙ get_or-append_seam front now [] 0 in
          let set : MetSet alts (last_of front) now (length seen) q 0 =
          subst (λ (p : Option ℕ × ℕ). MetSet alts p.0 p.1 (length seen) q 0)
          (λ i. (before i, here i)) (none q after (omega (arith, sum))) in
          let fit : fits h q (last_of front) =
          subst (λ (g : H). fits g q (last_of front)) same (walked_fits front) in
          let silent : w.moves h q (last_of front) now ≡ false =
          sound.none h q (last_of front) now (length seen) fit (ends_timed seen ends) set in
          let loud : w.moves h q (last_of front) now ≡ true =
          ap (λ (g : H). w.moves g q (last_of front) now) (sym same) ∙ last.3 in
          absurd (true≢false (sym loud ∙ silent))
    ]
      where
        take_front : (xs ys : List ℕ) → take (length xs) (xs ++ ys) ≡ xs
        take_front [] ys = refl
        take_front (y ∷ xs) ys = ap (λ (l : List ℕ). y ∷ l) (take_front xs ys)

    -- a stop is one more sample that counts
    module _ (seen more : List ℕ) (ends : EndsThere w seen) (at value met : ℕ)
        (s : StopsIn (w.alts (walked w seen)) seen more at value met) where
      abbrev alts_here : List Alt
      alts_here = w.alts (walked w seen)

      abbrev all : List ℕ
      all = seen ++ more

      upto : take (at + 1) all ≡ take at all ++ value ∷ []
      upto = (take_at_read all at 0 s.stop.within).1
          ∙ ap (λ (n : ℕ). take at all ++ n ∷ []) (sym s.value_is)

      low_enough : at ≤ length all
      low_enough = let less : at < length all = s.stop.within in omega (arith, less)

      len : length (take at all) ≡ at
      len = front_len alts_here seen more at s.stop.after low_enough s.stop.first

      is_seen : take at all ≡ seen ++ take (at - length seen) more
      is_seen = front_is alts_here seen more at s.stop.after low_enough s.stop.first

      none_yet : Rests alts_here seen (take (at - length seen) more)
      none_yet = rests_before alts_here seen more at s.stop.after low_enough s.stop.first

      kept : walked w (take at all) ≡ walked w seen
      kept = ap (λ (l : List ℕ). walked w l) is_seen
          ∙ walked_quiet seen (take (at - length seen) more) ends none_yet

      told : given w (take at all) ≡ given w seen
      told = ap (λ (l : List ℕ). given w l) is_seen
          ∙ given_quiet seen (take (at - length seen) more) ends none_yet

      last : last_of (take at all) ≡ before_of all at
      last = before_last alts_here seen more at s.stop.after low_enough s.stop.first

      pub stop_fits : fits (walked w seen) at (before_of all at)
      stop_fits =
          subst (λ (p : H × ℕ × Option ℕ). fits p.0 p.1 p.2) (λ i. (kept i, len i, last i))
          (walked_fits (take at all))

      pub stop_set : MetSet alts_here (before_of all at) value (length seen) at met
      stop_set =
          subst (λ (n : ℕ). MetSet alts_here (before_of all at) n (length seen) at met)
          (sym s.value_is) s.stop.set

      pub stop_moves : w.moves (walked w seen) at (before_of all at) value ≡ true
      stop_moves =
          sound.some (walked w seen) at (before_of all at) value (length seen) met stop_fits
          (ends_timed seen ends) stop_set s.stop.some

      -- *loud*
      pub stop_gives : given w (take (at + 1) all)
          ≡ given w seen ++ w.gives (walked w seen) at (before_of all at) value
      stop_gives =
          ap (λ (l : List ℕ). given w l) upto
          ∙ given_push (take at all) value
          ∙ (λ i. told i ++ w.gives (kept i) (len i) (last i) value)

      pub stop_keeps : walked w (take (at + 1) all)
          ≡ w.next (walked w seen) at (before_of all at) value
      stop_keeps =
          ap (λ (l : List ℕ). walked w l) upto ∙ walked_push (take at all) value
          ∙ (λ i. w.next (kept i) (len i) (last i) value)

      pub stop_ends : EndsThere w (take (at + 1) all)
      stop_ends =
          inr (
            take at all,
            value,
            upto,
            (λ i. w.moves (kept i) (len i) (last i) value)
                ∙ stop_moves,
          )

    notes_from : (more : List ℕ) (h : H) (k low : ℕ) (before : Option ℕ) → fits h k before
        → low ≤ w.near h k → NotesFrom low (given_from w h k before more)
    notes_from [] h k low before f below = tt
    notes_from (x ∷ more) h k low before f below =
        let rise : w.near h k ≤ w.near (w.next h k before x) (k + 1) =
        between_ends (packet_starts (w.gives h k before x)) (w.near h k)
        (w.near (w.next h k before x) (k + 1)) (sound.packets h k before x f) in
        NotesFrom-append low (w.gives h k before x)
        (given_from w (w.next h k before x) (k + 1) (Some x) more)
        (notes_lower low (w.near h k) (w.gives h k before x) below (sound.notes h k before x f))
        (notes_from more (w.next h k before x) (k + 1) low (Some x) (sound.next_fits h k before x f)
        (omega (arith, below, rise)))

    packets_from : (more : List ℕ) (h : H) (k : ℕ) (before : Option ℕ) → fits h k before
        → Between (w.near h k) (w.near (walk_from w h k before more) (k + length more))
        (packet_starts (given_from w h k before more))
    packets_from [] h k before f = let same : k ≡ k + 0 = omega arith in
        subst (λ (n : ℕ). w.near h k ≤ w.near h n) same (omega arith)
    packets_from (x ∷ more) h k before f =
        let g = w.next h k before x in
        let place : k + 1 + length more ≡ k + suc (length more) = omega arith in
        let rest = packets_from more g (k + 1) (Some x) (sound.next_fits h k before x f) in
        let both =
        between_append (packet_starts (w.gives h k before x))
        (packet_starts (given_from w g (k + 1) (Some x) more)) (w.near h k) (w.near g (k + 1))
        (w.near (walk_from w g (k + 1) (Some x) more) (k + 1 + length more))
        (sound.packets h k before x f) rest in
        subst (λ (p : ℕ × List ℕ). Between (w.near h k)
        (w.near (walk_from w g (k + 1) (Some x) more) p.0) p.1)
        (λ i. (
          place i,
          sym
              (packet_starts-append (w.gives h k before x) (given_from w g (k + 1) (Some x) more))
              i,
        ))
        both

    -- laws of outputs that are those of the walk
    module _ (outs : List ℕ → List Out) (same : (list : List ℕ) → outs list ≡ given w list) where
      pub outs_append : (list more : List ℕ) → outs (list ++ more)
          ≡ outs list ++ given_from w (walked w list) (length list) (last_of list) more
      outs_append list more =
          same (list ++ more) ∙ given_append_all list more
          ∙ ap (λ (l : List Out). l
          ++ given_from w (walked w list) (length list) (last_of list) more) (sym (same list))

      pub outs_quiet : (seen more : List ℕ) → EndsThere w seen
          → Rests (w.alts (walked w seen)) seen more → outs (seen ++ more) ≡ outs seen
      outs_quiet seen more ends none =
          same (seen ++ more) ∙ given_quiet seen more ends none ∙ sym (same seen)

      pub outs_nothing : GivesNothing outs
      unfolding given
      outs_nothing = same []

      pub outs_prefix : KeepsFront outs
      outs_prefix list more =
          (given_from w (walked w list) (length list) (last_of list) more, outs_append list more)

      pub outs_few : AddsFew outs
      outs_few list now =
          let add : length (outs (list ++ now ∷ []))
          ≡ length (given w list ++ w.gives (walked w list) (length list) (last_of list) now) =
          ap length (same (list ++ now ∷ []) ∙ given_push list now) in
          let two =
          length-append (given w list)
          (w.gives (walked w list) (length list) (last_of list) now) in
          let had : length (outs list) ≡ length (given w list) = ap length (same list) in
          omega (arith, add, two, had, sound.few (walked w list) (length list) (last_of list) now)

      pub outs_order : PacketsInOrder outs
      unfolding given
      outs_order list =
          subst (λ (l : List Out). IsNonDecreasing (packet_starts l)) (sym (same list))
          (chain_sorted (packet_starts (given w list)) (w.near w.begin 0)
          (w.near (walk_from w w.begin 0 None list) (0 + length list))
          (packets_from list w.begin 0 None sound.begin_fits))

      pub outs_floor : (list : List ℕ) → IsFloor outs list (w.near (walked w list) (length list))
      outs_floor list more new is =
          subst (λ (l : List Out). NotesFrom (w.near (walked w list) (length list)) l)
          (append_cancel_left (outs list)
          (given_from w (walked w list) (length list) (last_of list) more) new
          (sym (outs_append list more) ∙ is))
          (notes_from more (walked w list) (length list) (w.near (walked w list) (length list))
          (last_of list) (walked_fits list) (omega arith))

      pub outs_packets : (list : List ℕ)
          → GivesFrom outs list (w.near (walked w list) (length list))
      outs_packets list more new is =
          let low = w.near (walked w list) (length list) in
          let added = given_from w (walked w list) (length list) (last_of list) more in
          subst (λ (l : List Out). PacketsFrom low l)
          (append_cancel_left (outs list) added new (sym (outs_append list more) ∙ is))
          (between_packets added low low _ (omega arith)
          (packets_from more (walked w list) (length list) (last_of list) (walked_fits list)))
