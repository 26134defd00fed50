-- Lines that repeat the one before them.
use Rattle.std.proofs.Common.{◌≡◌, ℕ, zero, suc, ◌+◌, ◌-◌, ◌*◌, ◌/◌, ◌≤◌, ◌<◌, List, [], ◌∷◌, ◌++◌, take, drop, slice_range, length, length-drop, length-take-le, refl, sym, ◌∙◌, ap, subst, arith, append_assoc, get_or, Bool}
use Rattle.std.proofs.lemmas.List.{append-nil, drop-drop, ext_get_or, get_or-drop, get_or-take}
use Rattle.text_parts.specs.Places.{Placed}
use Rattle.la_io.specs.Intake.{Front}
use Rattle.byte_feed.specs.Lines.{is_feed, repeated}
use Rattle.byte_feed.specs.LineMoves.{LineAt}
use Rattle.byte_feed.specs.LineReader.{GaveAgain, LinesAt, Stands, front_of, number_of, text_of}
use Rattle.byte_feed.specs.Feeding.{told_of}
use Rattle.byte_feed.specs.declared.lines.Lines.{Lines}
use Rattle.std.proofs.Math.Nat.{div-mul-le_self}
use Rattle.byte_feed.proofs.Held.{rest_is}
use Rattle.byte_feed.proofs.LinePassing.{line_on}

-- each of so many bytes is that of so many further on
abbrev pub Repeats : List ℕ → ℕ → ℕ → Type 0
Repeats bytes over same = (k : ℕ) → k < same → get_or bytes k 0 ≡ get_or bytes (over + k) 0

-- at least one byte a line
times_least : (count over : ℕ) → 1 ≤ over → count ≤ count * over
times_least zero over some = omega arith
times_least (suc count) over some =
    let split : suc count * over ≡ over + count * over = grind arith in
    let rest = times_least count over some in
    omega (arith, split, rest, some)

-- a line and its end, at the front of other bytes
module _ (bytes new : List ℕ) (len : ℕ) (same : (k : ℕ) → k < len + 1 → get_or new k 0 ≡ get_or bytes k 0) where
  line_kept : LineAt bytes len → LineAt new len
  line_kept line = record {
    one = λ k less. ap is_feed (same k (omega (arith, less))) ∙ line.one k less;
    feed = ap is_feed (same len (omega arith)) ∙ line.feed;
  }

  text_kept : len ≤ length bytes → len ≤ length new → take len new ≡ take len bytes
  text_kept within long =
      let one : length (take len bytes) ≡ len = length-take-le len bytes within in
      let other : length (take len new) ≡ len = length-take-le len new long in
      ext_get_or 0 (take len new) (take len bytes) (other ∙ sym one)
      (λ k less. let below : k < len = omega (arith, less, other) in get_or-take len new k 0 below ∙ same k (omega (arith, below)) ∙ sym (get_or-take len bytes k 0 below))

module _ (bytes : List ℕ) (over same : ℕ) (repeats : Repeats bytes over same) where
  repeats_on : (less : ℕ) → less + over ≤ same → Repeats (drop over bytes) over less
  repeats_on less within k below =
      get_or-drop over bytes k 0 ∙ repeats (over + k) (omega (arith, within, below)) ∙ sym (get_or-drop over bytes (over + k) 0)

  -- behind so many lines
  same_behind : (count : ℕ) → count * over ≤ same → (k : ℕ) → k < over → get_or (drop (count * over) bytes) k 0 ≡ get_or bytes k 0
  same_behind zero few k below =
      let none : 0 * over ≡ 0 = omega arith in
      ap (λ (n : ℕ). get_or (drop n bytes) k 0) none
  same_behind (suc count) few k below =
      let split : suc count * over ≡ over + count * over = grind arith in
      let place : suc count * over + k ≡ over + (count * over + k) = omega (arith, split) in
      get_or-drop (suc count * over) bytes k 0 ∙ ap (λ (n : ℕ). get_or bytes n 0) place
      ∙ sym (repeats (count * over + k) (omega (arith, split, few, below))) ∙ sym (get_or-drop (count * over) bytes k 0)
      ∙ same_behind count (omega (arith, split, few)) k below

-- the line at the front and its end come so many times more
lines_again : (count : ℕ) (old new : Front) (len lines same : ℕ) → same + (len + 1) ≤ length old.bytes → count * (len + 1) ≤ same → Repeats old.bytes (len + 1) same → LineAt old.bytes len → 1 ≤ lines → len < 65536
    → new.bytes ≡ drop (count * (len + 1)) old.bytes → new.taken ≡ old.taken → (is : Bool) (bytes : List ℕ) (given : List Placed) → LinesAt old (len + 1) lines is bytes given
    → LinesAt new (len + 1) (lines + count) is bytes (given ++ repeated lines (take len old.bytes) count)
lines_again zero old new len lines same within few repeats line counted short gone taken is bytes given st =
    let lines_are : lines ≡ lines + 0 = omega arith in
    let none : 0 * (len + 1) ≡ 0 = omega arith in
    let held : new.bytes ≡ old.bytes = gone ∙ ap (λ (n : ℕ). drop n old.bytes) none in
    let front : old ≡ new = λ i. record { bytes = sym held i; taken = sym taken i } in
    coe 0 1 (i. LinesAt (front i) (len + 1) (lines_are i) is bytes (sym (append-nil given) i)) st
lines_again (suc count) old new len lines same within few repeats line counted short gone taken is bytes given st =
    let over = len + 1 in
    let mid : Front = record { bytes = drop over old.bytes; taken = old.taken } in
    let split : suc count * over ≡ over + count * over = grind arith in
    let one : over ≤ same = omega (arith, split, few) in
    let less = same - over in
    let mid_len : length mid.bytes ≡ length old.bytes - over = length-drop over old.bytes in
    let next_same : (k : ℕ) → k < over → get_or mid.bytes k 0 ≡ get_or old.bytes k 0 = λ k below. get_or-drop over old.bytes k 0 ∙ sym (repeats k (omega (arith, below, one))) in
    let next = line_kept old.bytes mid.bytes len next_same line in
    let text = text_kept old.bytes mid.bytes len next_same (omega (arith, within)) (omega (arith, mid_len, within, one)) in
    let step = line_on old mid over lines len refl refl counted short (omega (arith, mid_len, within, one)) next is bytes given st in
    let left = ap (λ (n : ℕ). drop n old.bytes) split ∙ sym (drop-drop (count * over) over old.bytes) in
    let rest = lines_again count mid new len (lines + 1) less (omega (arith, mid_len, within, one)) (omega (arith, split, few, one)) (repeats_on old.bytes over same repeats less (omega (arith, one))) next (omega arith) short (gone ∙ left) taken is bytes (given ++ (lines + 1, take len mid.bytes) ∷ []) step in
    let number : lines + 1 + count ≡ lines + suc count = omega arith in
    let all : (given ++ (lines + 1, take len mid.bytes) ∷ []) ++ repeated (lines + 1) (take len mid.bytes) count ≡ given ++ repeated lines (take len old.bytes) (suc count) =
    append_assoc given ((lines + 1, take len mid.bytes) ∷ []) (repeated (lines + 1) (take len mid.bytes) count) ∙ ap (λ (t : List ℕ). given ++ (lines + 1, t) ∷ repeated (lines + 1) t count) text in
    coe 0 1 (i. LinesAt new over (number i) is bytes (all i)) rest

-- nothing was given again
pub none_again : (old : Lines) → GaveAgain old old 0
none_again old bytes told given st = subst (λ (l : List Placed). Stands old bytes told l) (sym (append-nil given)) st

-- a reader let so many lines go, each of which repeats the one that it gave last
pub record LetGo (old : Lines) (mid : Front) (count : ℕ) : Type 0 where
  pub same : ℕ
  pub over_is : old.over ≡ old.len + 1
  pub within : same + old.over ≤ length (front_of old).bytes
  pub few : count * old.over ≤ same
  pub repeats : Repeats (front_of old).bytes old.over same
  pub gone : mid.bytes ≡ drop (count * old.over) (front_of old).bytes
  pub taken : mid.taken ≡ (front_of old).taken

-- as it compared what it holds with what it holds behind the line
pub let_go : (old : Lines) (mid boxed : Front) (held : List ℕ) (same : ℕ) → (old.over - old.len ≡ 1) → held ≡ (front_of old).bytes → boxed ≡ front_of old → same ≤ length (slice_range held old.over (length held))
    → ((k : ℕ) → k < same → get_or held k 0 ≡ get_or (slice_range held old.over (length held)) k 0) → mid.bytes ≡ drop (same / old.over * old.over) boxed.bytes → mid.taken ≡ boxed.taken → LetGo old mid (same / old.over)
let_go old mid boxed held same one is boxed_is within each gone taken = record {
  same = same;
  over_is = omega (arith, one);
  within = omega (arith, within, ap length (rest_is held old.over), length-drop old.over held, ap length is, old.held);
  few = div-mul-le_self same old.over;
  repeats = λ k below. ap (λ (l : List ℕ). get_or l k 0) (sym is) ∙ each k below ∙ ap (λ (l : List ℕ). get_or l k 0) (rest_is held old.over) ∙ get_or-drop old.over held k 0 ∙ ap (λ (l : List ℕ). get_or l (old.over + k) 0) is;
  gone = gone ∙ ap (λ (f : Front). drop (same / old.over * old.over) f.bytes) boxed_is;
  taken = taken ∙ ap (λ (f : Front). f.taken) boxed_is;
}

module _ (old : Lines) (mid : Front) (count : ℕ) (again : LetGo old mid count) where
  left : length mid.bytes ≡ length (front_of old).bytes - count * old.over
  left = ap length again.gone ∙ length-drop (count * old.over) (front_of old).bytes

  same_mid : (k : ℕ) → k < old.len + 1 → get_or mid.bytes k 0 ≡ get_or (front_of old).bytes k 0
  same_mid k below = ap (λ (l : List ℕ). get_or l k 0) again.gone ∙ same_behind (front_of old).bytes old.over again.same again.repeats count again.few k (omega (arith, below, again.over_is))

  pub gave_again : old.len < 65536 → (new : Lines) → front_of new ≡ mid → new.len ≡ old.len → new.over ≡ old.over → new.number ≡ old.number + count → new.ended ≡ old.ended → GaveAgain old new count
  gave_again short new front_is len_is over_same number ended bytes told given st = record {
    told_is = st.told_is ∙ ap (λ (b : Bool). told_of b) (sym ended);
    stands = coe 0 1 (i. LinesAt (sym front_is i) (sym (over_same ∙ again.over_is) i) (sym number i) (sym ended i) bytes (given ++ repeated (number_of old) (text_of old) count))
        (lines_again count (front_of old) mid old.len old.number again.same (omega (arith, again.within, again.over_is)) (subst (λ (n : ℕ). count * n ≤ again.same) again.over_is again.few) (subst (λ (n : ℕ). Repeats (front_of old).bytes n again.same) again.over_is again.repeats)
        (old.whole again.over_is) (old.counted again.over_is) short (again.gone ∙ ap (λ (n : ℕ). drop (count * n) (front_of old).bytes) again.over_is) again.taken old.ended bytes given
        (subst (λ (n : ℕ). LinesAt (front_of old) n old.number old.ended bytes given) again.over_is st.stands));
  }

  pub line_again : LineAt mid.bytes old.len
  line_again = line_kept (front_of old).bytes mid.bytes old.len same_mid (old.whole again.over_is)

  pub text_again : take old.len mid.bytes ≡ text_of old
  text_again = text_kept (front_of old).bytes mid.bytes old.len same_mid (omega (arith, again.within, again.over_is)) (omega (arith, left, again.within, again.few, again.over_is))

  pub held_again : old.over ≤ length mid.bytes
  held_again = omega (arith, left, again.within, again.few)

  pub few_again : old.number + count + (length mid.bytes - old.over) ≤ mid.taken
  few_again = let least = times_least count old.over (omega (arith, again.over_is)) in omega (arith, left, again.within, again.few, least, again.taken, old.few)
