-- The walk over a bus is sound.
use Rattle.std.proofs.Common.{◌≡◌, ◌≢◌, ◌⊎◌, inl, inr, ℕ, ◌+◌, ◌<◌, ◌≤◌, min, Bool, true, false}
use Rattle.std.proofs.Common.{List, [], ◌∷◌, length, Option, Some, None, refl, sym, ◌∙◌, ap, subst}
use Rattle.std.proofs.Common.{arith, if◌then◌else◌, ◌==◌}
use Rattle.std.specs.Prelude.{nat_lt, ◌&&◌, is_some}
use Rattle.std.proofs.Math.Nat.{le_refl, le-min, min-le_right}
use Rattle.std.proofs.lemmas.Bool.{cases_eq, cases_lt, and_from}
use Rattle.la_base.specs.Samples.{is_high}
use Rattle.la_base.specs.declared.wires.Out.{Out}
use Rattle.list_cuts.proofs.TestLaws.{when_yes, when_no, test_yes, test_no, less_yes, less_no}
use Rattle.decoder_core.specs.Promises.{NotesFrom, packet_starts}
use Rattle.sample_walks.specs.Walks.{Between}
use Rattle.sample_walks.specs.Events.{SoundEvents}
use Rattle.dec_i2c.specs.declared.held.Role.{Role}
use Rattle.dec_i2c.specs.declared.held.Role.TheVariants.{First, Lower, Command, Write, Read}
use Rattle.dec_i2c.specs.declared.held.Segment.{Segment}
use Rattle.dec_i2c.specs.Bytes.{first_outs, byte_outs, read_by}
use Rattle.dec_i2c.specs.Bus.{Event, Start, Stop, Clock, place_of, event_by, event_at, start_outs}
use Rattle.dec_i2c.specs.Bus.{ack_outs}
use Rattle.dec_i2c.specs.laws.Machine.{near_by, grown, start_of, byte_next, bit_next, group_next}
use Rattle.dec_i2c.specs.laws.Machine.{clock_gives, clock_next, gives, next, i2c_walk}
use Rattle.dec_i2c.specs.laws.GivenLaws.{gives_on}
use Rattle.dec_i2c.specs.laws.MetLaws.{none_is_no_event, met_is_event}

-- the byte that has begun starts at one of so many samples
abbrev pub fits_at : Option Segment → ℕ → Type 0
fits_at None q = Unit {0}
fits_at (Some segment) q = segment.first ≤ q

abbrev pub i2c_fits : Option Segment → ℕ → Option ℕ → Type 0
i2c_fits held q before = fits_at held q

-- neighbours make one event at most, which stands at the second
head_of : Event → List Event → Event
head_of other [] = other
head_of other (e ∷ es) = e

one_by : (q : ℕ) (a b c d : Bool)
    → (event_by q a b c d ≡ []) ⊎ ((e : Event) × (event_by q a b c d ≡ e ∷ []))
one_by q true true true false = inr (Start q, refl)
one_by q true true false true = inr (Stop q, refl)
one_by q true true true true = inl refl
one_by q true true false false = inl refl
one_by q true false c d = inl refl
one_by q false true c d = inr (Clock q d, refl)
one_by q false false c d = inl refl

one : (scl sda q : ℕ) (before : Option ℕ) (now : ℕ)
    → (event_at scl sda q before now ≡ [])
    ⊎ ((e : Event) × (event_at scl sda q before now ≡ e ∷ []))
one scl sda q None now = inl refl
one scl sda q (Some old) now =
    one_by q (is_high old scl) (is_high now scl) (is_high old sda) (is_high now sda)

place_by : (q : ℕ) (a b c d : Bool) (e : Event) → event_by q a b c d ≡ e ∷ [] → q ≡ place_of e
unfolding head_of
place_by q true true true false e is = ap (λ (l : List Event). place_of (head_of e l)) is
place_by q true true false true e is = ap (λ (l : List Event). place_of (head_of e l)) is
place_by q true true true true e is = absurd cc
place_by q true true false false e is = absurd cc
place_by q true false c d e is = absurd cc
place_by q false true c d e is = ap (λ (l : List Event). place_of (head_of e l)) is
place_by q false false c d e is = absurd cc

place_is : (scl sda q : ℕ) (before : Option ℕ) (now : ℕ) (e : Event)
    → event_at scl sda q before now ≡ e ∷ [] → q ≡ place_of e
place_is scl sda q None now e is = absurd cc
place_is scl sda q (Some old) now e is =
    place_by q (is_high old scl) (is_high now scl) (is_high old sda) (is_high now sda) e is

-- where what is open starts
near_most : (h : Option Segment) (q : ℕ) → fits_at h q → near_by h q ≤ q
near_most None q fit = le_refl q
near_most (Some s) q fit = by (nat_lt 0 s.bits && nat_lt s.bits 8)
  where
    by : (b : Bool) → (if b then s.first else q) ≤ q
    by true = fit
    by false = le_refl q

near_more : (h : Option Segment) (q : ℕ) → near_by h q ≤ near_by h (q + 1)
near_more None q = omega arith
near_more (Some s) q = by (nat_lt 0 s.bits && nat_lt s.bits 8)
  where
    by : (b : Bool) → (if b then s.first else q) ≤ (if b then s.first else q + 1)
    by true = le_refl s.first
    by false = omega arith

fits_more : (h : Option Segment) (q : ℕ) → fits_at h q → fits_at h (q + 1)
fits_more None q fit = tt
fits_more (Some s) q fit = omega (arith, fit)

-- outputs of a byte and of an acknowledge bit
first_few : (own : Option ℕ) (first last byte : ℕ) → length (first_outs own first last byte) ≤ 16
first_few None first last byte = omega arith
first_few (Some address) first last byte = omega arith

first_notes : (own : Option ℕ) (first last byte p : ℕ) → p ≤ first → p ≤ last
    → NotesFrom p (first_outs own first last byte)
first_notes None first last byte p after within = (le-min after within, tt)
first_notes (Some address) first last byte p after within = (le-min after within, tt)

first_starts : (own : Option ℕ) (first last byte : ℕ)
    → packet_starts (first_outs own first last byte) ≡ min first last ∷ []
first_starts None first last byte = refl
first_starts (Some address) first last byte = refl

module _ (known : ℕ → Option ℕ) (first last byte : ℕ) where
  byte_few : (role : Role) → length (byte_outs known role first last byte) ≤ 16
  byte_few First = first_few (known byte) first last byte
  byte_few (Lower two) = omega arith
  byte_few Command = omega arith
  byte_few Write = omega arith
  byte_few Read = omega arith

  byte_notes : (role : Role) (p : ℕ) → p ≤ first → p ≤ last
      → NotesFrom p (byte_outs known role first last byte)
  byte_notes First p after within = first_notes (known byte) first last byte p after within
  byte_notes (Lower two) p after within = (le-min after within, tt)
  byte_notes Command p after within = (le-min after within, tt)
  byte_notes Write p after within = (le-min after within, tt)
  byte_notes Read p after within = (le-min after within, tt)

  byte_starts : (role : Role)
      → packet_starts (byte_outs known role first last byte) ≡ min first last ∷ []
  byte_starts First = first_starts (known byte) first last byte
  byte_starts (Lower two) = refl
  byte_starts Command = refl
  byte_starts Write = refl
  byte_starts Read = refl

ack_few : (k : ℕ) (level : Bool) → length (ack_outs k level) ≤ 16
ack_few k true = omega arith
ack_few k false = omega arith

ack_notes : (k p : ℕ) (level : Bool) → p ≤ k → NotesFrom p (ack_outs k level)
ack_notes k p true after = (after, tt)
ack_notes k p false after = (after, tt)

ack_starts : (k : ℕ) (level : Bool) → packet_starts (ack_outs k level) ≡ k ∷ []
ack_starts k true = refl
ack_starts k false = refl

module _ (s : Segment) (k : ℕ) (level : Bool) where
  abbrev known : ℕ → Option ℕ
  known own = read_by own s.ten

  abbrev held : Option Segment
  held = Some s

  abbrev value : ℕ
  value = grown s.byte level

  abbrev given : List Out
  given = clock_gives s k level

  abbrev then_ : Segment
  then_ = clock_next s k level

  at_seven : s.bits ≡ 7 → given ≡ byte_outs known s.role s.first k value
  at_seven seven = when_yes (s.bits == 7) _ _ (test_yes s.bits 7 seven)

  at_eight : s.bits ≡ 8 → given ≡ ack_outs k level
  at_eight eight =
      when_no (s.bits == 7) _ _ (test_no s.bits 7 (λ e. absurd (omega (arith, e, eight))))
      ∙ when_yes (s.bits == 8) _ _ (test_yes s.bits 8 eight)

  at_other : s.bits ≢ 7 → s.bits ≢ 8 → given ≡ []
  at_other seven eight =
      when_no (s.bits == 7) _ _ (test_no s.bits 7 seven)
      ∙ when_no (s.bits == 8) _ _ (test_no s.bits 8 eight)

  then_seven : s.bits ≡ 7 → then_ ≡ byte_next s value
  then_seven seven = when_yes (s.bits == 7) _ _ (test_yes s.bits 7 seven)

  then_few : s.bits < 7 → then_ ≡ bit_next s value k
  then_few few =
      when_no (s.bits == 7) _ _ (test_no s.bits 7 (λ e. absurd (omega (arith, e, few))))
      ∙ when_yes (nat_lt s.bits 7) _ _ (less_yes s.bits 7 few)

  then_many : 7 < s.bits → then_ ≡ group_next s
  then_many many =
      when_no (s.bits == 7) _ _ (test_no s.bits 7 (λ e. absurd (omega (arith, e, many))))
      ∙ when_no (nat_lt s.bits 7) _ _ (less_no s.bits 7 (omega (arith, many)))

  -- a byte has begun
  has_begun : (n : ℕ) → 0 < n → n < 8 → (nat_lt 0 n && nat_lt n 8) ≡ true
  has_begun n some few = and_from (nat_lt 0 n) (nat_lt n 8) (less_yes 0 n some) (less_yes n 8 few)

  near_first : 0 < s.bits → s.bits < 8 → near_by held k ≡ s.first
  near_first some few =
      when_yes (nat_lt 0 s.bits && nat_lt s.bits 8) s.first k (has_begun s.bits some few)

  clock_few : length given ≤ 16
  clock_few = by (s.bits == 7) (s.bits == 8)
    where
      by : (c d : Bool) → length
          (if c then byte_outs known s.role s.first k value
          else (if d then ack_outs k level else [])) ≤ 16
      by true d = byte_few known s.first k value s.role
      by false true = ack_few k level
      by false false = omega arith

  module _ (below : s.first ≤ k) where
    most : near_by held k ≤ k
    most = near_most held k below

    start_most : start_of s.bits s.first k ≤ k
    start_most = by (s.bits == 0)
      where
        by : (b : Bool) → (if b then k else s.first) ≤ k
        by true = le_refl k
        by false = below

    near_start : s.bits < 7 → near_by held k ≤ start_of s.bits s.first k
    near_start few = elim (cases_eq s.bits 0) [
      | inl none ↦ subst (λ (n : ℕ). near_by held k ≤ n)
          (sym (when_yes (s.bits == 0) k s.first (test_yes s.bits 0 none))) most
      | inr some ↦
          let same : near_by held k ≡ s.first =
          near_first (omega (arith, some)) (omega (arith, few)) in
          subst (λ (n : ℕ). near_by held k ≤ n)
          (same ∙ sym (when_no (s.bits == 0) k s.first (test_no s.bits 0 some)))
          (le_refl (near_by held k))
    ]

    clock_fits : then_.first ≤ k + 1
    clock_fits = elim (cases_eq s.bits 7) [
      | inl seven ↦ subst (λ (t : Segment). t.first ≤ k + 1) (sym (then_seven seven))
          (omega (arith, below))
      | inr other ↦ elim (cases_lt s.bits 7) [
        | inl few ↦ subst (λ (t : Segment). t.first ≤ k + 1) (sym (then_few few))
            (let start = start_most in omega (arith, start))
        | inr many ↦ subst (λ (t : Segment). t.first ≤ k + 1)
            (sym (then_many (omega (arith, many, other)))) (omega arith)
      ]
    ]

    clock_notes : NotesFrom (near_by held k) given
    clock_notes = elim (cases_eq s.bits 7) [
      | inl seven ↦
          let same : near_by held k ≡ s.first =
          near_first (omega (arith, seven)) (omega (arith, seven)) in
          subst (λ (l : List Out). NotesFrom (near_by held k) l) (sym (at_seven seven))
          (byte_notes known s.first k value s.role (near_by held k) (omega (arith, same)) most)
      | inr other ↦ elim (cases_eq s.bits 8) [
        | inl eight ↦ subst (λ (l : List Out). NotesFrom (near_by held k) l) (sym (at_eight eight))
            (ack_notes k (near_by held k) level most)
        | inr neither ↦ subst (λ (l : List Out). NotesFrom (near_by held k) l)
            (sym (at_other other neither)) tt
      ]
    ]

    abbrev Rises : List Out → Segment → Type 0
    Rises outs later = Between (near_by held k) (near_by (Some later) (k + 1)) (packet_starts outs)

    seven_packets : s.bits ≡ 7 → Rises given then_
    seven_packets seven =
        let same : near_by held k ≡ s.first =
        near_first (omega (arith, seven)) (omega (arith, seven)) in
        let least : near_by held k ≤ min s.first k =
        le-min (let e = same in omega (arith, e)) most in
        let within = min-le_right s.first k in
        subst (λ (t : Segment). Rises given t) (sym (then_seven seven))
        (subst (λ (l : List ℕ). Between (near_by held k) (k + 1) l)
        (sym (ap packet_starts (at_seven seven) ∙ byte_starts known s.first k value s.role))
        (least, omega (arith, within)))

    eight_packets : s.bits ≡ 8 → Rises given then_
    eight_packets eight =
        subst (λ (t : Segment). Rises given t) (sym (then_many (omega (arith, eight))))
        (subst (λ (l : List ℕ). Between (near_by held k) (k + 1) l)
        (sym (ap packet_starts (at_eight eight) ∙ ack_starts k level)) (most, omega arith))

    few_packets : s.bits < 7 → Rises given then_
    few_packets few =
        let start = near_start few in
        let begun = has_begun (s.bits + 1) (omega arith) (omega (arith, few)) in
        subst (λ (t : Segment). Rises given t) (sym (then_few few))
        (subst (λ (l : List Out). Rises l (bit_next s value k))
        (sym (at_other (λ e. absurd (omega (arith, e, few))) (λ e. absurd (omega (arith, e, few)))))
        (subst (λ (n : ℕ). near_by held k ≤ n)
        (sym (when_yes (nat_lt 0 (s.bits + 1) && nat_lt (s.bits + 1) 8) (start_of s.bits s.first k)
        (k + 1) begun)) start))

    many_packets : 8 < s.bits → Rises given then_
    many_packets many =
        let least = most in
        subst (λ (t : Segment). Rises given t) (sym (then_many (omega (arith, many))))
        (subst (λ (l : List Out). Rises l (group_next s))
        (sym (at_other (λ e. absurd (omega (arith, e, many)))
        (λ e. absurd (omega (arith, e, many))))) (omega (arith, least)))

    clock_packets : Rises given then_
    clock_packets = elim (cases_eq s.bits 7) [
      | inl seven ↦ seven_packets seven
      | inr other ↦ elim (cases_eq s.bits 8) [
        | inl eight ↦ eight_packets eight
        | inr neither ↦ elim (cases_lt s.bits 7) [
          | inl few ↦ few_packets few
          | inr many ↦ many_packets (omega (arith, many, other, neither))
        ]
      ]
    ]

-- the laws of events, at their own places
few : (h : Option Segment) (e : Event) → length (gives h e) ≤ 16
few h (Start k) = by (is_some h)
  where
    by : (b : Bool) → length (start_outs b k) ≤ 16
    by true = omega arith
    by false = omega arith
few h (Stop k) = omega arith
few None (Clock k level) = omega arith
few (Some s) (Clock k level) = clock_few s k level

fits_next : (h : Option Segment) (e : Event) → fits_at h (place_of e)
    → fits_at (next h e) (place_of e + 1)
fits_next h (Start k) fit = omega arith
fits_next h (Stop k) fit = tt
fits_next None (Clock k level) fit = tt
fits_next (Some s) (Clock k level) fit = clock_fits s k level fit

start_notes : (k p : ℕ) (again : Bool) → p ≤ k → NotesFrom p (start_outs again k)
start_notes k p true after = (after, tt)
start_notes k p false after = (after, tt)

notes_of : (h : Option Segment) (e : Event) → fits_at h (place_of e)
    → NotesFrom (near_by h (place_of e)) (gives h e)
notes_of h (Start k) fit = start_notes k (near_by h k) (is_some h) (near_most h k fit)
notes_of h (Stop k) fit = (near_most h k fit, tt)
notes_of None (Clock k level) fit = tt
notes_of (Some s) (Clock k level) fit = clock_notes s k level fit

start_packets : (k low : ℕ) (again : Bool) → low ≤ k
    → Between low (k + 1) (packet_starts (start_outs again k))
start_packets k low true after = (after, omega arith)
start_packets k low false after = (after, omega arith)

packets_of : (h : Option Segment) (e : Event) → fits_at h (place_of e)
    → Between (near_by h (place_of e)) (near_by (next h e) (place_of e + 1))
    (packet_starts (gives h e))
packets_of h (Start k) fit = start_packets k (near_by h k) (is_some h) (near_most h k fit)
packets_of h (Stop k) fit = (near_most h k fit, omega arith)
packets_of None (Clock k level) fit = omega arith
packets_of (Some s) (Clock k level) fit = clock_packets s k level fit

module _ (scl sda : ℕ) where
  pub i2c_events : SoundEvents (i2c_walk scl sda) i2c_fits
  i2c_events = record {
    one = one scl sda;
    begin_fits = tt;
    fits_on = λ h q before now fit none. fits_more h q fit;
    next_fits = λ h q before now e fit is.
        let at = place_is scl sda q before now e is in
        subst (λ (n : ℕ). fits_at (next h e) (n + 1)) (sym at)
        (fits_next h e (subst (λ (n : ℕ). fits_at h n) at fit));
    none = λ h q before now from fit set. none_is_no_event scl sda from q before now set;
    some = λ h q before now from met fit set some. met_is_event scl sda from q before now met set
        some;
    few = few;
    near_on = λ h q before fit. near_more h q;
    notes = λ h q before now e fit is.
        let at = place_is scl sda q before now e is in
        subst (λ (n : ℕ). NotesFrom (near_by h n) (gives h e)) (sym at)
        (notes_of h e (subst (λ (n : ℕ). fits_at h n) at fit));
    packets = λ h q before now e fit is.
        let at = place_is scl sda q before now e is in
        subst (λ (n : ℕ). Between (near_by h n) (near_by (next h e) (n + 1))
        (packet_starts (gives h e))) (sym at)
        (packets_of h e (subst (λ (n : ℕ). fits_at h n) at fit));
    on_wire = gives_on;
  }
