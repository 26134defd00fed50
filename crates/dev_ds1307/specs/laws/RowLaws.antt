-- Rows of bytes that are registers from 0 on, behind one more byte.
use Rattle.std.proofs.Common.{◌≡◌, ◌⊎◌, inl, inr, ℕ, ◌+◌, ◌-◌, ◌*◌, ◌/◌, ◌%◌, ◌^◌, ◌<◌, ◌≤◌, ◌==◌}
use Rattle.std.proofs.Common.{◌&&◌, Bool, true, false, if◌then◌else◌, List, [], ◌∷◌, ◌++◌, length}
use Rattle.std.proofs.Common.{drop, refl, sym, ◌∙◌, ap, arith, length-append}
use Rattle.std.specs.Prelude.{nat_le}
use Rattle.std.proofs.lemmas.Bool.Decides.{leb_tells, eqb_tells}
use Rattle.std.proofs.lemmas.List.{drop-append-le, drop_all, length-drop}
use Rattle.la_base.specs.declared.wires.Out.{Out}
use Rattle.la_base.specs.declared.wires.Packet.{Packet}
use Rattle.decoder_core.specs.Outputs.{span_note}
use Rattle.i2c_phases.specs.Phases.{byte_of}
use Rattle.i2c_phases.specs.Bytes.{byte_note, byte_piece}
use Rattle.dev_ds1307.specs.declared.held.Part.{Part}
use Rattle.dev_ds1307.specs.declared.held.Part.TheVariants.{Row}
use Rattle.dev_ds1307.specs.Clock.{byte_outs, last_bytes, number_of, start_of, time_outs}
use Rattle.dev_ds1307.specs.laws.Held.{byte_gives, collect, collected, in_row, next_part, next_row}
use Rattle.dev_ds1307.specs.laws.Held.{row_gives, row_of, time_gives}

-- the last bytes
pub last_length : (count : ℕ) (bytes : List Packet) → count ≤ length bytes
    → length (last_bytes count bytes) ≡ count
last_length count bytes low = length-drop (length bytes - count) bytes ∙ omega (arith, low)

last_more : (count : ℕ) (bytes : List Packet) (p : Packet) → count ≤ length bytes
    → last_bytes (count + 1) (bytes ++ p ∷ []) ≡ last_bytes count bytes ++ p ∷ []
last_more count bytes p low =
    let n = length-append bytes (p ∷ []) in
    let e : length (bytes ++ p ∷ []) - (count + 1) ≡ length bytes - count = omega (arith, n, low) in
    ap (λ (k : ℕ). drop k (bytes ++ p ∷ [])) e
    ∙ drop-append-le (length bytes - count) bytes (p ∷ []) (omega arith)

last_one : (bytes : List Packet) (p : Packet) → last_bytes 1 (bytes ++ p ∷ []) ≡ p ∷ []
last_one bytes p =
    last_more 0 bytes p (omega arith)
    ∙ ap (λ (l : List Packet). l ++ p ∷ []) (drop_all (length bytes - 0) bytes (omega arith))

start_front : (bytes : List Packet) (p : Packet) → 1 ≤ length bytes
    → start_of (bytes ++ p ∷ []) ≡ start_of bytes
start_front [] p some = absurd (omega (arith, some))
start_front (x ∷ bytes) p some = refl

-- numbers of bytes
collected_more : (n : ℕ) (bytes : List Packet) (p : Packet)
    → collected n (bytes ++ p ∷ []) ≡ collect (collected n bytes) p
collected_more n [] p = refl
collected_more n (x ∷ bytes) p = collected_more (collect n x) bytes p

-- behind seven bytes the first is the lowest
of_seven : (bytes : List Packet) → length bytes ≡ 7 → collected 0 bytes ≡ number_of bytes
of_seven [] few = absurd (omega (arith, few))
of_seven (a ∷ []) few = absurd (omega (arith, few))
of_seven (a ∷ b ∷ []) few = absurd (omega (arith, few))
of_seven (a ∷ b ∷ c ∷ []) few = absurd (omega (arith, few))
of_seven (a ∷ b ∷ c ∷ d ∷ []) few = absurd (omega (arith, few))
of_seven (a ∷ b ∷ c ∷ d ∷ e ∷ []) few = absurd (omega (arith, few))
of_seven (a ∷ b ∷ c ∷ d ∷ e ∷ f ∷ []) few = absurd (omega (arith, few))
of_seven (a ∷ b ∷ c ∷ d ∷ e ∷ f ∷ g ∷ []) few =
    seven (byte_of a) (byte_of b) (byte_of c) (byte_of d) (byte_of e) (byte_of f) (byte_of g)
  where
    seven : (a b c d e f g : ℕ)
        → ((((((0 / 256 + a * 2 ^ 48) / 256 + b * 2 ^ 48) / 256 + c * 2 ^ 48) / 256 + d * 2 ^ 48) /
        256 + e * 2 ^ 48) / 256 + f * 2 ^ 48) / 256 + g * 2 ^ 48
        ≡ a + 256 * (b + 256 * (c + 256 * (d + 256 * (e + 256 * (f + 256 * (g + 256 * 0))))))
    seven a b c d e f g = omega arith
of_seven (a ∷ b ∷ c ∷ d ∷ e ∷ f ∷ g ∷ h ∷ bytes) many = absurd (omega (arith, many))

-- tests of rows
is_in_row : (at count : ℕ) → 1 ≤ at → at ≤ 6 → at ≤ count → in_row at count ≡ true
is_in_row at count some few low = by (leb_tells 1 at) (leb_tells at 6) (leb_tells at count)
  where
    by : ((nat_le 1 at ≡ true) × (1 ≤ at)) ⊎ ((nat_le 1 at ≡ false) × (at < 1))
        → ((nat_le at 6 ≡ true) × (at ≤ 6)) ⊎ ((nat_le at 6 ≡ false) × (6 < at))
        → ((nat_le at count ≡ true) × (at ≤ count)) ⊎ ((nat_le at count ≡ false) × (count < at))
        → in_row at count ≡ true
    by (inl a) (inl b) (inl c) = λ i. a.0 i && (b.0 i && c.0 i)
    by (inr a) b c = let low = a.1 in absurd (omega (arith, some, low))
    by (inl a) (inr b) c = let high = b.1 in absurd (omega (arith, few, high))
    by (inl a) (inl b) (inr c) = let short = c.1 in absurd (omega (arith, low, short))

no_row : (at count : ℕ) → (at < 1) ⊎ ((6 < at) ⊎ (count < at)) → in_row at count ≡ false
no_row at count none = by (nat_le 1 at) (nat_le at 6) (nat_le at count) refl refl refl
  where
    high : nat_le 1 at ≡ true → nat_le at 6 ≡ true → nat_le at count ≡ true → ⊥
    high a b c = elim none [
      | inl low ↦ absurd (grind (arith, leb_tells))
      | inr more ↦ elim more [
        | inl six ↦ absurd (grind (arith, leb_tells))
        | inr few ↦ absurd (grind (arith, leb_tells))
      ]
    ]

    by : (t u v : Bool) → nat_le 1 at ≡ t → nat_le at 6 ≡ u → nat_le at count ≡ v
        → (t && (u && v)) ≡ false
    by false u v a b c = refl
    by true false v a b c = refl
    by true true false a b c = refl
    by true true true a b c = absurd (high a b c)

-- what is kept of a row, and what isn't one
module _ (none : Part) where
  row_is : (at : ℕ) (bytes : List Packet) → in_row at (length bytes) ≡ true
      → row_of none at bytes
      ≡ Row (start_of (last_bytes at bytes)) (collected 0 (last_bytes at bytes))
  row_is at bytes is =
      ap (λ (t : Bool). if t
      then Row (start_of (last_bytes at bytes)) (collected 0 (last_bytes at bytes)) else none) is

  pub row_none : (at : ℕ) (bytes : List Packet) → in_row at (length bytes) ≡ false
      → row_of none at bytes ≡ none
  row_none at bytes is =
      ap (λ (t : Bool). if t
      then Row (start_of (last_bytes at bytes)) (collected 0 (last_bytes at bytes)) else none) is

  pub row_empty : (at : ℕ) → row_of none at [] ≡ none
  row_empty at = row_none at [] (no_row at 0 (by (leb_tells 1 at)))
    where
      by : ((nat_le 1 at ≡ true) × (1 ≤ at)) ⊎ ((nat_le 1 at ≡ false) × (at < 1))
          → (at < 1) ⊎ ((6 < at) ⊎ (0 < at))
      by (inl some) = inr (inr some.1)
      by (inr low) = inl low.1

  module _ (stays : (p : Packet) → next_row none none p ≡ none) (at : ℕ) (bytes : List Packet)
      (p : Packet) (small : at < 64) where
    longer : length (bytes ++ p ∷ []) ≡ length bytes + 1
    longer = length-append bytes (p ∷ [])

    -- register 0 begins a row
    row_begins : at ≡ 0 → row_of none ((at + 1) % 64) (bytes ++ p ∷ []) ≡ Row p.start (collect 0 p)
    row_begins zero =
        let next : (at + 1) % 64 ≡ 1 = omega (arith, zero) in
        let has : in_row 1 (length (bytes ++ p ∷ [])) ≡ true =
        is_in_row 1 (length (bytes ++ p ∷ [])) (omega arith) (omega arith)
        (omega (arith, longer)) in
        ap (λ (k : ℕ). row_of none k (bytes ++ p ∷ [])) next ∙ row_is 1 (bytes ++ p ∷ []) has
        ∙ ap (λ (l : List Packet). Row (start_of l) (collected 0 l)) (last_one bytes p)

    -- registers behind 5 end it
    row_ends : 6 ≤ at → row_of none ((at + 1) % 64) (bytes ++ p ∷ []) ≡ none
    row_ends high =
        row_none ((at + 1) % 64) (bytes ++ p ∷ [])
        (no_row ((at + 1) % 64) (length (bytes ++ p ∷ [])) (by (leb_tells 1 ((at + 1) % 64))))
      where
        by : ((nat_le 1 ((at + 1) % 64) ≡ true) × (1 ≤ (at + 1) % 64))
            ⊎ ((nat_le 1 ((at + 1) % 64) ≡ false) × ((at + 1) % 64 < 1))
            → ((at + 1) % 64 < 1)
            ⊎ ((6 < (at + 1) % 64) ⊎ (length (bytes ++ p ∷ []) < (at + 1) % 64))
        by (inl some) = let one = some.1 in inr (inl (omega (arith, one, small, high)))
        by (inr low) = inl low.1

    -- and the others go on with it
    row_goes : 1 ≤ at → at < 6 → at ≤ length bytes
        → row_of none ((at + 1) % 64) (bytes ++ p ∷ []) ≡ next_row none (row_of none at bytes) p
    row_goes some few low =
        let next : (at + 1) % 64 ≡ at + 1 = omega (arith, few) in
        let had : in_row at (length bytes) ≡ true =
        is_in_row at (length bytes) some (omega (arith, few)) low in
        let has : in_row (at + 1) (length (bytes ++ p ∷ [])) ≡ true =
        is_in_row (at + 1) (length (bytes ++ p ∷ [])) (omega arith) (omega (arith, few))
        (omega (arith, low, longer)) in
        let row = last_bytes at bytes in
        let first : 1 ≤ length row = let n = last_length at bytes low in omega (arith, n, some) in
        ap (λ (k : ℕ). row_of none k (bytes ++ p ∷ [])) next ∙ row_is (at + 1) (bytes ++ p ∷ []) has
        ∙ ap (λ (l : List Packet). Row (start_of l) (collected 0 l)) (last_more at bytes p low)
        ∙ (λ i. Row (start_front row p first i) (collected_more 0 row p i))
        ∙ sym (ap (λ (r : Part). next_row none r p) (row_is at bytes had))

    row_misses : length bytes < at → at < 6
        → row_of none ((at + 1) % 64) (bytes ++ p ∷ []) ≡ next_row none (row_of none at bytes) p
    row_misses short few =
        let next : (at + 1) % 64 ≡ at + 1 = omega (arith, few) in
        ap (λ (k : ℕ). row_of none k (bytes ++ p ∷ [])) next
        ∙ row_none (at + 1) (bytes ++ p ∷ [])
        (no_row (at + 1) (length (bytes ++ p ∷ [])) (inr (inr (omega (arith, short, longer)))))
        ∙ sym (ap (λ (r : Part). next_row none r p)
        (row_none at bytes (no_row at (length bytes) (inr (inr short)))) ∙ stays p)

    pub row_more : row_of none ((at + 1) % 64) (bytes ++ p ∷ [])
        ≡ next_part none at (row_of none at bytes) p
    row_more = by (eqb_tells at 0) (leb_tells 6 at) (leb_tells at (length bytes))
      where
        to_begin : (at == 0) ≡ true
            → next_part none at (row_of none at bytes) p ≡ Row p.start (collect 0 p)
        to_begin zero =
            ap (λ (t : Bool). if t then Row p.start (collect 0 p)
            else (if nat_le 6 at then none else next_row none (row_of none at bytes) p)) zero

        to_end : (at == 0) ≡ false → nat_le 6 at ≡ true
            → next_part none at (row_of none at bytes) p ≡ none
        to_end zero high =
            λ i. if zero i then Row p.start (collect 0 p)
            else (if high i then none else next_row none (row_of none at bytes) p)

        to_go : (at == 0) ≡ false → nat_le 6 at ≡ false
            → next_part none at (row_of none at bytes) p ≡ next_row none (row_of none at bytes) p
        to_go zero high =
            λ i. if zero i then Row p.start (collect 0 p)
            else (if high i then none else next_row none (row_of none at bytes) p)

        by : (((at == 0) ≡ true) × (at ≡ 0)) ⊎ (((at == 0) ≡ false) × (at ≡ 0 → ⊥))
            → ((nat_le 6 at ≡ true) × (6 ≤ at)) ⊎ ((nat_le 6 at ≡ false) × (at < 6))
            → ((nat_le at (length bytes) ≡ true) × (at ≤ length bytes))
            ⊎ ((nat_le at (length bytes) ≡ false) × (length bytes < at))
            → row_of none ((at + 1) % 64) (bytes ++ p ∷ [])
            ≡ next_part none at (row_of none at bytes) p
        by (inl zero) high low = row_begins zero.1 ∙ sym (to_begin zero.0)
        by (inr zero) (inl high) low = row_ends high.1 ∙ sym (to_end zero.0 high.0)
        by (inr zero) (inr few) (inl low) = let other = zero.1 in
            row_goes (some other) few.1 low.1 ∙ sym (to_go zero.0 few.0)
          where
            some : (at ≡ 0 → ⊥) → 1 ≤ at
            some other = elim (leb_tells 1 at) [
              | inl one ↦ one.1
              | inr none ↦ let low = none.1 in absurd (other (omega (arith, low)))
            ]
        by (inr zero) (inr few) (inr short) = row_misses short.1 few.1 ∙ sym (to_go zero.0 few.0)

-- what the byte at register 6 gives, by what is kept
module _ (none : Part) (silent : (class : ℕ) (p : Packet) → time_gives class none p ≡ [])
    (class : ℕ) (bytes : List Packet) (p : Packet) where
  abbrev seven : List Packet
  seven = last_bytes 6 bytes ++ p ∷ []

  last_six : 6 ≤ length bytes
      → row_gives class 6 (row_of none 6 bytes) p ≡ time_outs class 6 bytes p
  last_six low =
      let six = last_bytes 6 bytes in
      let count = last_length 6 bytes low in
      let all : length seven ≡ 7 = let n = length-append six (p ∷ []) in omega (arith, n, count) in
      let had : in_row 6 (length bytes) ≡ true =
      is_in_row 6 (length bytes) (omega arith) (omega arith) low in
      let is : nat_le 6 (length bytes) ≡ true = elim (leb_tells 6 (length bytes)) [
        | inl more ↦ more.0
        | inr less ↦ let high = less.1 in absurd (omega (arith, low, high))
      ] in
      let number : collect (collected 0 six) p ≡ number_of seven =
      sym (collected_more 0 six p) ∙ of_seven seven all in
      let start : start_of six ≡ start_of seven = sym (start_front six p (omega (arith, count))) in
      ap (λ (r : Part). time_gives class r p) (row_is none 6 bytes had)
      ∙ (λ i. span_note class (start i) p.end (number i) 0 ∷ [])
      ∙ sym (ap
      (λ (t : Bool). if t then span_note class (start_of seven) p.end (number_of seven) 0 ∷ []
      else []) is)

  too_few : length bytes < 6 → row_gives class 6 (row_of none 6 bytes) p ≡ time_outs class 6 bytes p
  too_few short =
      let is : nat_le 6 (length bytes) ≡ false = elim (leb_tells 6 (length bytes)) [
        | inl more ↦ let low = more.1 in absurd (omega (arith, low, short))
        | inr less ↦ less.0
      ] in
      ap (λ (r : Part). time_gives class r p)
      (row_none none 6 bytes (no_row 6 (length bytes) (inr (inr short)))) ∙ silent class p
      ∙ sym (ap
      (λ (t : Bool). if t then span_note class (start_of seven) p.end (number_of seven) 0 ∷ []
      else []) is)

  pub time_is : (at : ℕ) → row_gives class at (row_of none at bytes) p ≡ time_outs class at bytes p
  time_is at = elim (eqb_tells at 6) [
    | inl six ↦ let six_is : at ≡ 6 = six.1 in
        ap (λ (k : ℕ). row_gives class k (row_of none k bytes) p) six_is
        ∙ elim (leb_tells 6 (length bytes)) [
          | inl low ↦ last_six low.1
          | inr short ↦ too_few short.1
        ] ∙ sym (ap (λ (k : ℕ). time_outs class k bytes p) six_is)
    | inr other ↦ ap
        (λ (t : Bool). if t then time_gives class (row_of none at bytes) p else []) other.0
        ∙ sym (ap
        (λ (t : Bool). if t && nat_le 6 (length bytes)
        then span_note class (start_of seven) p.end (number_of seven) 0 ∷ [] else []) other.0)
  ]

  -- so what a byte gives
  pub byte_is : (note piece from : ℕ) → byte_gives note class piece ((from + length bytes) % 64)
      (row_of none ((from + length bytes) % 64) bytes) p ≡ byte_outs note class piece from bytes p
  byte_is note piece from =
      ap (λ (l : List Out). byte_note note p (byte_of p) ((from + length bytes) % 64) ∷ l
      ++ byte_piece piece p ∷ []) (time_is ((from + length bytes) % 64))
