-- What one more clock of a segment gives, and what is then kept.
use Rattle.std.proofs.Common.{◌≡◌, ◌≢◌, inl, inr, ℕ, ◌+◌, ◌*◌, ◌%◌, ◌^◌, ◌<◌, ◌≤◌, Bool, List, []}
use Rattle.std.proofs.Common.{◌∷◌, ◌++◌, length, Option, sym, ◌∙◌, ap, arith, append_assoc}
use Rattle.std.proofs.Common.{length-append, if◌then◌else◌, ◌==◌}
use Rattle.std.specs.Prelude.{nat_lt, map}
use Rattle.std.specs.List.{flat_map}
use Rattle.std.proofs.Math.Nat.{pow-le-pow_right}
use Rattle.std.proofs.lemmas.List.{append-nil, length-map, map-append, take_at, drop_at, take_all}
use Rattle.std.proofs.lemmas.List.{drop_all}
use Rattle.std.proofs.lemmas.Bool.{cases_eq}
use Rattle.la_base.specs.declared.wires.Out.{Out}
use Rattle.list_cuts.specs.Along.{along}
use Rattle.list_cuts.specs.Bits.{bit_of, high_first}
use Rattle.list_cuts.specs.Groups.{groups, after_groups}
use Rattle.list_cuts.specs.Places.{first_place}
use Rattle.list_cuts.proofs.AlongLaws.{along_push}
use Rattle.list_cuts.proofs.BitLaws.{high_below, high_push}
use Rattle.list_cuts.proofs.PlaceLaws.{first_push, last_push}
use Rattle.list_cuts.proofs.TestLaws.{when_yes, when_no, test_yes, test_no, less_yes, less_no}
use Rattle.list_cuts.proofs.GroupLaws.{groups_push_short, groups_push_full, after_groups_short}
use Rattle.list_cuts.proofs.GroupLaws.{after_push_short, after_push_full}
use Rattle.dec_i2c.specs.declared.held.Segment.{Segment}
use Rattle.dec_i2c.specs.Bytes.{role_behind, read_by, byte_outs}
use Rattle.dec_i2c.specs.Bus.{Event, Clock, place_of, level_of, ack_outs, last_byte, bytes_of}
use Rattle.dec_i2c.specs.Bus.{value_of, byte_value, values_of, eight_outs, group_outs, clocks_outs}
use Rattle.dec_i2c.specs.laws.Machine.{ten_in, segment_with, segment_by, grown, clock_outs}
use Rattle.dec_i2c.specs.laws.Machine.{clock_gives, clock_next}
use Rattle.dec_i2c.specs.laws.TenLaws.{role_push, ten_push, same_byte}

abbrev nine_above : 0 < 9
nine_above = omega arith

-- seven bits or less with one more behind them
value_grown : (clocks : List Event) (k : ℕ) (level : Bool) → length clocks < 8
    → value_of (clocks ++ Clock k level ∷ []) ≡ grown (value_of clocks) level
value_grown clocks k level few =
    let bits = map level_of clocks in
    let count : length bits ≡ length clocks = length-map clocks level_of in
    let within : length bits ≤ 7 = omega (arith, count, few) in
    let some : 0 < 2 = omega arith in
    let most : 2 ^ length bits ≤ 2 ^ 7 = pow-le-pow_right some within in
    let below : value_of clocks < 128 = omega (arith, high_below bits, most) in
    let same : value_of clocks % 128 ≡ value_of clocks = omega (arith, below) in
    let twice : 2 * value_of clocks + bit_of level ≡ value_of clocks % 128 * 2 + bit_of level =
    omega (arith, same) in
    ap high_first (map-append level_of clocks (Clock k level ∷ [])) ∙ high_push bits level ∙ twice

-- the byte that stands behind the whole groups, if one does
no_byte : (rest : List Event) → length rest ≢ 8 → last_byte rest ≡ []
no_byte rest other = when_no (length rest == 8) (rest ∷ []) [] (test_no (length rest) 8 other)

a_byte : (rest : List Event) → length rest ≡ 8 → last_byte rest ≡ rest ∷ []
a_byte rest is = when_yes (length rest == 8) (rest ∷ []) [] (test_yes (length rest) 8 is)

module _ (clocks : List Event) (k : ℕ) (level : Bool) where
  abbrev rest : List Event
  rest = after_groups 9 clocks

  abbrev whole : List (List Event)
  whole = groups 9 clocks

  abbrev c : Event
  c = Clock k level

  abbrev more : List Event
  more = clocks ++ c ∷ []

  abbrev grows : List Event
  grows = rest ++ c ∷ []

  few : length rest < 9
  few = after_groups_short 9 nine_above clocks

  count : length grows ≡ length rest + 1
  count = length-append rest (c ∷ [])

  -- bytes of clocks, and of one more
  without : length rest ≢ 8 → bytes_of clocks ≡ whole
  unfolding bytes_of
  without other = ap (λ (l : List (List Event)). whole ++ l) (no_byte rest other) ∙ append-nil whole

  with_byte : length rest ≡ 8 → bytes_of clocks ≡ whole ++ rest ∷ []
  unfolding bytes_of
  with_byte full = ap (λ (l : List (List Event)). whole ++ l) (a_byte rest full)

  then_left : length rest < 8 → after_groups 9 more ≡ grows
  then_left less = after_push_short 9 nine_above clocks c (omega (arith, less))

  then_short : length rest < 8 → bytes_of more ≡ whole ++ last_byte grows
  unfolding bytes_of
  then_short less =
      λ i. groups_push_short 9 nine_above clocks c (omega (arith, less)) i
      ++ last_byte (then_left less i)

  then_few : length rest < 7 → bytes_of more ≡ bytes_of clocks
  then_few less =
      then_short (omega (arith, less))
      ∙ ap (λ (l : List (List Event)). whole ++ l)
      (no_byte grows (λ e. absurd (omega (arith, e, count, less))))
      ∙ append-nil whole
      ∙ sym (without (λ e. absurd (omega (arith, e, less))))

  then_byte : length rest ≡ 7 → bytes_of more ≡ whole ++ grows ∷ []
  then_byte seven =
      then_short (omega (arith, seven))
      ∙ ap (λ (l : List (List Event)). whole ++ l) (a_byte grows (omega (arith, count, seven)))

  then_none : length rest ≡ 8 → after_groups 9 more ≡ []
  then_none full = after_push_full 9 nine_above clocks c (omega (arith, full))

  then_full : length rest ≡ 8 → bytes_of more ≡ whole ++ grows ∷ []
  unfolding bytes_of
  then_full full =
      (λ i. groups_push_full 9 nine_above clocks c (omega (arith, full)) i
      ++ last_byte (then_none full i)) ∙ append-nil (whole ++ grows ∷ [])

  value_more : length rest < 8 → value_of grows ≡ grown (value_of rest) level
  value_more less = value_grown rest k level less

  -- outputs
  module _ (known : ℕ → Option ℕ) where
    abbrev outs : List (List Event) → List Out
    outs bytes = along (group_outs known) bytes

    abbrev new : List ℕ → List Out
    new before =
        clock_outs known (role_behind before) (length rest) (value_of rest)
        (first_place place_of rest) k level

    new_byte : (before : List ℕ) → length rest ≡ 7
        → new before ≡ byte_outs known (role_behind before) (first_place place_of rest) k
        (grown (value_of rest) level)
    new_byte before is = when_yes (length rest == 7) _ _ (test_yes (length rest) 7 is)

    new_ack : (before : List ℕ) → length rest ≡ 8 → new before ≡ ack_outs k level
    new_ack before is =
        when_no (length rest == 7) _ _
        (test_no (length rest) 7 (λ e. absurd (omega (arith, e, is))))
        ∙ when_yes (length rest == 8) _ _ (test_yes (length rest) 8 is)

    new_none : (before : List ℕ) → length rest < 7 → new before ≡ []
    new_none before less =
        when_no (length rest == 7) _ _
        (test_no (length rest) 7 (λ e. absurd (omega (arith, e, less))))
        ∙ when_no (length rest == 8) _ _
        (test_no (length rest) 8 (λ e. absurd (omega (arith, e, less))))

    -- eight clocks have no acknowledge bit
    eight_alone : (before : List (List Event)) (byte : List Event) → length byte ≡ 8
        → group_outs known before byte ≡ eight_outs known (values_of before) byte
    eight_alone before byte is =
        (λ i. eight_outs known (values_of before) (take_all 8 byte (omega (arith, is)) i)
        ++ flat_map (λ (d : Event). ack_outs (place_of d) (level_of d))
        (drop_all 8 byte (omega (arith, is)) i))
        ∙ append-nil (eight_outs known (values_of before) byte)

    -- nine have one
    nine : length rest ≡ 8
        → group_outs known whole grows ≡ group_outs known whole rest ++ ack_outs k level
    nine full =
        (λ i. eight_outs known (values_of whole) (take_at rest (c ∷ []) 8 full i)
        ++ flat_map (λ (d : Event). ack_outs (place_of d) (level_of d))
        (drop_at rest (c ∷ []) 8 full i))
        ∙ (λ i. sym (eight_alone whole rest full) i ++ append-nil (ack_outs k level) i)

    outs_few : length rest < 7
        → outs (bytes_of more) ≡ outs (bytes_of clocks) ++ new (values_of (bytes_of clocks))
    outs_few less =
        ap outs (then_few less) ∙ sym (append-nil (outs (bytes_of clocks)))
        ∙ ap (λ (l : List Out). outs (bytes_of clocks) ++ l)
        (sym (new_none (values_of (bytes_of clocks)) less))

    outs_byte : length rest ≡ 7
        → outs (bytes_of more) ≡ outs (bytes_of clocks) ++ new (values_of (bytes_of clocks))
    outs_byte seven =
        let same = without (λ e. absurd (omega (arith, e, seven))) in
        let first : first_place place_of grows ≡ first_place place_of rest =
        first_push place_of rest c ∙ when_no (length rest == 0) k (first_place place_of rest)
        (test_no (length rest) 0 (λ e. absurd (omega (arith, e, seven)))) in
        ap outs (then_byte seven)
        ∙ along_push (group_outs known) whole grows
        ∙ ap (λ (l : List Out). outs whole ++ l)
        (eight_alone whole grows (omega (arith, count, seven))
        ∙ (λ i. byte_outs known (role_behind (values_of whole)) (first i)
        (last_push place_of rest c i) (value_more (omega (arith, seven)) i))
        ∙ sym (new_byte (values_of whole) seven))
        ∙ (λ i. outs (sym same i) ++ new (values_of (sym same i)))

    outs_ack : length rest ≡ 8
        → outs (bytes_of more) ≡ outs (bytes_of clocks) ++ new (values_of (bytes_of clocks))
    outs_ack full =
        ap outs (then_full full)
        ∙ along_push (group_outs known) whole grows
        ∙ ap (λ (l : List Out). outs whole ++ l) (nine full)
        ∙ sym (append_assoc (outs whole) (group_outs known whole rest) (ack_outs k level))
        ∙ ap (λ (l : List Out). l ++ ack_outs k level)
        (sym (along_push (group_outs known) whole rest) ∙ ap outs (sym (with_byte full)))
        ∙ ap (λ (l : List Out). outs (bytes_of clocks) ++ l)
        (sym (new_ack (values_of (bytes_of clocks)) full))

    -- what one more clock gives
    pub clocks_push : clocks_outs known more
        ≡ clocks_outs known clocks ++ new (values_of (bytes_of clocks))
    unfolding clocks_outs
    clocks_push = elim (cases_eq (length rest) 8) [
      | inl full ↦ outs_ack full
      | inr less ↦ elim (cases_eq (length rest) 7) [
        | inl seven ↦ outs_byte seven
        | inr fewer ↦ outs_few (let most = few in omega (arith, most, less, fewer))
      ]
    ]

  -- the values of bytes, with one more clock
  values_byte : length rest ≡ 7
      → values_of (bytes_of more) ≡ values_of (bytes_of clocks) ++ grown (value_of rest) level ∷ []
  values_byte seven =
      ap values_of (then_byte seven)
      ∙ map-append byte_value whole (grows ∷ [])
      ∙ ap (λ (n : ℕ). values_of whole ++ n ∷ [])
      (ap value_of (take_all 8 grows (omega (arith, count, seven)))
      ∙ value_more (omega (arith, seven)))
      ∙ ap (λ (l : List (List Event)). values_of l ++ grown (value_of rest) level ∷ [])
      (sym (without (λ e. absurd (omega (arith, e, seven)))))

  values_full : length rest ≡ 8 → values_of (bytes_of more) ≡ values_of (bytes_of clocks)
  values_full full =
      ap values_of (then_full full)
      ∙ map-append byte_value whole (grows ∷ [])
      ∙ ap (λ (n : ℕ). values_of whole ++ n ∷ [])
      (ap value_of (take_at rest (c ∷ []) 8 full ∙ sym (take_all 8 rest (omega (arith, full)))))
      ∙ sym (map-append byte_value whole (rest ∷ []))
      ∙ ap values_of (sym (with_byte full))

  -- what is kept
  module _ (ten : Option ℕ) where
    abbrev bytes : List ℕ
    bytes = values_of (bytes_of clocks)

    abbrev then_ : Segment
    then_ = clock_next (segment_by ten clocks) k level

    kept_few : length rest < 7 → segment_by ten more ≡ then_
    kept_few less =
        (λ i. segment_with ten (values_of (then_few less i)) (then_left (omega (arith, less)) i))
        ∙ (λ i. record {
          role = role_behind bytes;
          ten = ten_in ten bytes;
          bits = count i;
          byte = value_more (omega (arith, less)) i;
          first = first_push place_of rest c i;
        })
        ∙ sym (when_no (length rest == 7) _ _
        (test_no (length rest) 7 (λ e. absurd (omega (arith, e, less))))
        ∙ when_yes (nat_lt (length rest) 7) _ _ (less_yes (length rest) 7 less))

    kept_byte : length rest ≡ 7 → segment_by ten more ≡ then_
    kept_byte seven =
        let eight : length grows ≡ 8 = omega (arith, count, seven) in
        let byte = grown (value_of rest) level in
        let first : first_place place_of grows ≡ first_place place_of rest =
        first_push place_of rest c ∙ when_no (length rest == 0) k (first_place place_of rest)
        (test_no (length rest) 0 (λ e. absurd (omega (arith, e, seven)))) in
        (λ i. segment_with ten (values_byte seven i) (then_left (omega (arith, seven)) i))
        ∙ (λ i. record {
          role = role_push bytes byte i;
          ten = ten_push ten bytes byte i;
          bits = eight i;
          byte = value_more (omega (arith, seven)) i;
          first = first i;
        })
        ∙ sym (when_yes (length rest == 7) _ _ (test_yes (length rest) 7 seven))

    kept_full : length rest ≡ 8 → segment_by ten more ≡ then_
    kept_full full =
        (λ i. segment_with ten (values_full full i) (then_none full i))
        ∙ sym (when_no (length rest == 7) _ _
        (test_no (length rest) 7 (λ e. absurd (omega (arith, e, full))))
        ∙ when_no (nat_lt (length rest) 7) _ _ (less_no (length rest) 7 (omega (arith, full))))

    pub kept_push : segment_by ten more ≡ then_
    kept_push = elim (cases_eq (length rest) 8) [
      | inl full ↦ kept_full full
      | inr less ↦ elim (cases_eq (length rest) 7) [
        | inl seven ↦ kept_byte seven
        | inr fewer ↦ kept_few (let most = few in omega (arith, most, less, fewer))
      ]
    ]

    -- a byte is given alike by the address that the segments before left and by what is kept in the
    -- segment
    pub same_gives : clock_outs (λ own. read_by own ten) (role_behind bytes) (length rest)
        (value_of rest) (first_place place_of rest) k level
        ≡ clock_gives (segment_by ten clocks) k level
    same_gives =
        ap (λ (l : List Out). if length rest == 7 then l
        else (if length rest == 8 then ack_outs k level else []))
        (same_byte ten bytes (first_place place_of rest) k (grown (value_of rest) level))
