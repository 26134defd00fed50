-- The ten-bit address that earlier segments leave to be read from is one number, kept from segment
-- to segment.
use Rattle.std.proofs.Common.{◌≡◌, ◌≢◌, inl, inr, ℕ, ◌+◌, ◌*◌, ◌/◌, ◌%◌, Bool, true, false, not}
use Rattle.std.proofs.Common.{List, [], ◌∷◌, ◌++◌, Option, Some, None, refl, sym, ◌∙◌, ap, arith}
use Rattle.std.proofs.Common.{append_assoc, if◌then◌else◌, ◌==◌}
use Rattle.std.specs.Prelude.{◌&&◌}
use Rattle.std.proofs.lemmas.List.{append-nil}
use Rattle.std.proofs.lemmas.Bool.{cases_eq, eqb-true, and_parts, and_left, and_right, not-true}
use Rattle.list_cuts.proofs.LastLaws.{last_that_passes, last_that_fails}
use Rattle.list_cuts.proofs.TestLaws.{when_yes, when_no, test_yes, test_no}
use Rattle.dec_i2c.specs.declared.held.Role.{Role}
use Rattle.dec_i2c.specs.declared.held.Role.TheVariants.{Lower, Command, Write, Read}
use Rattle.dec_i2c.specs.Bytes.{is_read, is_prefix, two_bits, ten_bits, is_write_prefix, written}
use Rattle.dec_i2c.specs.Bytes.{read_by, direction, role_second, role_behind, byte_outs}
use Rattle.dec_i2c.specs.Bus.{Event, segment_in, segment_of, bytes_in, begins_with, is_other}
use Rattle.dec_i2c.specs.Bus.{read_from}
use Rattle.dec_i2c.specs.laws.Machine.{left_by, left_behind, ten_in, handed_by, role_next, ten_next}

-- whether a first byte reads from a ten-bit address
abbrev reads : ℕ → ℕ → Bool
reads first address = is_prefix first && is_read first && two_bits first == address / 256

-- it is then the one prefix of that address
reads_is : (first address : ℕ) → reads first address ≡ true → first ≡ 241 + 2 * (address / 256)
reads_is first address is =
    let all = and_parts (is_prefix first && is_read first) (two_bits first == address / 256) is in
    let both = and_parts (is_prefix first) (is_read first) all.0 in
    let prefix : first / 8 ≡ 30 = eqb-true (first / 8) 30 both.0 in
    let read : first % 2 ≡ 1 = eqb-true (first % 2) 1 both.1 in
    let two : first / 2 % 4 ≡ address / 256 = eqb-true (first / 2 % 4) (address / 256) all.1 in
    omega (arith, prefix, read, two)

-- a first byte that writes reads from none
write_reads : (first : ℕ) (ten : Option ℕ) → is_read first ≡ false → read_by first ten ≡ None
write_reads first None write = refl
write_reads first (Some address) write =
    when_no (reads first address) (Some address) None
    (and_left (is_prefix first && is_read first) (two_bits first == address / 256)
    (and_right (is_prefix first) (is_read first) write))

prefix_writes : (first : ℕ) → is_write_prefix first ≡ true → is_read first ≡ false
prefix_writes first is =
    not-true (is_read first) (and_parts (is_prefix first) (not (is_read first)) is).1

-- what is read by a first byte can be read by it again
read_again : (first : ℕ) (ten : Option ℕ) → read_by first (read_by first ten) ≡ read_by first ten
read_again first None = refl
read_again first (Some address) = by (reads first address) refl
  where
    by : (b : Bool) → reads first address ≡ b
        → read_by first (if b then Some address else None) ≡ (if b then Some address else None)
    by true is = when_yes (reads first address) (Some address) None is
    by false is = refl

-- and by no other
read_other : (first other : ℕ) (ten : Option ℕ) → other ≢ first
    → read_by first (read_by other ten) ≡ None
read_other first other None differs = refl
read_other first other (Some address) differs =
    by (reads other address) (reads first address) refl refl
  where
    by : (a b : Bool) → reads other address ≡ a → reads first address ≡ b
        → read_by first (if a then Some address else None) ≡ None
    by true true is also =
        absurd (differs (reads_is other address is ∙ sym (reads_is first address also)))
    by true false is not = when_no (reads first address) (Some address) None not
    by false b is also = refl

-- behind a segment with the same first byte
same_first : (first : ℕ) (ten : Option ℕ) (others : List ℕ)
    → read_by first (left_by ten (first ∷ others)) ≡ read_by first ten
same_first first ten [] = read_again first ten
same_first first ten (lower ∷ others) = by (is_write_prefix first) refl
  where
    by : (b : Bool) → is_write_prefix first ≡ b
        → read_by first (if b then Some (ten_bits (two_bits first) lower) else read_by first ten)
        ≡ read_by first ten
    by true is =
        write_reads first (Some (ten_bits (two_bits first) lower)) (prefix_writes first is)
        ∙ sym (write_reads first ten (prefix_writes first is))
    by false is = read_again first ten

-- and with another
other_first : (first other : ℕ) (ten : Option ℕ) (others : List ℕ) → other ≢ first
    → read_by first (left_by ten (other ∷ others)) ≡ read_by first (written (other ∷ others))
other_first first other ten [] differs = read_other first other ten differs
other_first first other ten (lower ∷ others) differs = by (is_write_prefix other)
  where
    by : (b : Bool) → read_by first
        (if b then Some (ten_bits (two_bits other) lower) else read_by other ten)
        ≡ read_by first (if b then Some (ten_bits (two_bits other) lower) else None)
    by true = refl
    by false = read_other first other ten differs

-- one more part
module _ (earlier : List (List Event)) (part : List Event) (first : ℕ) (ten : Option ℕ)
    (is : read_from earlier first ≡ read_by first ten) where
  abbrev From : Option (List Event) → Option ℕ
  From last = read_by first (written (bytes_in (segment_of last)))

  push_by : (bytes : List ℕ) → bytes_in (segment_in part) ≡ bytes
      → read_from (earlier ++ part ∷ []) first ≡ read_by first (left_by ten bytes)
  push_by [] none =
      let other : is_other first part ≡ true =
      ap (λ (l : List ℕ). not (begins_with first l)) none in
      ap From (last_that_passes (is_other first) earlier part other)
      ∙ ap (λ (l : List ℕ). read_by first (written l)) none
  push_by (head ∷ others) some = elim (cases_eq head first) [
    | inl same ↦
        let fails : is_other first part ≡ false =
        ap (λ (l : List ℕ). not (begins_with first l)) some
        ∙ ap not (test_yes head first same) in
        ap From (last_that_fails (is_other first) earlier part fails)
        ∙ is
        ∙ sym (same_first first ten others)
        ∙ ap (λ (n : ℕ). read_by first (left_by ten (n ∷ others))) (sym same)
    | inr differs ↦
        let passes : is_other first part ≡ true =
        ap (λ (l : List ℕ). not (begins_with first l)) some
        ∙ ap not (test_no head first differs) in
        ap From (last_that_passes (is_other first) earlier part passes)
        ∙ ap (λ (l : List ℕ). read_by first (written l)) some
        ∙ sym (other_first first head ten others differs)
  ]

more_read : (parts earlier : List (List Event)) (first : ℕ) (ten : Option ℕ)
    → read_from earlier first ≡ read_by first ten
    → read_from (earlier ++ parts) first ≡ read_by first (left_behind ten parts)
more_read [] earlier first ten is =
    ap (λ (l : List (List Event)). read_from l first) (append-nil earlier) ∙ is
more_read (part ∷ parts) earlier first ten is =
    ap (λ (l : List (List Event)). read_from l first) (sym (append_assoc earlier (part ∷ []) parts))
    ∙ more_read parts (earlier ++ part ∷ []) first (left_by ten (bytes_in (segment_in part)))
    (push_by earlier part first ten is (bytes_in (segment_in part)) refl)

-- what a first byte reads from is in the one number that the parts before it leave
pub read_is : (earlier : List (List Event))
    → read_from earlier ≡ (λ first. read_by first (left_behind None earlier))
read_is earlier = λ i first. more_read earlier [] first None refl i

-- what holds of every role that data or a second byte can have
data_cases : (P : Role → Type 0) (first : ℕ) → P Write → P Read → P (direction first)
data_cases P first write read = by (is_read first)
  where
    by : (b : Bool) → P (if b then Read else Write)
    by true = read
    by false = write

second_cases : (P : Role → Type 0) (first : ℕ) → P (Lower (two_bits first)) → P Command → P Write
    → P Read → P (role_second first)
second_cases P first lower command write read = by (is_write_prefix first) (first == 0)
  where
    by : (a b : Bool)
        → P (if a then Lower (two_bits first) else (if b then Command else direction first))
    by true b = lower
    by false true = command
    by false false = data_cases P first write read

-- one more byte
role_stays : (first byte : ℕ) → direction first ≡ role_next (direction first) byte
role_stays first byte = data_cases (λ role. role ≡ role_next role byte) first refl refl

role_third : (first byte : ℕ) → direction first ≡ role_next (role_second first) byte
role_third first byte = by (is_write_prefix first) (first == 0) refl refl
  where
    writes : is_read first ≡ false → direction first ≡ Write
    writes not_read = when_no (is_read first) Read Write not_read

    by : (a b : Bool) → is_write_prefix first ≡ a → (first == 0) ≡ b
        → direction first ≡ role_next
        (if a then Lower (two_bits first) else (if b then Command else direction first)) byte
    by true b is also = writes (prefix_writes first is)
    by false true is also = writes (ap is_read (eqb-true first 0 also))
    by false false is also = role_stays first byte

pub role_push : (bytes : List ℕ) (byte : ℕ)
    → role_behind (bytes ++ byte ∷ []) ≡ role_next (role_behind bytes) byte
role_push [] byte = refl
role_push (first ∷ []) byte = role_third first byte
role_push (first ∷ second ∷ bytes) byte = role_stays first byte

pub ten_push : (ten : Option ℕ) (bytes : List ℕ) (byte : ℕ)
    → ten_in ten (bytes ++ byte ∷ []) ≡ ten_next (role_behind bytes) byte (ten_in ten bytes)
ten_push ten [] byte = refl
ten_push ten (first ∷ []) byte = by (is_write_prefix first) (first == 0)
  where
    by : (a b : Bool)
        → (if a then Some (ten_bits (two_bits first) byte) else read_by first ten)
        ≡ ten_next (if a then Lower (two_bits first) else (if b then Command else direction first))
        byte (read_by first ten)
    by true b = refl
    by false true = refl
    by false false =
        data_cases
        (λ role. read_by first ten ≡ ten_next role byte (read_by first ten)) first refl refl
ten_push ten (first ∷ second ∷ bytes) byte =
    let left = left_by ten (first ∷ second ∷ bytes) in
    data_cases (λ role. left ≡ ten_next role byte left) first refl refl

-- what a segment leaves to the next
pub handed_is : (ten : Option ℕ) (bytes : List ℕ)
    → handed_by (role_behind bytes) (ten_in ten bytes) ≡ left_by ten bytes
handed_is ten [] = refl
handed_is ten (first ∷ []) = let left = read_by first ten in
    second_cases (λ role. handed_by role left ≡ left) first refl refl refl refl
handed_is ten (first ∷ second ∷ bytes) = let left = left_by ten (first ∷ second ∷ bytes) in
    data_cases (λ role. handed_by role left ≡ left) first refl refl

-- only a first byte looks at earlier segments
same_later : (known other : ℕ → Option ℕ) (from to byte first : ℕ) (bytes : List ℕ)
    → byte_outs known (role_behind (first ∷ bytes)) from to byte
    ≡ byte_outs other (role_behind (first ∷ bytes)) from to byte
same_later known other from to byte first [] =
    second_cases (λ role. byte_outs known role from to byte ≡ byte_outs other role from to byte)
    first refl refl refl refl
same_later known other from to byte first (second ∷ bytes) =
    data_cases
    (λ role. byte_outs known role from to byte ≡ byte_outs other role from to byte) first refl refl

pub same_byte : (ten : Option ℕ) (bytes : List ℕ) (from to byte : ℕ)
    → byte_outs (λ own. read_by own ten) (role_behind bytes) from to byte
    ≡ byte_outs (λ own. read_by own (ten_in ten bytes)) (role_behind bytes) from to byte
same_byte ten [] from to byte = refl
same_byte ten (first ∷ bytes) from to byte =
    same_later (λ own. read_by own ten)
    (λ own. read_by own (ten_in ten (first ∷ bytes))) from to byte first bytes
