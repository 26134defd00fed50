-- Lines of digits with commas between them, and with quotes round each or none.
use Rattle.std.proofs.Common.{◌≡◌, ℕ, ◌+◌, ◌*◌, ◌-◌, ◌≤◌, ◌<◌, ◌==◌, ◌⊎◌, inl, inr, List, [], ◌∷◌, ◌++◌, take, length, map, set, refl, sym, ◌∙◌, ap, subst, arith, append_assoc, length-take-le, slice_index, All, Bool, true, false, None, Ok, zero, suc}
use Rattle.std.proofs.lemmas.List.{get_or-take, take_more, take_more_set}
use Rattle.std.proofs.lemmas.List.Elements.{All-cons}
use Rattle.byte_feed.specs.LineMoves.{AllIn}
use Rattle.byte_feed.specs.Lines.{is_feed}
use Rattle.capture_csv.specs.Csv.{before_levels, level_of, levels_of}
use Rattle.capture_csv.specs.Digits.{DigitAt, DigitsIn, QuotedAt, QuotedIn, digit_field, digit_of, digits_of}
use Rattle.capture_csv.specs.Plain.{AllSimple, IsSimple, texts_of, written}
use Rattle.capture_csv.specs.Records.{is_passed, trimmed, without_marks}
use Rattle.capture_csv.specs.Simple.{IsSimpleLine}
use Rattle.capture_csv.specs.Values.{LevelsRead}
use Rattle.capture_csv.proofs.Plain.{line_read}

-- one digit more behind others
digits_more : (quoted : Bool) (levels : List Bool) (level : Bool) → 0 < length levels → digits_of quoted (levels ++ level ∷ []) ≡ digits_of quoted levels ++ 44 ∷ written (digit_field quoted level)
digits_more quoted [] level some = absurd (omega (arith, some))
digits_more quoted (x ∷ []) level some = refl
digits_more quoted (x ∷ y ∷ levels) level some =
    ap (λ (l : List ℕ). written (digit_field quoted x) ++ 44 ∷ l) (digits_more quoted (y ∷ levels) level (omega arith))
    ∙ sym (append_assoc (written (digit_field quoted x)) (44 ∷ digits_of quoted (y ∷ levels)) (44 ∷ written (digit_field quoted level)))

-- the levels are put one by one: the first
put_first : (quoted : Bool) (text : List ℕ) (levels : List Bool) (level : Bool) (n : ℕ) → 0 < length levels → take n text ≡ written (digit_field quoted level) → take n text ≡ digits_of quoted (take 1 (set levels 0 level))
put_first quoted text levels level n less is = is ∙ ap (λ (l : List Bool). digits_of quoted l) (sym (take_more_set levels 0 level less))

-- and one behind others
put_next : (quoted : Bool) (text : List ℕ) (levels : List Bool) (level : Bool) (k n : ℕ) → 1 ≤ k → k < length levels → take n text ≡ digits_of quoted (take k levels) ++ 44 ∷ written (digit_field quoted level)
    → take n text ≡ digits_of quoted (take (k + 1) (set levels k level))
put_next quoted text levels level k n one less is =
    is ∙ sym (digits_more quoted (take k levels) level (omega (arith, one, length-take-le k levels (omega (arith, less))))) ∙ ap (λ (l : List Bool). digits_of quoted l) (sym (take_more_set levels k level less))

-- one byte more of a text
byte_more : (text before : List ℕ) (n m byte : ℕ) → take n text ≡ before → n < length text → slice_index text n ≡ byte → m ≡ n + 1 → take m text ≡ before ++ byte ∷ []
byte_more text before n m byte so_far less is place = ap (λ (k : ℕ). take k text) place ∙ take_more text n 0 less ∙ (λ i. so_far i ++ is i ∷ [])

-- a digit is told by its byte
digit_back : (byte : ℕ) (level : Bool) → byte ≡ digit_of level → byte ≡ digit_of (byte == 49)
digit_back byte true is = subst (λ (b : ℕ). b ≡ digit_of (b == 49)) (sym is) refl
digit_back byte false is = subst (λ (b : ℕ). b ≡ digit_of (b == 49)) (sym is) refl

-- one digit more of a line of them
pub digits_put : (text : List ℕ) (old levels : List Bool) (k : ℕ) → DigitsIn text (length old) → length levels ≡ length old → k < length old → take (2 * k - 1) text ≡ digits_of false (take k levels)
    → take (2 * (k + 1) - 1) text ≡ digits_of false (take (k + 1) (set levels k (slice_index text (2 * k) == 49)))
digits_put text old levels k digits same less so_far = by_place k refl where
  here : DigitAt text k
  here = digits.each k less

  level : Bool
  level = slice_index text (2 * k) == 49

  is : slice_index text (2 * k) ≡ digit_of level
  is = digit_back (slice_index text (2 * k)) here.0 here.1

  len : length text + 1 ≡ 2 * length levels
  len = let l = digits.len in omega (arith, l, same)

  by_place : (n : ℕ) → k ≡ n → take (2 * (k + 1) - 1) text ≡ digits_of false (take (k + 1) (set levels k level))
  by_place zero e =
      let first : take 1 text ≡ digit_of level ∷ [] = byte_more text [] 0 1 (digit_of level) refl (omega (arith, len, less, same)) (ap (λ (n : ℕ). slice_index text (2 * n)) (sym e) ∙ is) refl in
      subst (λ (n : ℕ). take (2 * (n + 1) - 1) text ≡ digits_of false (take (n + 1) (set levels n level))) (sym e) (put_first false text levels level 1 (omega (arith, less, same)) first)
  by_place (suc n) e =
      let before = digits_of false (take k levels) in
      let comma : take (2 * k) text ≡ before ++ 44 ∷ [] = byte_more text before (2 * k - 1) (2 * k) 44 so_far (omega (arith, len, less, same)) (here.2 (omega (arith, e))) (omega (arith, e)) in
      let digit = byte_more text (before ++ 44 ∷ []) (2 * k) (2 * (k + 1) - 1) (digit_of level) comma (omega (arith, len, less, same)) is (omega arith) in
      put_next false text levels level k (2 * (k + 1) - 1) (omega (arith, e)) (omega (arith, less, same)) (digit ∙ append_assoc before (44 ∷ []) (digit_of level ∷ []))

-- the same where quotes stand round it
pub quoted_put : (text : List ℕ) (old levels : List Bool) (k : ℕ) → QuotedIn text (length old) → length levels ≡ length old → k < length old → take (4 * k - 1) text ≡ digits_of true (take k levels)
    → take (4 * (k + 1) - 1) text ≡ digits_of true (take (k + 1) (set levels k (slice_index text (4 * k + 1) == 49)))
quoted_put text old levels k digits same less so_far = by_place k refl where
  here : QuotedAt text k
  here = digits.each k less

  level : Bool
  level = slice_index text (4 * k + 1) == 49

  is : slice_index text (4 * k + 1) ≡ digit_of level
  is = digit_back (slice_index text (4 * k + 1)) here.0.0 here.0.2

  len : length text + 1 ≡ 4 * length levels
  len = let l = digits.len in omega (arith, l, same)

  field : (before : List ℕ) → take (4 * k) text ≡ before → take (4 * (k + 1) - 1) text ≡ before ++ written (digit_field true level)
  field before upto =
      let first : take (4 * k + 1) text ≡ before ++ 34 ∷ [] = byte_more text before (4 * k) (4 * k + 1) 34 upto (omega (arith, len, less, same)) here.0.1 (omega arith) in
      let digit = byte_more text (before ++ 34 ∷ []) (4 * k + 1) (4 * k + 2) (digit_of level) first (omega (arith, len, less, same)) is (omega arith) in
      let last = byte_more text ((before ++ 34 ∷ []) ++ digit_of level ∷ []) (4 * k + 2) (4 * (k + 1) - 1) 34 digit (omega (arith, len, less, same)) here.0.3 (omega arith) in
      last ∙ ap (λ (l : List ℕ). l ++ 34 ∷ []) (append_assoc before (34 ∷ []) (digit_of level ∷ [])) ∙ append_assoc before (34 ∷ digit_of level ∷ []) (34 ∷ [])

  by_place : (n : ℕ) → k ≡ n → take (4 * (k + 1) - 1) text ≡ digits_of true (take (k + 1) (set levels k level))
  by_place zero e =
      let none : take (4 * k) text ≡ [] = ap (λ (n : ℕ). take (4 * n) text) e in
      subst (λ (n : ℕ). take (4 * (k + 1) - 1) text ≡ digits_of true (take (n + 1) (set levels n level))) (sym e) (put_first true text levels level (4 * (k + 1) - 1) (omega (arith, less, same)) (field [] none))
  by_place (suc n) e =
      let before = digits_of true (take k levels) in
      let comma : take (4 * k) text ≡ before ++ 44 ∷ [] = byte_more text before (4 * k - 1) (4 * k) 44 so_far (omega (arith, len, less, same)) (here.1 (omega (arith, e))) (omega (arith, e)) in
      put_next true text levels level k (4 * (k + 1) - 1) (omega (arith, e)) (omega (arith, less, same)) (field (before ++ 44 ∷ []) comma ∙ append_assoc before (44 ∷ []) (written (digit_field true level)))

pub more_digits : (text : List ℕ) (count : ℕ) → ((k : ℕ) → k < count → DigitAt text k) → DigitAt text count → (k : ℕ) → k < count + 1 → DigitAt text k
more_digits text count so_far next k less = by_place (search arith) where
  by_place : (k < count) ⊎ (k ≡ count) → DigitAt text k
  by_place (inl before) = so_far k before
  by_place (inr last) = subst (λ (n : ℕ). DigitAt text n) (sym last) next

pub more_quoted : (text : List ℕ) (count : ℕ) → ((k : ℕ) → k < count → QuotedAt text k) → QuotedAt text count → (k : ℕ) → k < count + 1 → QuotedAt text k
more_quoted text count so_far next k less = by_place (search arith) where
  by_place : (k < count) ⊎ (k ≡ count) → QuotedAt text k
  by_place (inl before) = so_far k before
  by_place (inr last) = subst (λ (n : ℕ). QuotedAt text n) (sym last) next

-- their fields
abbrev fields_of : List Bool → List (List ℕ)
fields_of levels = map (λ level. digit_of level ∷ []) levels

alone : (P : ℕ → Type 0) (byte : ℕ) → P byte → All P (byte ∷ [])
alone P byte p = All-cons P byte [] p (λ k d less. absurd (omega (arith, less)))

one_simple : (quoted level : Bool) → IsSimple (digit_field quoted level)
one_simple true true = alone (λ byte. (byte == 34) ≡ false) 49 refl
one_simple true false = alone (λ byte. (byte == 34) ≡ false) 48 refl
one_simple false true = ((refl, refl, refl, tt), alone (λ byte. (byte == 44) ≡ false) 49 refl)
one_simple false false = ((refl, refl, refl, tt), alone (λ byte. (byte == 44) ≡ false) 48 refl)

all_simple : (quoted : Bool) (levels : List Bool) → AllSimple (map (digit_field quoted) levels)
all_simple quoted [] = tt
all_simple quoted (level ∷ levels) = (one_simple quoted level, all_simple quoted levels)

their_texts : (quoted : Bool) (levels : List Bool) → fields_of levels ≡ texts_of (map (digit_field quoted) levels)
their_texts quoted [] = refl
their_texts quoted (level ∷ levels) = ap (λ (l : List (List ℕ)). (digit_of level ∷ []) ∷ l) (their_texts quoted levels)

pub digits_line : (quoted : Bool) (text : List ℕ) (levels : List Bool) → text ≡ digits_of quoted levels → IsSimpleLine text (map (λ level. digit_of level ∷ []) levels)
digits_line quoted text levels is = record { all = map (digit_field quoted) levels; each = all_simple quoted levels; line = is; fields_are = their_texts quoted levels }

digit_says : (line column : ℕ) (level : Bool) → level_of line column (trimmed (digit_of level ∷ [])) ≡ Ok level
digit_says line column true = refl
digit_says line column false = refl

digits_say : (line column : ℕ) (levels : List Bool) → levels_of line column (map trimmed (fields_of levels)) ≡ Ok levels
digits_say line column [] = refl
digits_say line column (level ∷ levels) = λ i. before_levels (digit_says line column level i) (digits_say line (column + 1) levels i)

pub digits_some : (quoted : Bool) (levels : List Bool) → 0 < length levels → 0 < length (digits_of quoted levels)
digits_some quoted [] some = absurd (omega (arith, some))
digits_some true (level ∷ []) some = omega arith
digits_some false (level ∷ []) some = omega arith
digits_some true (level ∷ next ∷ levels) some = omega arith
digits_some false (level ∷ next ∷ levels) some = omega arith

-- the levels are those of its fields
pub digits_read : (quoted : Bool) (text : List ℕ) (levels : List Bool) (column : ℕ) → text ≡ digits_of quoted levels → 0 < length levels → (fields : List (List ℕ)) → IsSimpleLine text fields → LevelsRead column (map trimmed fields) levels None
digits_read quoted text levels column is some fields simple line =
    let long : 0 < length text = omega (arith, ap length is, digits_some quoted levels some) in
    let same : fields ≡ fields_of levels = sym (line_read text fields long simple) ∙ line_read text (fields_of levels) long (digits_line quoted text levels is) in
    ap (λ (l : List (List ℕ)). levels_of line column (map trimmed l)) same ∙ digits_say line column levels

-- no line feed
abbrev NoFeed : List ℕ → Type 0
NoFeed [] = Unit {0}
NoFeed (byte ∷ bytes) = (is_feed byte ≡ false) × NoFeed bytes

none_in : (text : List ℕ) → NoFeed text → AllIn text (length text)
none_in [] none k less = absurd (omega (arith, less))
none_in (byte ∷ bytes) none zero less = none.0
none_in (byte ∷ bytes) none (suc k) less = none_in bytes none.1 k (omega (arith, less))

no_feed : (quoted : Bool) (levels : List Bool) → NoFeed (digits_of quoted levels)
no_feed quoted [] = tt
no_feed true (true ∷ []) = (refl, (refl, (refl, tt)))
no_feed true (false ∷ []) = (refl, (refl, (refl, tt)))
no_feed false (true ∷ []) = (refl, tt)
no_feed false (false ∷ []) = (refl, tt)
no_feed true (true ∷ next ∷ levels) = (refl, (refl, (refl, (refl, no_feed true (next ∷ levels)))))
no_feed true (false ∷ next ∷ levels) = (refl, (refl, (refl, (refl, no_feed true (next ∷ levels)))))
no_feed false (true ∷ next ∷ levels) = (refl, (refl, no_feed false (next ∷ levels)))
no_feed false (false ∷ next ∷ levels) = (refl, (refl, no_feed false (next ∷ levels)))

-- no byte order mark before it, and it is a record

pub digits_bare : (quoted : Bool) (levels : List Bool) → 0 < length levels → (without_marks (digits_of quoted levels) ≡ digits_of quoted levels) × (is_passed (digits_of quoted levels) ≡ false)
digits_bare quoted [] some = absurd (omega (arith, some))
digits_bare true (true ∷ []) some = (refl, refl)
digits_bare true (false ∷ []) some = (refl, refl)
digits_bare true (true ∷ next ∷ levels) some = (refl, refl)
digits_bare true (false ∷ next ∷ levels) some = (refl, refl)
digits_bare false (true ∷ []) some = (refl, refl)
digits_bare false (false ∷ []) some = (refl, refl)
digits_bare false (true ∷ true ∷ []) some = (refl, refl)
digits_bare false (true ∷ false ∷ []) some = (refl, refl)
digits_bare false (false ∷ true ∷ []) some = (refl, refl)
digits_bare false (false ∷ false ∷ []) some = (refl, refl)
digits_bare false (true ∷ true ∷ next ∷ levels) some = (refl, refl)
digits_bare false (true ∷ false ∷ next ∷ levels) some = (refl, refl)
digits_bare false (false ∷ true ∷ next ∷ levels) some = (refl, refl)
digits_bare false (false ∷ false ∷ next ∷ levels) some = (refl, refl)

-- nor in what they are the front of
pub digits_one : (rest text : List ℕ) (len : ℕ) (quoted : Bool) (levels : List Bool) → len < length rest → text ≡ take len rest → text ≡ digits_of quoted levels → AllIn rest len
digits_one rest text len quoted levels less front is k below =
    let none : AllIn text (length text) = none_in text (subst NoFeed (sym is) (no_feed quoted levels)) in
    sym (ap is_feed (get_or-take len rest k 0 below)) ∙ ap (λ (l : List ℕ). is_feed (slice_index l k)) (sym front) ∙ none k (omega (arith, below, ap length front, length-take-le len rest (omega (arith, less))))
