-- Lines whose fields are each plain or one quoted text: where a field ends, and how many there are.
use Rattle.std.proofs.Common.{◌≡◌, ℕ, ◌+◌, ◌-◌, ◌≤◌, ◌<◌, ◌==◌, ◌⊎◌, inl, inr, List, [], ◌∷◌, ◌++◌, take, drop, length, refl, sym, ◌∙◌, ap, subst, arith, append_assoc, length-append, length-drop, length-take-le, take-append-drop, slice_index, All, Bool, true, false}
use Rattle.std.proofs.lemmas.Bool.{eqb-false}
use Rattle.std.proofs.lemmas.List.{append-nil, drop-drop, drop_all, drop_at, drop_more, get_or_append_left, get_or_at, get_or-take, length-map, nil_from_length, take_at}
use Rattle.std.proofs.lemmas.List.Elements.{All-from_get_or}
use Rattle.capture_csv.specs.Plain.{AllSimple, IsPlain, IsSimple, IsSimpleText, NeedsCsv, Written, line_of, texts_of, written}
use Rattle.capture_csv.specs.Simple.{AllBefore, BeginsSimply, BeginsWith, FirstLen, HasFields, IsBehind, IsField, IsQuoted, IsSimpleLine}

differs : (x y : ℕ) → x ≡ y → (x == y) ≡ false → ⊥
differs x y is other = eqb-false x y other is

-- where a byte first stands: behind a text without it, if it stands there or nothing does
first_place : (byte : ℕ) (word after text : List ℕ) (n : ℕ) → text ≡ word ++ after → All (λ b. (b == byte) ≡ false) word → (0 < length after → slice_index after 0 ≡ byte)
    → n ≤ length text → AllBefore byte text n → (n < length text → slice_index text n ≡ byte) → n ≡ length word
first_place byte word after text n is none next within before here = by_order (search arith) where
  len : length text ≡ length word + length after
  len = ap length is ∙ length-append word after

  by_order : (n < length word) ⊎ (n ≡ length word) ⊎ (length word < n) → n ≡ length word
  by_order (inl less) =
      let found : slice_index word n ≡ byte = sym (ap (λ (l : List ℕ). slice_index l n) is ∙ get_or_append_left word after 0 n less) ∙ here (omega (arith, less, len)) in
      absurd (differs (slice_index word n) byte found (none n 0 less))
  by_order (inr (inl same)) = same
  by_order (inr (inr more)) = absurd (by_after after is (omega (arith, more, within, len)) next) where
    by_after : (l : List ℕ) → text ≡ word ++ l → 0 < length l → (0 < length l → slice_index l 0 ≡ byte) → ⊥
    by_after [] e some at = omega (arith, some)
    by_after (x ∷ l) e some at =
        let found : slice_index text (length word) ≡ byte = ap (λ (t : List ℕ). slice_index t (length word)) e ∙ get_or_at word x l 0 (length word) refl ∙ at some in
        differs (slice_index text (length word)) byte found (before (length word) more)

-- nothing or a comma stands behind a field
behind_first : (after : List ℕ) → IsBehind after → 0 < length after → slice_index after 0 ≡ 44
behind_first [] behind some = absurd (omega (arith, some))
behind_first (x ∷ after) behind some = behind

-- a field without quotes round it doesn't begin with one
bare_begins : (text after line : List ℕ) → IsSimpleText false text → IsBehind after → line ≡ text ++ after → IsQuoted line true → ⊥
bare_begins [] [] line simple behind is quoted = omega (arith, quoted.0, ap length is)
bare_begins [] (x ∷ after) line simple behind is quoted = let bad : 34 ≡ 44 = sym quoted.1 ∙ ap (λ (l : List ℕ). slice_index l 0) is ∙ behind in omega (arith, bad)
bare_begins (x ∷ text) after line simple behind is quoted = differs x 34 (sym (ap (λ (l : List ℕ). slice_index l 0) is) ∙ quoted.1) simple.0.0

quoted_begins : (text after line : List ℕ) → line ≡ (34 ∷ (text ++ 34 ∷ [])) ++ after → IsQuoted line false → ⊥
quoted_begins text after line is other =
    differs (slice_index line 0) 34 (ap (λ (l : List ℕ). slice_index l 0) is) (other (omega (arith, ap length is)))

-- the first field, where no quote stands first
module _ (line : List ℕ) (n : ℕ) (bare : IsQuoted line false) (within : n ≤ length line) (before : AllBefore 44 line n) (here : n < length line → slice_index line n ≡ 44) where
  by_bare : (P : Type 0) → ((text after : List ℕ) → IsSimpleText false text → IsBehind after → line ≡ text ++ after → P) → (quoted : Bool) (text after : List ℕ) → IsSimpleText quoted text → IsBehind after → line ≡ written (record { quoted = quoted; text = text }) ++ after → P
  by_bare P says true text after simple behind is = absurd (quoted_begins text after line is bare)
  by_bare P says false text after simple behind is = says text after simple behind is

  len_bare : (text after : List ℕ) → IsSimpleText false text → IsBehind after → line ≡ text ++ after → n ≡ length text
  len_bare text after simple behind is = first_place 44 text after line n is simple.1 (behind_first after behind) within before here

  pub plain_first : FirstLen line n
  plain_first field after b = by_quotes field.quoted field.text b.simple b.is where
    by_quotes : (quoted : Bool) (text : List ℕ) → IsSimpleText quoted text → line ≡ written (record { quoted = quoted; text = text }) ++ after → n ≡ length (written (record { quoted = quoted; text = text }))
    by_quotes true text simple is = absurd (quoted_begins text after line is bare)
    by_quotes false text simple is = len_bare text after simple b.behind is

  -- it is plain, if the line begins with a field that is so or one quoted text
  pub plain_begins : BeginsSimply line → IsPlain (take n line)
  plain_begins begins = by_bare (IsPlain (take n line)) (λ text after simple behind is. subst IsPlain (sym (ap (λ (l : List ℕ). take n l) is ∙ take_at text after n (sym (len_bare text after simple behind is)))) simple.0)
      begins.0.quoted begins.0.text begins.1 begins.2.simple begins.2.behind begins.2.is

  behind_here : IsBehind (drop n line)
  behind_here = by_place (search arith) where
    by_place : (n < length line) ⊎ (length line ≤ n) → IsBehind (drop n line)
    by_place (inl less) = subst IsBehind (sym (drop_more line n 0 less)) (here less)
    by_place (inr all) = subst IsBehind (sym (drop_all n line all)) tt

  pub plain_is_first : IsPlain (take n line) → BeginsSimply line
  plain_is_first plain = (
    record { quoted = false; text = take n line },
    drop n line,
    record {
      simple = (plain, All-from_get_or (λ (b : ℕ). (b == 44) ≡ false) (take n line) 0 (λ k less. let below : k < n = omega (arith, less, length-take-le n line within) in ap (λ (b : ℕ). b == 44) (get_or-take n line k 0 below) ∙ before k below));
      behind = behind_here;
      is = sym (take-append-drop n line);
    },
  )

-- the first field, where a quote stands first: n bytes stand between it and the next
module _ (line rest : List ℕ) (n : ℕ) (quoted : IsQuoted line true) (rest_is : rest ≡ drop 1 line) (within : n ≤ length rest) (before : AllBefore 34 rest n) (here : n < length rest → slice_index rest n ≡ 34) where
  by_quoted : (P : Type 0) → ((text after : List ℕ) → IsSimpleText true text → IsBehind after → rest ≡ text ++ 34 ∷ after → P) → BeginsSimply line → P
  by_quoted P says begins = by_quotes begins.0.quoted begins.0.text begins.2.simple begins.2.is where
    by_quotes : (quotes : Bool) (text : List ℕ) → IsSimpleText quotes text → line ≡ written (record { quoted = quotes; text = text }) ++ begins.1 → P
    by_quotes false text simple is = absurd (bare_begins text begins.1 line simple begins.2.behind is quoted)
    by_quotes true text simple is = says text begins.1 simple begins.2.behind (rest_is ∙ ap (λ (l : List ℕ). drop 1 l) is ∙ append_assoc text (34 ∷ []) begins.1)

  len_quoted : (text after : List ℕ) → IsSimpleText true text → rest ≡ text ++ 34 ∷ after → n ≡ length text
  len_quoted text after simple is = first_place 34 text (34 ∷ after) rest n is simple (λ some. refl) within before here

  pub quoted_first : FirstLen line (n + 2)
  quoted_first field after b = by_quotes field.quoted field.text b.simple b.is where
    by_quotes : (quotes : Bool) (text : List ℕ) → IsSimpleText quotes text → line ≡ written (record { quoted = quotes; text = text }) ++ after → n + 2 ≡ length (written (record { quoted = quotes; text = text }))
    by_quotes false text simple is = absurd (bare_begins text after line simple b.behind is quoted)
    by_quotes true text simple is =
        let len = len_quoted text after simple (rest_is ∙ ap (λ (l : List ℕ). drop 1 l) is ∙ append_assoc text (34 ∷ []) after) in
        omega (arith, len, length-append text (34 ∷ []))

  line_len : length line ≡ length rest + 1
  line_len = omega (arith, ap length rest_is, length-drop 1 line, quoted.0)

  line_is : line ≡ 34 ∷ rest
  line_is = drop_more line 0 0 quoted.0 ∙ (λ i. quoted.1 i ∷ sym rest_is i)

  -- a quote stands behind these bytes, and a comma or nothing behind it, if the line begins with such a field
  pub quoted_ends : BeginsSimply line → (n < length rest) × IsBehind (drop (n + 2) line)
  quoted_ends begins = by_quoted ((n < length rest) × IsBehind (drop (n + 2) line)) (λ text after simple behind is.
      let len = len_quoted text after simple is in
      let upto : line ≡ (34 ∷ (text ++ 34 ∷ [])) ++ after = line_is ∙ ap (λ (l : List ℕ). 34 ∷ l) (is ∙ sym (append_assoc text (34 ∷ []) after)) in
      let all : length (34 ∷ (text ++ 34 ∷ [])) ≡ n + 2 = omega (arith, len, length-append text (34 ∷ [])) in
      (omega (arith, len, ap length is, length-append text (34 ∷ after)), subst IsBehind (sym (ap (λ (l : List ℕ). drop (n + 2) l) upto ∙ drop_at (34 ∷ (text ++ 34 ∷ [])) after (n + 2) all)) behind)) begins

  pub quoted_is_first : n < length rest → IsBehind (drop (n + 2) line) → BeginsSimply line
  quoted_is_first less behind = (
    record { quoted = true; text = take n rest },
    drop (n + 2) line,
    record {
      simple = All-from_get_or (λ (b : ℕ). (b == 34) ≡ false) (take n rest) 0 (λ k below. let small : k < n = omega (arith, below, length-take-le n rest within) in ap (λ (b : ℕ). b == 34) (get_or-take n rest k 0 small) ∙ before k small);
      behind = behind;
      is = whole;
    },
  ) where
    next : drop (n + 1) rest ≡ drop (n + 2) line
    next = let place : 1 + (n + 1) ≡ n + 2 = omega arith in ap (λ (l : List ℕ). drop (n + 1) l) rest_is ∙ drop-drop (n + 1) 1 line ∙ ap (λ (m : ℕ). drop m line) place

    whole : line ≡ (34 ∷ (take n rest ++ 34 ∷ [])) ++ drop (n + 2) line
    whole = line_is ∙ ap (λ (l : List ℕ). 34 ∷ l) (sym (take-append-drop n rest) ∙ ap (λ (l : List ℕ). take n rest ++ l) (drop_more rest n 0 less ∙ (λ i. here less i ∷ next i)) ∙ sym (append_assoc (take n rest) (34 ∷ []) (drop (n + 2) line)))

-- so many bytes are the first field
pub first_taken : (line : List ℕ) (n : ℕ) → BeginsSimply line → FirstLen line n → IsField (take n line)
first_taken line n begins first = (begins.0, begins.2.simple, ap (λ (l : List ℕ). take n l) begins.2.is ∙ take_at (written begins.0) begins.1 n (sym (first begins.0 begins.1 begins.2)))

pub first_within : (line : List ℕ) (n : ℕ) → BeginsSimply line → FirstLen line n → n ≤ length line
first_within line n begins first = omega (arith, first begins.0 begins.1 begins.2, ap length begins.2.is, length-append (written begins.0) begins.1)

-- the text of a field
pub field_bare : (field : List ℕ) (quoted : Bool) (text : List ℕ) → IsQuoted field false → IsSimpleText quoted text → field ≡ written (record { quoted = quoted; text = text }) → field ≡ text
field_bare field true text bare simple is = absurd (quoted_begins text [] field (is ∙ sym (append-nil (34 ∷ (text ++ 34 ∷ [])))) bare)
field_bare field false text bare simple is = is

pub field_quoted : (field : List ℕ) (quotes : Bool) (text : List ℕ) → IsQuoted field true → IsSimpleText quotes text → field ≡ written (record { quoted = quotes; text = text }) → (2 ≤ length field) × (take (length field - 1 - 1) (drop 1 field) ≡ text)
field_quoted field false text quoted simple is = absurd (bare_begins text [] field simple tt (is ∙ sym (append-nil text)) quoted)
field_quoted field true text quoted simple is =
    let len : length field ≡ length text + 2 = omega (arith, ap length is, length-append text (34 ∷ [])) in
    (omega (arith, len), ap (λ (l : List ℕ). take (length field - 1 - 1) (drop 1 l)) is ∙ take_at text (34 ∷ []) (length field - 1 - 1) (omega (arith, len)))

-- what stands behind the first field of a line
abbrev pub behind_of : List Written → List ℕ
behind_of [] = []
behind_of (next ∷ fields) = 44 ∷ line_of (next ∷ fields)

line_parts : (field : Written) (fields : List Written) → line_of (field ∷ fields) ≡ written field ++ behind_of fields
line_parts field [] = sym (append-nil (written field))
line_parts field (next ∷ fields) = refl

pub line_begins : (line : List ℕ) (field : Written) (fields : List Written) → IsSimple field → line ≡ line_of (field ∷ fields) → BeginsWith line field (behind_of fields)
line_begins line field fields simple is = record { simple = simple; behind = by_fields fields; is = is ∙ line_parts field fields } where
  by_fields : (l : List Written) → IsBehind (behind_of l)
  by_fields [] = tt
  by_fields (next ∷ l) = refl

-- the other fields of a line that goes on behind the first
pub next_fields : (line : List ℕ) (n : ℕ) (field : Written) (fields : List Written) → line ≡ line_of (field ∷ fields) → n ≡ length (written field) → (n ≡ length line → ⊥)
    → (next : Written) × (others : List Written) × (fields ≡ next ∷ others) × (drop (n + 1) line ≡ line_of (next ∷ others))
next_fields line n field [] is len other = absurd (other (len ∙ sym (ap length is)))
next_fields line n field (next ∷ others) is len other = (
  next,
  others,
  refl,
  ap (λ (l : List ℕ). drop (n + 1) l) (is ∙ sym (append_assoc (written field) (44 ∷ []) (line_of (next ∷ others)))) ∙ drop_at (written field ++ 44 ∷ []) (line_of (next ∷ others)) (n + 1) (omega (arith, len, length-append (written field) (44 ∷ []))),
)

-- fields, and the line behind the comma of the last
abbrev pub lead : List Written → List ℕ → List ℕ
lead [] rest = rest
lead (field ∷ fields) rest = written field ++ 44 ∷ lead fields rest

lead_more : (fields : List Written) (field : Written) (rest : List ℕ) → lead fields (written field ++ 44 ∷ rest) ≡ lead (fields ++ field ∷ []) rest
lead_more [] field rest = refl
lead_more (x ∷ fields) field rest = ap (λ (l : List ℕ). written x ++ 44 ∷ l) (lead_more fields field rest)

lead_line : (fields : List Written) (field : Written) → lead fields (written field) ≡ line_of (fields ++ field ∷ [])
lead_line [] field = refl
lead_line (x ∷ []) field = refl
lead_line (x ∷ y ∷ fields) field = ap (λ (l : List ℕ). written x ++ 44 ∷ l) (lead_line (y ∷ fields) field)

simple_more : (fields : List Written) (field : Written) → AllSimple fields → IsSimple field → AllSimple (fields ++ field ∷ [])
simple_more [] field all simple = (simple, tt)
simple_more (x ∷ fields) field all simple = (all.0, simple_more fields field all.1 simple)

-- so many fields of a line were read, one less than `count`; the next begins here
pub record Counted (line : List ℕ) (from count : ℕ) : Type 0 where
  pub before : List Written
  pub each : AllSimple before
  pub many : length before + 1 ≡ count
  pub line_is : line ≡ lead before (drop from line)
  pub left : (all : List Written) → AllSimple all → line ≡ line_of all → (field : Written) × (fields : List Written) × IsSimple field × AllSimple fields × (drop from line ≡ line_of (field ∷ fields))

pub none_counted : (line : List ℕ) → 0 < length line → Counted line 0 1
none_counted line some = record {
  before = [];
  each = tt;
  many = refl;
  line_is = refl;
  left = λ all simple is. by_all all simple is;
} where
  by_all : (all : List Written) → AllSimple all → line ≡ line_of all → (field : Written) × (fields : List Written) × IsSimple field × AllSimple fields × (line ≡ line_of (field ∷ fields))
  by_all [] simple is = absurd (omega (arith, some, ap length is))
  by_all (field ∷ fields) simple is = (field, fields, simple.0, simple.1, is)

module _ (line rest : List ℕ) (from count : ℕ) (rest_is : rest ≡ drop from line) (counted : Counted line from count) where
  -- the next field is another
  pub other_field : (BeginsSimply rest → ⊥) → NeedsCsv line
  other_field other all simple is =
      let left = counted.left all simple is in
      other (left.0, behind_of left.1, line_begins rest left.0 left.1 left.2 (rest_is ∙ left.4))

  -- or it is the last
  pub last_field : (n : ℕ) → BeginsSimply rest → FirstLen rest n → n ≡ length rest → HasFields line count
  last_field n begins first last =
      let fields = counted.before ++ begins.0 ∷ [] in
      let none = nil_from_length begins.1 (omega (arith, last, first begins.0 begins.1 begins.2, ap length begins.2.is, length-append (written begins.0) begins.1)) in
      let is : rest ≡ written begins.0 = begins.2.is ∙ ap (λ (l : List ℕ). written begins.0 ++ l) none ∙ append-nil (written begins.0) in (
        texts_of fields,
        record {
          all = fields;
          each = simple_more counted.before begins.0 counted.each begins.2.simple;
          line = counted.line_is ∙ ap (λ (l : List ℕ). lead counted.before l) (sym rest_is ∙ is) ∙ lead_line counted.before begins.0;
          fields_are = refl;
        },
        length-map fields (λ (field : Written). field.text) ∙ length-append counted.before (begins.0 ∷ []) ∙ counted.many,
      )

  -- or others stand behind it
  pub one_field : (n : ℕ) → BeginsSimply rest → FirstLen rest n → n ≤ length rest → (n ≡ length rest → ⊥) → Counted line (from + (n + 1)) (count + 1)
  one_field n begins first within other = record {
    before = counted.before ++ begins.0 ∷ [];
    each = simple_more counted.before begins.0 counted.each begins.2.simple;
    many = ap (λ (m : ℕ). m + 1) (length-append counted.before (begins.0 ∷ []) ∙ counted.many);
    line_is = counted.line_is ∙ ap (λ (l : List ℕ). lead counted.before l) (sym rest_is ∙ parted begins.1 begins.2.behind begins.2.is) ∙ lead_more counted.before begins.0 (drop (from + (n + 1)) line);
    left = λ all simple is.
        let left = counted.left all simple is in
        let here : rest ≡ line_of (left.0 ∷ left.1) = rest_is ∙ left.4 in
        let on = next_fields rest n left.0 left.1 here (first left.0 (behind_of left.1) (line_begins rest left.0 left.1 left.2 here)) other in
        let all_on : AllSimple (on.0 ∷ on.1) = subst AllSimple on.2 left.3 in
        (on.0, on.1, all_on.0, all_on.1, sym behind_is ∙ on.3);
  } where
    behind_is : drop (n + 1) rest ≡ drop (from + (n + 1)) line
    behind_is = ap (λ (l : List ℕ). drop (n + 1) l) rest_is ∙ drop-drop (n + 1) from line

    len : n ≡ length (written begins.0)
    len = first begins.0 begins.1 begins.2

    parted : (after : List ℕ) → IsBehind after → rest ≡ written begins.0 ++ after → rest ≡ written begins.0 ++ 44 ∷ drop (from + (n + 1)) line
    parted [] behind is = absurd (other (len ∙ sym (ap length is ∙ ap length (append-nil (written begins.0)))))
    parted (x ∷ after) behind is =
        let those : drop (n + 1) rest ≡ after = ap (λ (l : List ℕ). drop (n + 1) l) (is ∙ sym (append_assoc (written begins.0) (x ∷ []) after)) ∙ drop_at (written begins.0 ++ x ∷ []) after (n + 1) (omega (arith, len, length-append (written begins.0) (x ∷ []))) in
        is ∙ (λ i. written begins.0 ++ behind i ∷ (sym those ∙ behind_is) i)

-- the first field of a line, and the line of the others
pub record Parted (text : List ℕ) (n : ℕ) (fields : List (List ℕ)) : Type 0 where
  pub word : List ℕ
  pub others : List (List ℕ)
  pub fields_are : fields ≡ word ∷ others
  pub text_is : (bytes : List ℕ) → ((w : Written) → IsSimple w → take n text ≡ written w → bytes ≡ w.text) → bytes ≡ word
  pub alone : n ≡ length text → others ≡ []
  pub behind : (n ≡ length text → ⊥) → (rest : List ℕ) → rest ≡ drop (n + 1) text → (n < length text) × IsSimpleLine rest others

pub first_parted : (text : List ℕ) (n : ℕ) (fields : List (List ℕ)) → 0 < length text → IsSimpleLine text fields → FirstLen text n → Parted text n fields
first_parted text n fields some line first = by_all line.all line.each line.line line.fields_are where
  by_more : (more : List Written) → length (behind_of more) ≡ 0 → texts_of more ≡ []
  by_more [] none = refl
  by_more (next ∷ more) none = absurd (omega (arith, none))

  by_all : (all : List Written) → AllSimple all → text ≡ line_of all → fields ≡ texts_of all → Parted text n fields
  by_all [] simple is fields_are = absurd (omega (arith, some, ap length is))
  by_all (field ∷ more) simple is fields_are =
      let b = line_begins text field more simple.0 is in
      let len = first field (behind_of more) b in
      record {
        word = field.text;
        others = texts_of more;
        fields_are = fields_are;
        text_is = λ bytes says. says field simple.0 (ap (λ (l : List ℕ). take n l) b.is ∙ take_at (written field) (behind_of more) n (sym len));
        alone = λ e. by_more more (omega (arith, e, len, ap length b.is, length-append (written field) (behind_of more)));
        behind = λ other rest rest_is.
            let next = next_fields text n field more is len other in (
              omega (arith, len, ap length is, ap (λ (l : List Written). length (line_of (field ∷ l))) next.2, length-append (written field) (44 ∷ line_of (next.0 ∷ next.1))),
              record { all = next.0 ∷ next.1; each = subst AllSimple next.2 simple.1; line = rest_is ∙ next.3; fields_are = ap (λ (l : List Written). texts_of l) next.2 },
            );
      }

pub line_simple : (text : List ℕ) (fields : List (List ℕ)) → 0 < length text → IsSimpleLine text fields → BeginsSimply text
line_simple text fields some line = by_all line.all line.each line.line where
  by_all : (all : List Written) → AllSimple all → text ≡ line_of all → BeginsSimply text
  by_all [] simple is = absurd (omega (arith, some, ap length is))
  by_all (field ∷ more) simple is = (field, behind_of more, line_begins text field more simple.0 is)
