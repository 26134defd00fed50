-- Lines whose fields are each plain or one quoted text, as the machine reads them.
use Rattle.std.proofs.Common.{length, slice_index, map, All, ◌<◌, zero, suc, ◌≡◌, ℕ, ◌==◌, List, [], ◌∷◌, ◌++◌, refl, sym, ◌∙◌, ap, arith, append_assoc, Option, Some, None, Bool, true, false, cond, ◌||◌}
use Rattle.std.proofs.lemmas.List.{append-nil}
use Rattle.std.proofs.lemmas.List.Elements.{All-cons, All-head, All-tail}
use Rattle.std.proofs.lemmas.List.Splits.{join_with_byte-slice_split}
use Rattle.std.specs.List.{join_with_byte, slice_split, onto_first}
use Rattle.csv.specs.Machine.{Read, next_record, step, in_field, is_end, ends_at_end, fields_after, field_after}
use Rattle.csv.specs.Reading.{default_config}
use Rattle.csv.specs.declared.parser.Action.{Action}
use Rattle.csv.specs.declared.parser.Action.TheVariants as act
use Rattle.csv.specs.declared.parser.State.{State}
use Rattle.csv.specs.declared.parser.State.TheVariants as st
use Rattle.capture_csv.specs.Fields.{fields_in, record_fields}
use Rattle.capture_csv.specs.Plain.{AllSimple, IsPlain, IsPlainByte, IsSimple, IsSimpleText, PlainIsSplit, SimpleIsRead, Written, line_of, texts_of, written}
use Rattle.capture_csv.specs.Simple.{IsSimpleLine}

-- what a byte that is no quote and no line's end does
plain_step : Bool → State × Action
plain_step true = (st.StartField, act.EndField)
plain_step false = (st.InField, act.Copy)

in_plain : (c : ℕ) → (c == 10) ≡ false → (c == 13) ≡ false → in_field default_config c ≡ plain_step (c == 44)
unfolding plain_step
in_plain c ten thirteen = by_test (c == 44) where
  by_end : (a b : Bool) → a ≡ false → b ≡ false → cond {A = State × Action} (a || b) (cond a st.AfterCr st.StartRecord, act.EndRecord) (st.InField, act.Copy) ≡ (st.InField, act.Copy)
  by_end true b e f = cc
  by_end false true e f = cc
  by_end false false e f = refl

  by_test : (t : Bool) → cond {A = State × Action} t (st.StartField, act.EndField) (cond {A = State × Action} ((c == 13) || (c == 10)) (cond (c == 13) st.AfterCr st.StartRecord, act.EndRecord) (st.InField, act.Copy)) ≡ plain_step t
  by_test true = refl
  by_test false = by_end (c == 13) (c == 10) thirteen ten

-- a state in which such a byte is of a field
IsFieldState : State → Type 0
IsFieldState s = (c : ℕ) → (c == 34) ≡ false → (c == 10) ≡ false → (c == 13) ≡ false → step default_config s c ≡ plain_step (c == 44)

in_state : IsFieldState st.InField
unfolding IsFieldState
in_state c quote ten thirteen = in_plain c ten thirteen

start_state : IsFieldState st.StartField
unfolding IsFieldState
start_state c quote ten thirteen = ap (λ (b : Bool). cond {A = State × Action} b (st.InQuoted, act.Skip) (in_field default_config c)) quote ∙ in_plain c ten thirteen

-- at the start of a record it does the same
begins : (c : ℕ) → (c == 10) ≡ false → (c == 13) ≡ false → step default_config st.StartRecord c ≡ step default_config st.StartField c
begins c ten thirteen = by_end (c == 13) (c == 10) thirteen ten where
  by_end : (a b : Bool) → a ≡ false → b ≡ false → cond {A = State × Action} (a || b) (st.StartRecord, act.Skip) (step default_config st.StartField c) ≡ step default_config st.StartField c
  by_end true b e f = cc
  by_end false true e f = cc
  by_end false false e f = refl

-- a byte that ends no record
steps : (s t : State) (a : Action) (fields : List (List ℕ)) (field : List ℕ) (c : ℕ) (line : List ℕ) → step default_config s c ≡ (t, a) → is_end a ≡ false
    → next_record default_config s fields field (c ∷ line) ≡ next_record default_config t (fields_after a fields field) (field_after a c field) line
unfolding next_record
steps s t a fields field c line is other =
    ap (λ (q : State × Action). cond {A = Option Read} (is_end q.1) (Some (fields_after q.1 fields field, q.0, line)) (next_record default_config q.0 (fields_after q.1 fields field) (field_after q.1 c field) line)) is
    ∙ ap (λ (b : Bool). cond {A = Option Read} b (Some (fields_after a fields field, t, line)) (next_record default_config t (fields_after a fields field) (field_after a c field) line)) other

-- a comma ends a field in this state, and so does the end of the line
record Closes (s : State) : Type 0 where
  comma : step default_config s 44 ≡ (st.StartField, act.EndField)
  at_end : ends_at_end s ≡ true

-- a field is read, and its text is at hand before what stands behind it
FieldRead : State → List (List ℕ) → List ℕ → List ℕ → List ℕ → List ℕ → Type 0
FieldRead s fields field line text after = (t : State) × Closes t × (next_record default_config s fields field line ≡ next_record default_config t fields text after)

bare_read : (s : State) (fields : List (List ℕ)) (field text after : List ℕ) → IsFieldState s → Closes s → IsSimpleText false text → FieldRead s fields field (text ++ after) (field ++ text) after
unfolding FieldRead IsFieldState plain_step
bare_read s fields field [] after state closes simple = (s, closes, ap (λ (l : List ℕ). next_record default_config s fields l after) (sym (append-nil field)))
bare_read s fields field (c ∷ text) after state closes simple =
    let plain = simple.0 in
    let other : (c == 44) ≡ false = All-head (λ (byte : ℕ). (byte == 44) ≡ false) c text simple.1 in
    let on = bare_read st.InField fields (field ++ c ∷ []) text after in_state (record { comma = refl; at_end = refl }) (plain.3, All-tail (λ (byte : ℕ). (byte == 44) ≡ false) c text simple.1) in (
      on.0,
      on.1,
      steps s st.InField act.Copy fields field c (text ++ after) (state c plain.0 plain.1 plain.2 ∙ ap (λ (b : Bool). plain_step b) other) refl ∙ on.2
          ∙ ap (λ (l : List ℕ). next_record default_config on.0 fields l after) (append_assoc field (c ∷ []) text),
    )

in_quotes : (c : ℕ) → (c == 34) ≡ false → step default_config st.InQuoted c ≡ (st.InQuoted, act.Copy)
in_quotes c other = ap (λ (b : Bool). cond {A = State × Action} b (st.AfterQuote, act.Skip) (st.InQuoted, act.Copy)) other

quotes_read : (fields : List (List ℕ)) (field text after : List ℕ) → IsSimpleText true text
    → next_record default_config st.InQuoted fields field (text ++ 34 ∷ after) ≡ next_record default_config st.AfterQuote fields (field ++ text) after
quotes_read fields field [] after none =
    steps st.InQuoted st.AfterQuote act.Skip fields field 34 after refl refl ∙ ap (λ (l : List ℕ). next_record default_config st.AfterQuote fields l after) (sym (append-nil field))
quotes_read fields field (c ∷ text) after none =
    steps st.InQuoted st.InQuoted act.Copy fields field c (text ++ 34 ∷ after) (in_quotes c (All-head (λ (byte : ℕ). (byte == 34) ≡ false) c text none)) refl
    ∙ quotes_read fields (field ++ c ∷ []) text after (All-tail (λ (byte : ℕ). (byte == 34) ≡ false) c text none)
    ∙ ap (λ (l : List ℕ). next_record default_config st.AfterQuote fields l after) (append_assoc field (c ∷ []) text)

field_read : (fields : List (List ℕ)) (quoted : Bool) (text after : List ℕ) → IsSimpleText quoted text → FieldRead st.StartField fields [] (written (record { quoted = quoted; text = text }) ++ after) text after
unfolding FieldRead
field_read fields true text after simple = (
  st.AfterQuote,
  record { comma = refl; at_end = refl },
  steps st.StartField st.InQuoted act.Skip fields [] 34 ((text ++ 34 ∷ []) ++ after) refl refl
      ∙ ap (λ (l : List ℕ). next_record default_config st.InQuoted fields [] l) (append_assoc text (34 ∷ []) after) ∙ quotes_read fields [] text after simple,
)
field_read fields false text after simple = bare_read st.StartField fields [] text after start_state (record { comma = refl; at_end = refl }) simple

fields_read : (before : List (List ℕ)) (field : Written) (fields : List Written) → IsSimple field → AllSimple fields
    → next_record default_config st.StartField before [] (line_of (field ∷ fields)) ≡ Some (before ++ texts_of (field ∷ fields), st.StartRecord, [])
unfolding FieldRead next_record
fields_read before field [] simple all =
    let read = field_read before field.quoted field.text [] simple in
    ap (λ (l : List ℕ). next_record default_config st.StartField before [] l) (sym (append-nil (written field))) ∙ read.2
    ∙ ap (λ (b : Bool). cond {A = Option Read} b (Some (before ++ field.text ∷ [], st.StartRecord, [])) None) read.1.at_end
fields_read before field (next ∷ fields) simple all =
    let read = field_read before field.quoted field.text (44 ∷ line_of (next ∷ fields)) simple in
    read.2 ∙ steps read.0 st.StartField act.EndField before field.text 44 (line_of (next ∷ fields)) read.1.comma refl ∙ fields_read (before ++ field.text ∷ []) next fields all.0 all.1
    ∙ ap (λ (l : List (List ℕ)). Some (l, st.StartRecord, [])) (append_assoc before (field.text ∷ []) (texts_of (next ∷ fields)))

-- such a line begins with no line's end
NoEnd : List ℕ → Type 0
NoEnd [] = Unit {0}
NoEnd (c ∷ line) = ((c == 10) ≡ false) × ((c == 13) ≡ false)

line_starts : (quoted : Bool) (text : List ℕ) (fields : List Written) → IsSimpleText quoted text → NoEnd (line_of (record { quoted = quoted; text = text } ∷ fields))
unfolding NoEnd
line_starts true text [] simple = (refl, refl)
line_starts true text (next ∷ fields) simple = (refl, refl)
line_starts false [] [] simple = tt
line_starts false [] (next ∷ fields) simple = (refl, refl)
line_starts false (c ∷ text) [] simple = (simple.0.1, simple.0.2)
line_starts false (c ∷ text) (next ∷ fields) simple = (simple.0.1, simple.0.2)

from_start : (line : List ℕ) → 0 < length line → NoEnd line → next_record default_config st.StartRecord [] [] line ≡ next_record default_config st.StartField [] [] line
unfolding NoEnd next_record
from_start [] some end = absurd (omega (arith, some))
from_start (c ∷ line) some end =
    ap (λ (q : State × Action). cond {A = Option Read} (is_end q.1) (Some (fields_after q.1 [] [], q.0, line)) (next_record default_config q.0 (fields_after q.1 [] []) (field_after q.1 c []) line)) (begins c end.0 end.1)

pub simple_is_read : SimpleIsRead
unfolding fields_in
simple_is_read [] all some = absurd (omega (arith, some))
simple_is_read (field ∷ fields) all some =
    ap (λ (o : Option Read). record_fields o) (from_start (line_of (field ∷ fields)) some (line_starts field.quoted field.text fields all.0) ∙ fields_read [] field fields all.0 all.1)

pub line_read : (line : List ℕ) (fields : List (List ℕ)) → 0 < length line → IsSimpleLine line fields → fields_in line ≡ fields
line_read line fields some simple = ap (λ (l : List ℕ). fields_in l) simple.line ∙ simple_is_read simple.all simple.each (omega (arith, some, ap length simple.line)) ∙ sym simple.fields_are

-- a line without quotes is such a line: its fields are the parts between commas
split : List ℕ → List (List ℕ)
split line = slice_split (λ byte. byte == 44) line

bare : List ℕ → Written
bare text = record { quoted = false; text = text }

bare_written : (parts : List (List ℕ)) → map written (map bare parts) ≡ parts
unfolding bare
bare_written [] = refl
bare_written (part ∷ parts) = ap (λ (l : List (List ℕ)). part ∷ l) (bare_written parts)

bare_texts : (parts : List (List ℕ)) → texts_of (map bare parts) ≡ parts
unfolding bare
bare_texts [] = refl
bare_texts (part ∷ parts) = ap (λ (l : List (List ℕ)). part ∷ l) (bare_texts parts)

no_commas : All (λ (byte : ℕ). (byte == 44) ≡ false) []
no_commas k d less = absurd (omega (arith, less))

split_simple : (line : List ℕ) → IsPlain line → AllSimple (map bare (split line))
unfolding split bare
split_simple [] plain = ((tt, no_commas), tt)
split_simple (c ∷ line) plain = by_comma (c == 44) refl (split line) (split_simple line plain.3) where
  by_comma : (t : Bool) → (c == 44) ≡ t → (parts : List (List ℕ)) → AllSimple (map bare parts) → AllSimple (map bare (cond t ([] ∷ parts) (onto_first c parts)))
  by_comma true e parts all = ((tt, no_commas), all)
  by_comma false e [] all = (((plain.0, plain.1, plain.2, tt), All-cons (λ (byte : ℕ). (byte == 44) ≡ false) c [] e no_commas), tt)
  by_comma false e (part ∷ parts) all = (((plain.0, plain.1, plain.2, all.0.0), All-cons (λ (byte : ℕ). (byte == 44) ≡ false) c part e all.0.1), all.1)

pub plain_simple : (line : List ℕ) → IsPlain line → IsSimpleLine line (slice_split (λ byte. byte == 44) line)
unfolding split
plain_simple line plain = record {
  all = map bare (split line);
  each = split_simple line plain;
  line = sym (ap (λ (l : List (List ℕ)). join_with_byte 44 l) (bare_written (split line)) ∙ join_with_byte-slice_split 44 line);
  fields_are = sym (bare_texts (split line));
}

pub plain_is_split : PlainIsSplit
plain_is_split line some plain = line_read line (slice_split (λ byte. byte == 44) line) some (plain_simple line plain)

-- each of its bytes is plain
pub plain_at : (text : List ℕ) (k : ℕ) → IsPlain text → k < length text → IsPlainByte (slice_index text k)
plain_at [] k plain few = absurd (omega (arith, few))
plain_at (x ∷ text) zero plain few = (plain.0, plain.1, plain.2)
plain_at (x ∷ text) (suc k) plain few = plain_at text k plain.3 (omega (arith, few))

pub plain_more : (text : List ℕ) (byte : ℕ) → IsPlain text → IsPlainByte byte → IsPlain (text ++ byte ∷ [])
plain_more [] byte plain is = (is.0, is.1, is.2, tt)
plain_more (x ∷ text) byte plain is = (plain.0, plain.1, plain.2, plain_more text byte plain.3 is)
