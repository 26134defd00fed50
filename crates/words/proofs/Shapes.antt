-- What a part without a fault looks like.
use Rattle.std.proofs.Common.{◌≡◌, ◌≤◌, ℕ, ◌+◌, Bool, true, false, cond, List, length, Option, Some, None, Result, Ok, Err, refl, sym, ◌∙◌, ap, arith}
use Rattle.std.specs.Prelude.{if◌then◌else◌, nat_le, nat_lt, ◌==◌}
use Rattle.std.specs.Str.{bytes_eq}
use Rattle.std.proofs.lemmas.Bool.Decides.{nat_tests}
use Rattle.std.proofs.lemmas.Slice.Eq.{bytes_eq-Decides}
use Rattle.text_parts.specs.Reading.{then_read}
use Rattle.words.specs.Lexer.{Text, begins_option, long_of}
use Rattle.words.specs.Options.{name_of, names, row}
use Rattle.words.specs.Uses.{Part, Used, is_given, judged, named_at, option_at, or_fault, use_at, value_at, why_value, why_word}
use Rattle.words.specs.declared.options.Name.{Name}
use Rattle.words.specs.declared.kinds.WordWhy.{WordWhy}
use Rattle.words.specs.declared.kinds.WordWhy.TheVariants as why
use Rattle.words.specs.declared.kinds.WordFault.{WordFault}
use Rattle.words.proofs.Searches.{find_passes}

pub then_read_ok : {X Y F : Type 0} (r : Result X F) (next : X → Result Y F) (y : Y) → then_read r next ≡ Ok y → (x : X) × (r ≡ Ok x) × (next x ≡ Ok y)
then_read_ok (Ok x) next y e = (x, refl, e)
then_read_ok (Err f) next y e = cc

or_fault_ok : {X : Type 0} (number : ℕ) (o : Option WordWhy) (good : Result X WordFault) (x : X) → or_fault number o good ≡ Ok x → (o ≡ None) × (good ≡ Ok x)
or_fault_ok number None good x e = (refl, e)
or_fault_ok number (Some why) good x e = cc

cond_ok : {X F : Type 0} (b : Bool) (f : F) (r : Result X F) (x : X) → cond b (Err f) r ≡ Ok x → (b ≡ false) × (r ≡ Ok x)
cond_ok true f r x e = cc
cond_ok false f r x e = (refl, e)

pub name_of_is : (text : Text) (name : Name) → name_of text ≡ Some name → text ≡ (row name).name
name_of_is text name e = sym ((bytes_eq-Decides (row name).name text).0 (find_passes (λ name. bytes_eq (row name).name text) names name e))

word_short : (number : ℕ) (word : Text) → why_word number word ≡ None → length word ≤ 4096
word_short number word e = by (nat_le 256 number) e
  where
    long : (b : Bool) → nat_lt 4096 (length word) ≡ b → (if b then Some why.Long else if length word == 0 then Some why.Empty else None) ≡ None → length word ≤ 4096
    long true is e = cc
    long false is e = grind (arith, nat_tests)

    by : (b : Bool) → (if b then Some why.Many else if nat_lt 4096 (length word) then Some why.Long else if length word == 0 then Some why.Empty else None) ≡ None → length word ≤ 4096
    by true e = cc
    by false e = long (nat_lt 4096 (length word)) refl e

-- a word that is no option; `--NAME=VALUE`; `--NAME` with the value in the next word
pub data Shape (before : List Used) (part : Part) (u : Used) : Type 0 where
  chain : begins_option part.word ≡ false → u ≡ record { name = None; word = part.number; text = part.word } → length part.word ≤ 4096 → Shape before part u
  joined : (name : Name) (value : Text) → long_of part.word ≡ Some ((row name).name, Some value) → is_given name before ≡ false
      → u ≡ record { name = Some name; word = part.number; text = value } → why_value (row name).takes value ≡ None → length part.word ≤ 4096 → Shape before part u
  split : (name : Name) (value : Text) → long_of part.word ≡ Some ((row name).name, None) → part.next ≡ Some value → is_given name before ≡ false
      → u ≡ record { name = Some name; word = part.number + 1; text = value } → why_value (row name).takes value ≡ None → length value ≤ 4096 → Shape before part u

ok_same : {X F : Type 0} (x y : X) → ◌≡◌ {A = Result X F} (Ok x) (Ok y) → x ≡ y
ok_same x y e = cc

judged_is : (name : Name) (number : ℕ) (value : Text) (u : Used) → judged name number value ≡ Ok u
    → (why_value (row name).takes value ≡ None) × (u ≡ record { name = Some name; word = number; text = value })
judged_is name number value u e = let p = or_fault_ok number (why_value (row name).takes value) _ u e in (p.0, sym (ok_same _ u p.1))

module _ (before : List Used) (part : Part) (short : length part.word ≤ 4096) (u : Used) where
  shape_value : (name : Name) (text : Text) (value next : Option Text) → long_of part.word ≡ Some (text, value) → text ≡ (row name).name
      → part.next ≡ next → is_given name before ≡ false → value_at name part.number value next ≡ Ok u → Shape before part u
  shape_value name text (Some value) next long is n new e =
      let p = cond_ok _ _ (judged name part.number value) u e in
      let j = judged_is name part.number value u p.1 in
      joined name value (long ∙ ap (λ t. Some (t, Some value)) is) new j.1 j.0 short
  shape_value name text None None long is n new e = cc
  shape_value name text None (Some value) long is n new e =
      let p = or_fault_ok (part.number + 1) (why_word (part.number + 1) value) (judged name (part.number + 1) value) u e in
      let j = judged_is name (part.number + 1) value u p.1 in
      split name value (long ∙ ap (λ t. Some (t, None)) is) n new j.1 j.0 (word_short (part.number + 1) value p.0)

  shape_named : (text : Text) (value : Option Text) (named : Option Name) → long_of part.word ≡ Some (text, value) → name_of text ≡ named
      → named_at before part named value ≡ Ok u → Shape before part u
  shape_named text value None long is e = cc
  shape_named text value (Some name) long is e =
      let p = cond_ok (is_given name before) _ (value_at name part.number value part.next) u e in
      shape_value name text value part.next long (name_of_is text name is) refl p.0 p.1

  shape_option : (long : Option (Text × Option Text)) → long_of part.word ≡ long → option_at before part long ≡ Ok u → Shape before part u
  shape_option None is e = cc
  shape_option (Some p) is e = shape_named p.0 p.1 (name_of p.0) is refl e

  shape_word : (b : Bool) → b ≡ begins_option part.word → cond b (option_at before part (long_of part.word)) (Ok (record { name = None; word = part.number; text = part.word })) ≡ Ok u → Shape before part u
  shape_word true is e = shape_option (long_of part.word) refl e
  shape_word false is e = chain (sym is) (sym (ok_same _ u e)) short

pub shape_of : (before : List Used) (part : Part) (u : Used) → use_at before part ≡ Ok u → Shape before part u
shape_of before part u e =
    let p = or_fault_ok part.number (why_word part.number part.word) (cond (begins_option part.word) (option_at before part (long_of part.word)) (Ok (record { name = None; word = part.number; text = part.word }))) u e in
    shape_word before part (word_short part.number part.word p.0) u (begins_option part.word) refl p.1
