-- Options that are read fit their kind.
use Rattle.std.proofs.Common.{◌≡◌, ℕ, suc, ◌+◌, ◌<◌, Bool, true, false, not, ◌&&◌, ◌||◌, ◌==◌, cond, if◌then◌else◌, List, [], ◌∷◌, ◌++◌, length, slice_get, Option, Some, None, is_some, option_map, Result, Ok, Err, refl, sym, ◌∙◌, ap, subst, arith, add-zero}
use Rattle.std.specs.Prelude.{nat_lt, nat_le}
use Rattle.std.specs.List.{find, list_all, enumerate_from, position, position_or_len, before_first, after_first, slice_split}
use Rattle.std.specs.Str.{bytes_eq}
use Rattle.std.proofs.lemmas.Bool.Decides.{Decides-eqb, nat_tests}
use Rattle.std.proofs.lemmas.List.Quantifiers.{position-Some}
use Rattle.la_base.specs.Naming.{number_after}
use Rattle.text_parts.specs.Numbers.{number_in, is_number}
use Rattle.text_parts.specs.Places.{Placed, placed_from}
use Rattle.text_parts.specs.Reading.{read_parts, then_read}
use Rattle.text_parts.specs.declared.numbers.NumberWhy.TheVariants as number
use Rattle.kind_table.specs.Kinds.{Text, Form, OptionRow, Row, Pin, Number, Choice}
use Rattle.kind_table.specs.Values.{has_groups}
use Rattle.stack_words.specs.declared.faults.StackFault.{StackFault}
use Rattle.stack_words.specs.declared.faults.StackWhy.{StackWhy}
use Rattle.stack_words.specs.declared.faults.StackWhy.TheVariants as why
use Rattle.stack_words.specs.Instances.{Value, Channel, Given, given_at}
use Rattle.stack_words.specs.Instances as value
use Rattle.stack_words.specs.Options.{is_colon, is_equals, at_place, numeric, chosen, read_channel, value_of, option_named, with_row, named_at, option_of, option_at, option_list, options_behind, needs, have_all, is_missing, unless_missing, options_at}
use Rattle.stack_words.specs.Sound.{each_fits, fits, options_fit}

-- what was read keeps what each part keeps
pub read_keeps : {P V F : Type 0} (judge : List V → P → Result V F) (Keeps : List V → Type 0)
    → ((before : List V) (part : P) (value : V) → Keeps before → judge before part ≡ Ok value → Keeps (before ++ value ∷ []))
    → (before : List V) (parts : List P) (values : List V) → Keeps before → read_parts judge before parts ≡ Ok values → Keeps values
read_keeps judge Keeps step before [] values keeps e = let same : before ≡ values = cc in subst Keeps same keeps
read_keeps {P} {V} {F} judge Keeps step before (part ∷ parts) values keeps e = by (judge before part) refl e (λ v k r. read_keeps judge Keeps step (before ++ v ∷ []) parts values k r)
  where
    by : (r : Result V F) → judge before part ≡ r → then_read r (λ value. read_parts judge (before ++ value ∷ []) parts) ≡ Ok values
        → ((v : V) → Keeps (before ++ v ∷ []) → read_parts judge (before ++ v ∷ []) parts ≡ Ok values → Keeps values) → Keeps values
    by (Ok v) is e more = more v (step before part v keeps is) e
    by (Err f) is e more = cc

pub both : (a b : Bool) → (a && b) ≡ true → (a ≡ true) × (b ≡ true)
both true true e = (refl, refl)
both true false e = cc
both false b e = cc

pub join : (a b : Bool) → a ≡ true → b ≡ true → (a && b) ≡ true
join a b x y = (λ i. x i && y i)

-- a value that is read fits
number_fits : (least most : ℕ) (text : Text) (v : Value) → numeric (number_in least most text) ≡ Ok v → fits (Number least most least) (Some v) ≡ true
number_fits least most text v e = first (is_number text) e
  where
    third : (b : Bool) → (nat_le least (number_after 0 text) && nat_le (number_after 0 text) most) ≡ b → numeric (if b then Ok (number_after 0 text) else Err number.Range) ≡ Ok v → fits (Number least most least) (Some v) ≡ true
    third true is e = let same : value.Number (number_after 0 text) ≡ v = cc in ap (λ (x : Value). fits (Number least most least) (Some x)) (sym same) ∙ is
    third false is e = cc

    second : (b : Bool) → numeric (if b then Err number.Range else if nat_le least (number_after 0 text) && nat_le (number_after 0 text) most then Ok (number_after 0 text) else Err number.Range) ≡ Ok v → fits (Number least most least) (Some v) ≡ true
    second true e = cc
    second false e = third (nat_le least (number_after 0 text) && nat_le (number_after 0 text) most) refl e

    first : (b : Bool) → numeric (if not b then Err number.Value else if nat_lt 19 (length text) then Err number.Range else if nat_le least (number_after 0 text) && nat_le (number_after 0 text) most then Ok (number_after 0 text) else Err number.Range) ≡ Ok v
        → fits (Number least most least) (Some v) ≡ true
    first true e = second (nat_lt 19 (length text)) e
    first false e = cc

any_usual : (least most one other : ℕ) (v : Value) → fits (Number least most one) (Some v) ≡ fits (Number least most other) (Some v)
any_usual least most one other (Channel reference) = refl
any_usual least most one other (value.Number n) = refl

channel_fits : (required : Bool) (text : Text) (v : Value) → read_channel text ≡ Ok v → fits (Pin required) (Some v) ≡ true
channel_fits required text v e = by (length text == 0) e
  where
    by : (b : Bool) → (if b then Err why.Value else Ok (Channel text)) ≡ Ok v → fits (Pin required) (Some v) ≡ true
    by true e = cc
    by false e = let same : Channel text ≡ v = cc in ap (λ (x : Value). fits (Pin required) (Some x)) (sym same)

word_fits : (words : List Text) (o : Option ℕ) (v : Value) → ((place : ℕ) → o ≡ Some place → place < length words) → chosen o ≡ Ok v → fits (Choice words) (Some v) ≡ true
word_fits words None v within e = cc
word_fits words (Some place) v within e = let same : value.Number place ≡ v = cc in
    let low : place < length words = within place refl in
    let test : nat_lt place (length words) ≡ true = grind (arith, nat_tests) in
    ap (λ (x : Value). fits (Choice words) (Some x)) (sym same) ∙ test

pub value_fits : (form : Form) (text : Text) (v : Value) → value_of form text ≡ Ok v → fits form (Some v) ≡ true
value_fits (Pin required) text v e = channel_fits required text v e
value_fits (Number least most usual) text v e = any_usual least most usual least v ∙ number_fits least most text v e
value_fits (Choice words) text v e = word_fits words (position (λ word. bytes_eq word text) words) v (λ place is. (position-Some (λ word. bytes_eq word text) words place [] is).0) e

-- an option that is given fits its row
pub record GoodOption (rows : List OptionRow) (given : Given) : Type 0 where
  pub option : OptionRow
  pub row : slice_get rows given.row ≡ Some option
  pub fit : fits option.form (Some given.value) ≡ true

-- an element that was found among those with their places
found_at : {X : Type 0} (p : ℕ × X → Bool) (n : ℕ) (xs : List X) (k : ℕ) (x : X) → find p (enumerate_from n xs) ≡ Some (k, x) → (j : ℕ) × (k ≡ n + j) × (slice_get xs j ≡ Some x)
found_at p n [] k x e = absurd cc
found_at {X} p n (y ∷ ys) k x e = by (p (n, y)) e (found_at p (n + 1) ys k x)
  where
    by : (b : Bool) → cond {A = Option (ℕ × X)} b (Some (n, y)) (find p (enumerate_from (n + 1) ys)) ≡ Some (k, x) → (find p (enumerate_from (n + 1) ys) ≡ Some (k, x) → (j : ℕ) × (k ≡ n + 1 + j) × (slice_get ys j ≡ Some x))
        → (j : ℕ) × (k ≡ n + j) × (slice_get (y ∷ ys) j ≡ Some x)
    by true e more = let pair : ◌≡◌ {A = ℕ × X} (n, y) (k, x) = cc in (0, sym (ap (λ (p : ℕ × X). p.0) pair) ∙ sym (add-zero n), ap (λ (p : ℕ × X). Some p.1) pair)
    by false e more = let m = more e in (suc m.0, (let at : k ≡ n + 1 + m.0 = m.1 in omega arith), m.2)

option_good : (rows : List OptionRow) (before : List Given) (text : Text) (given : Given) → option_of rows before text ≡ Ok given → GoodOption rows given
option_good rows before text given e = by (position_or_len is_equals text == length text) e
  where
    valued : (row : ℕ) (option : OptionRow) (r : Result Value StackWhy) → slice_get rows row ≡ Some option → ((v : Value) → r ≡ Ok v → fits option.form (Some v) ≡ true) → with_row row r ≡ Ok given → GoodOption rows given
    valued row option (Ok v) is fit e = let same : record { row = row; value = v } ≡ given = cc in subst (GoodOption rows) same (record { option = option; row = is; fit = fit v refl })
    valued row option (Err why) is fit e = cc

    fresh : (row : ℕ) (option : OptionRow) (b : Bool) → slice_get rows row ≡ Some option → (if b then Err why.Repeat else with_row row (value_of option.form (after_first is_equals text))) ≡ Ok given → GoodOption rows given
    fresh row option true is e = cc
    fresh row option false is e = valued row option (value_of option.form (after_first is_equals text)) is (λ v r. value_fits option.form (after_first is_equals text) v r) e

    named : (o : Option (ℕ × OptionRow)) → option_named rows (before_first is_equals text) ≡ o → named_at before o (after_first is_equals text) ≡ Ok given → GoodOption rows given
    named None is e = cc
    named (Some (row, option)) is e =
        let f = found_at (λ p. bytes_eq p.1.name (before_first is_equals text)) 0 rows row option is in
        let at : row ≡ f.0 = f.1 ∙ omega arith in
        fresh row option (is_some (given_at before row)) (ap (λ (n : ℕ). slice_get rows n) at ∙ f.2) e

    by : (b : Bool) → (if b then Err why.Value else named_at before (option_named rows (before_first is_equals text)) (after_first is_equals text)) ≡ Ok given → GoodOption rows given
    by true e = cc
    by false e = named (option_named rows (before_first is_equals text)) refl e

-- each option that is given fits its row
abbrev pub AllGood : List OptionRow → List Given → Type 0
AllGood rows [] = Unit {0}
AllGood rows (given ∷ more) = GoodOption rows given × AllGood rows more

good_push : (rows : List OptionRow) (before : List Given) (given : Given) → AllGood rows before → GoodOption rows given → AllGood rows (before ++ given ∷ [])
good_push rows [] given all good = (good, tt)
good_push rows (first ∷ before) given all good = (all.0, good_push rows before given all.1 good)

placed_ok : {X : Type 0} (word at : ℕ) (read : Result X StackWhy) (x : X) → at_place word at read ≡ Ok x → read ≡ Ok x
placed_ok word at (Ok y) x e = let same : y ≡ x = cc in ap (λ z. Ok z) same
placed_ok word at (Err why) x e = cc

list_good : (rows : List OptionRow) (word at : ℕ) (text : Text) (given : List Given) → option_list rows word at text ≡ Ok given → AllGood rows given
list_good rows word at text given e = read_keeps (option_at rows word) (AllGood rows)
    (λ before part value all is. good_push rows before value all (option_good rows before part.1 value (placed_ok word part.0 (option_of rows before part.1) value is)))
    [] (placed_from at (slice_split is_colon text)) given tt e

behind_good : (rows : List OptionRow) (word at : ℕ) (text : Text) (given : List Given) → options_behind rows word at text ≡ Ok given → AllGood rows given
behind_good rows word at text given e = by (position_or_len is_colon text == length text) e
  where
    by : (b : Bool) → (if b then Ok [] else option_list rows word (at + length (before_first is_colon text) + 1) (after_first is_colon text)) ≡ Ok given → AllGood rows given
    by true e = let same : [] ≡ given = cc in subst (AllGood rows) same tt
    by false e = list_good rows word (at + length (before_first is_colon text) + 1) (after_first is_colon text) given e

-- what a row is given fits it
given_good : (rows : List OptionRow) (given : List Given) (row : ℕ) (option : OptionRow) (v : Value) → AllGood rows given → slice_get rows row ≡ Some option → given_at given row ≡ Some v → fits option.form (Some v) ≡ true
given_good rows [] row option v all is e = absurd cc
given_good rows (g ∷ gs) row option v all is e = by (g.row == row) refl e (given_good rows gs row option v all.1 is)
  where
    by : (b : Bool) → (g.row == row) ≡ b → option_map (λ given. given.value) (cond {A = Option Given} b (Some g) (find (λ given. given.row == row) gs)) ≡ Some v
        → (given_at gs row ≡ Some v → fits option.form (Some v) ≡ true) → fits option.form (Some v) ≡ true
    by true same e more =
        let at : g.row ≡ row = (Decides-eqb g.row row).0 same in
        let options : all.0.option ≡ option = (let both : slice_get rows g.row ≡ Some option = ap (λ (n : ℕ). slice_get rows n) at ∙ is in let row_is : slice_get rows g.row ≡ Some all.0.option = all.0.row in cc) in
        let value : g.value ≡ v = cc in
        (λ i. fits (sym options i).form (Some (sym value i))) ∙ all.0.fit
    by false other e more = more e

none_fits : (form : Form) → (not (needs form) || false) ≡ true → fits form None ≡ true
none_fits (Pin true) e = cc
none_fits (Pin false) e = refl
none_fits (Number least most usual) e = refl
none_fits (Choice words) e = refl

row_fits : (rows : List OptionRow) (given : List Given) (row : ℕ) (option : OptionRow) → AllGood rows given → slice_get rows row ≡ Some option
    → (not (needs option.form) || is_some (given_at given row)) ≡ true → fits option.form (given_at given row) ≡ true
row_fits rows given row option all is e = by (given_at given row) refl e
  where
    by : (o : Option Value) → given_at given row ≡ o → (not (needs option.form) || is_some o) ≡ true → fits option.form o ≡ true
    by None same e = none_fits option.form e
    by (Some v) same e = given_good rows given row option v all is same

rows_fit : (rows : List OptionRow) (given : List Given) (n : ℕ) (rest : List OptionRow) → AllGood rows given → ((j : ℕ) (option : OptionRow) → slice_get rest j ≡ Some option → slice_get rows (n + j) ≡ Some option)
    → list_all (λ p. not (needs p.1.form) || is_some (given_at given p.0)) (enumerate_from n rest) ≡ true → list_all (λ p. fits p.1.form (given_at given p.0)) (enumerate_from n rest) ≡ true
rows_fit rows given n [] all there e = refl
rows_fit rows given n (option ∷ rest) all there e =
    let parts = both (not (needs option.form) || is_some (given_at given n)) (list_all (λ p. not (needs p.1.form) || is_some (given_at given p.0)) (enumerate_from (n + 1) rest)) e in
    let zero_place : n + 0 ≡ n = omega arith in
    let here : slice_get rows n ≡ Some option = ap (λ (k : ℕ). slice_get rows k) (sym zero_place) ∙ there 0 option refl in
    join (fits option.form (given_at given n)) (list_all (λ p. fits p.1.form (given_at given p.0)) (enumerate_from (n + 1) rest)) (row_fits rows given n option all here parts.0)
    (rows_fit rows given (n + 1) rest all (λ j o is. let place : n + 1 + j ≡ n + suc j = omega arith in ap (λ (k : ℕ). slice_get rows k) place ∙ there (suc j) o is) parts.1)

-- the options that are read fit their kind
pub options_read_fit : (row : Row) (word : ℕ) (part : Placed) (given : List Given) → options_at row.options row.groups word part ≡ Ok given → options_fit row given ≡ true
options_read_fit row word part given e = by (options_behind row.options word part.0 part.1) refl e
  where
    has : List Given → Bool
    has read = has_groups (λ place. is_some (given_at read place)) row.groups

    not_false : (b : Bool) → not b ≡ false → b ≡ true
    not_false true e = refl
    not_false false e = cc

    fit : (read : List Given) → AllGood row.options read → is_missing row.options row.groups read ≡ false → options_fit row read ≡ true
    fit read all is =
        let parts = both (have_all row.options read) (has read) (not_false (have_all row.options read && has read) is) in
        join (each_fits row.options read) (has read) (rows_fit row.options read 0 row.options all (λ j o is. let place : 0 + j ≡ j = omega arith in ap (λ (k : ℕ). slice_get row.options k) place ∙ is) parts.0) parts.1

    kept : (read : List Given) (b : Bool) → is_missing row.options row.groups read ≡ b → AllGood row.options read → (if b then at_place word part.0 (Err why.Missing) else Ok read) ≡ Ok given → options_fit row given ≡ true
    kept read true is all e = cc
    kept read false is all e = let same : read ≡ given = cc in subst (λ (g : List Given). options_fit row g ≡ true) same (fit read all is)

    by : (r : Result (List Given) StackFault) → options_behind row.options word part.0 part.1 ≡ r → then_read r (unless_missing row.options row.groups word part.0) ≡ Ok given → options_fit row given ≡ true
    by (Ok read) is e = kept read (is_missing row.options row.groups read) refl (behind_good row.options word part.0 part.1 read is) e
    by (Err fault) is e = cc
