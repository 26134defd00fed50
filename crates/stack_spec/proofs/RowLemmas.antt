-- Rows that are bound one after another.
use Rattle.std.proofs.Common.{◌≡◌, ℕ, zero, suc, ◌+◌, ◌-◌, ◌<◌, ◌≤◌, Bool, true, false, not, if◌then◌else◌, List, [], ◌∷◌, ◌++◌, length, map, drop, replicate, get_or, Option, Some, None, Result, Ok, Err, refl, sym, ◌∙◌, ap, subst, arith, append_assoc}
use Rattle.std.specs.Prelude.{nat_lt, ◌&&◌, ◌||◌, is_some}
use Rattle.std.specs.List.{list_all, list_any, enumerate_from, zip}
use Rattle.std.proofs.lemmas.Bool.Decides.{nat_tests}
use Rattle.std.proofs.Math.ListN.{set}
use Rattle.std.proofs.lemmas.List.{append-nil, length_push, at_drop_more, at_drop_all, length-map}
use Rattle.text_parts.specs.Reading.{read_parts, then_read}
use Rattle.text_parts.proofs.ReadLemmas.{map-push}
use Rattle.cond_words.proofs.PinLemmas.{uses_more}
use Rattle.cond_words.specs.declared.faults.BindWhy.{BindWhy}
use Rattle.cond_words.specs.declared.faults.BindWhy.TheVariants as why
use Rattle.la_base.specs.Naming.{find_channel}
use Rattle.la_base.specs.declared.samples.Rate.{Rate}
use Rattle.decoder_core.specs.declared.faults.OptFault.{OptFault}
use Rattle.decoder_core.specs.declared.faults.OptFault.TheVariants as opt
use Rattle.kind_table.specs.Kinds.{Form, OptionRow, Pin, Number, Choice, kind_row}
use Rattle.decoder_set.specs.Faults.{open_fault, too_slow}
use Rattle.kind_table.specs.Values.{takes, has_groups, in_range, row_in_range}
use Rattle.kind_table.specs.Values as set_values
use Rattle.kind_table.proofs.WholeRows.{kind_whole}
use Rattle.kind_table.specs.declared.kinds.Kind.{Kind}
use Rattle.stack_spec.specs.Binding.{RowBound, Absent, Plain, On, channels, with_channels, at_item, bit_of, on_channel, bind_value, row_at, given_rows, value_of, values_of, rows_bound}
use Rattle.stack_spec.specs.BindSteps.{pins_behind, BindsRow, BindsRows}
use Rattle.stack_words.specs.Instances.{Value, Channel, Given, Instance, given_at}
use Rattle.stack_words.specs.Instances as value
use Rattle.stack_words.specs.Sound.{each_fits, fits, options_fit}
use Rattle.stack_words.proofs.OptionLemmas.{both, join}

-- reading goes on behind a part
pub parts_turn : {P V F : Type 0} (judge : List V → P → Result V F) (before : List V) (parts : List P) (k : ℕ) (part : P) → k < length parts → get_or parts k part ≡ part
    → read_parts judge before (drop k parts) ≡ then_read (judge before part) (λ value. read_parts judge (before ++ value ∷ []) (drop (k + 1) parts))
parts_turn judge before parts k part within is = at_drop_more (λ ps. read_parts judge before ps) parts k part within ∙ ap (λ p. read_parts judge before (p ∷ drop (k + 1) parts)) is

channels_push : (rows : List RowBound) (row : RowBound) → channels (rows ++ row ∷ []) ≡ channels rows ++ channels (row ∷ [])
channels_push [] row = refl
channels_push (Absent ∷ rows) row = channels_push rows row
channels_push (Plain n ∷ rows) row = channels_push rows row
channels_push (On c b ∷ rows) row = ap (λ (l : List ℕ). c ∷ l) (channels_push rows row)

-- the pins behind one more row
pins_push : (pins : List ℕ) (rows : List RowBound) (row : RowBound) → with_channels pins (channels (rows ++ row ∷ [])) ≡ pins_behind (with_channels pins (channels rows)) row
pins_push pins rows Absent = ap (with_channels pins) (channels_push rows Absent ∙ append-nil (channels rows))
pins_push pins rows (Plain n) = ap (with_channels pins) (channels_push rows (Plain n) ∙ append-nil (channels rows))
pins_push pins rows (On c b) = ap (with_channels pins) (channels_push rows (On c b)) ∙ uses_more pins (channels rows) c

set_at : {X : Type 0} (xs ys : List X) (y v : X) → set (xs ++ y ∷ ys) (length xs) v ≡ xs ++ v ∷ ys
set_at [] ys y v = refl
set_at (x ∷ xs) ys y v = ap (λ l. x ∷ l) (set_at xs ys y v)

rest_more : (n : ℕ) → n < 8 → replicate {A = Option ℕ} (8 - n) None ≡ None ∷ replicate (8 - (n + 1)) None
rest_more n low = (let more : 8 - n ≡ suc (8 - (n + 1)) = omega arith in ap (λ (k : ℕ). replicate {A = Option ℕ} k None) more)

values_push : (rows : List RowBound) (row : RowBound) → length rows < 8 → set (values_of rows) (length rows) (value_of row) ≡ values_of (rows ++ row ∷ [])
values_push rows row low =
    let values = map value_of rows in
    let size : length values ≡ length rows = length-map rows value_of in
    let more : length (rows ++ row ∷ []) ≡ length rows + 1 = length_push rows row in
    ap (λ (l : List (Option ℕ)). set (values ++ l) (length rows) (value_of row)) (rest_more (length rows) low)
    ∙ ap (λ (k : ℕ). set (values ++ None ∷ replicate (8 - (length rows + 1)) None) k (value_of row)) (sym size)
    ∙ set_at values (replicate (8 - (length rows + 1)) None) None (value_of row)
    ∙ sym (append_assoc values (value_of row ∷ []) (replicate (8 - (length rows + 1)) None))
    ∙ (λ i. sym (map-push value_of rows row) i ++ replicate (8 - sym more i) None)

-- the first k rows are bound
pub record RowsSoFar (most : ℕ) (names : List (List ℕ)) (pins : List ℕ) (entry : ℕ) (instance : Instance) (k : ℕ) (now : List ℕ) (values : List (Option ℕ)) : Type 0 where
  pub rows : List RowBound
  pub reads : rows_bound most names pins entry instance ≡ read_parts (row_at most names pins entry) rows (drop k (given_rows instance))
  pub count : length rows ≡ k
  pub now_is : now ≡ with_channels pins (channels rows)
  pub values_are : values ≡ values_of rows

-- what a row is given, with its place
pub row_given : (options : List Given) (n : ℕ) (rows : List OptionRow) (k : ℕ) (d : ℕ × Option Value) → k < length rows → get_or (map (λ p. (p.0, given_at options p.0)) (enumerate_from n rows)) k d ≡ (n + k, given_at options (n + k))
row_given options n [] k d within = absurd (omega (arith, within))
row_given options n (row ∷ rows) zero d within = (let same : n ≡ n + 0 = omega arith in ap (λ (m : ℕ). (m, given_at options m)) same)
row_given options n (row ∷ rows) (suc k) d within = row_given options (n + 1) rows k d (omega (arith, within)) ∙ (let same : n + 1 + k ≡ n + suc k = omega arith in ap (λ (m : ℕ). (m, given_at options m)) same)

pub given_count : (options : List Given) (n : ℕ) (rows : List OptionRow) → length {A = ℕ × Option Value} (map (λ p. (p.0, given_at options p.0)) (enumerate_from n rows)) ≡ length rows
given_count options n [] = refl
given_count options n (row ∷ rows) = ap (λ (k : ℕ). suc k) (given_count options (n + 1) rows)

pub none_bound : (most : ℕ) (names : List (List ℕ)) (pins : List ℕ) (entry : ℕ) (instance : Instance) → RowsSoFar most names pins entry instance 0 pins (values_of [])
none_bound most names pins entry instance = record { rows = []; reads = refl; count = refl; now_is = sym (append-nil pins); values_are = refl }

module _ (most : ℕ) (names : List (List ℕ)) (pins : List ℕ) (entry : ℕ) (instance : Instance) (k : ℕ) (now : List ℕ) (values : List (Option ℕ)) (s : RowsSoFar most names pins entry instance k now values)
    (within : k < length (kind_row instance.kind).options) where
  abbrev here : Result RowBound BindWhy
  here = bind_value most names now (given_at instance.options k)

  abbrev rows : List OptionRow
  rows = (kind_row instance.kind).options

  turn : rows_bound most names pins entry instance ≡ then_read (at_item entry k here) (λ row. read_parts (row_at most names pins entry) (s.rows ++ row ∷ []) (drop (k + 1) (given_rows instance)))
  turn =
      let inside : k < length (given_rows instance) = omega (arith, within, given_count instance.options 0 rows) in
      let part = row_given instance.options 0 rows k (k, given_at instance.options k) within in
      let place : 0 + k ≡ k = omega arith in
      s.reads
      ∙ parts_turn (row_at most names pins entry) s.rows (given_rows instance) k (k, given_at instance.options k) inside (part ∙ ap (λ (m : ℕ). (m, given_at instance.options m)) place)
      ∙ ap (λ (l : List ℕ). then_read (at_item entry k (bind_value most names l (given_at instance.options k))) (λ row. read_parts (row_at most names pins entry) (s.rows ++ row ∷ []) (drop (k + 1) (given_rows instance)))) (sym s.now_is)

  -- a row more
  pub rows_more : (new : List ℕ) (v : Option ℕ) → k < 8 → BindsRow here now new v → RowsSoFar most names pins entry instance (k + 1) new (set values k v)
  rows_more new v low b = record {
    rows = s.rows ++ b.row ∷ [];
    reads = turn ∙ ap (λ (r : Result RowBound BindWhy). then_read (at_item entry k r) (λ row. read_parts (row_at most names pins entry) (s.rows ++ row ∷ []) (drop (k + 1) (given_rows instance)))) b.reads;
    count = length_push s.rows b.row ∙ ap (λ (n : ℕ). n + 1) s.count;
    now_is = b.pins ∙ ap (λ (l : List ℕ). pins_behind l b.row) s.now_is ∙ sym (pins_push pins s.rows b.row);
    values_are = (λ i. set (s.values_are i) (sym s.count i) (b.value_is i)) ∙ values_push s.rows b.row (subst (λ (n : ℕ). n < 8) (sym s.count) low);
  }

  -- a row with a fault
  pub rows_stop : (reason : BindWhy) → here ≡ Err reason → rows_bound most names pins entry instance ≡ Err (record { entry = entry; item = k; why = reason })
  rows_stop reason bad = turn ∙ ap (λ (r : Result RowBound BindWhy). then_read (at_item entry k r) (λ row. read_parts (row_at most names pins entry) (s.rows ++ row ∷ []) (drop (k + 1) (given_rows instance)))) bad

-- behind the last row
pub rows_end : (most : ℕ) (names : List (List ℕ)) (pins : List ℕ) (entry : ℕ) (instance : Instance) (k : ℕ) (now : List ℕ) (values : List (Option ℕ)) → RowsSoFar most names pins entry instance k now values
    → length (kind_row instance.kind).options ≤ k → BindsRows (rows_bound most names pins entry instance) pins now values
rows_end most names pins entry instance k now values s past = record {
  rows = s.rows;
  reads = s.reads ∙ at_drop_all (λ ps. read_parts (row_at most names pins entry) s.rows ps) (given_rows instance) k (omega (arith, past, given_count instance.options 0 (kind_row instance.kind).options));
  pins = s.now_is;
  values_are = s.values_are;
}

takes_number : (most least high usual number : ℕ) → fits (Number least high usual) (Some (value.Number number)) ≡ true → takes most (Number least high usual) (Some number) ≡ true
takes_number most least high usual number e = e

-- a row that is bound takes its value
row_takes : (most : ℕ) (names : List (List ℕ)) (pins : List ℕ) (form : Form) (o : Option Value) (row : RowBound) → bind_value most names pins o ≡ Ok row → fits form o ≡ true → takes most form (value_of row) ≡ true
row_takes most names pins (Pin required) None row e fit = let same : Absent ≡ row = cc in ap (λ (r : RowBound). takes most (Pin required) (value_of r)) (sym same) ∙ fit
row_takes most names pins (Number least high usual) None row e fit = let same : Absent ≡ row = cc in ap (λ (r : RowBound). takes most (Number least high usual) (value_of r)) (sym same)
row_takes most names pins (Choice words) None row e fit = let same : Absent ≡ row = cc in ap (λ (r : RowBound). takes most (Choice words) (value_of r)) (sym same)
row_takes most names pins (Pin required) (Some (value.Number number)) row e fit = cc
row_takes most names pins (Number least high usual) (Some (value.Number number)) row e fit = let same : Plain number ≡ row = cc in ap (λ (r : RowBound). takes most (Number least high usual) (value_of r)) (sym same) ∙ fit
row_takes most names pins (Choice words) (Some (value.Number number)) row e fit = let same : Plain number ≡ row = cc in ap (λ (r : RowBound). takes most (Choice words) (value_of r)) (sym same) ∙ fit
row_takes most names pins (Pin required) (Some (Channel reference)) row e fit = found (find_channel names reference) e
  where
    bound : (channel : ℕ) (b : Bool) → nat_lt (bit_of pins channel) most ≡ b → (if b then Ok (On channel (bit_of pins channel)) else Err why.TooMany) ≡ Ok row → takes most (Pin required) (value_of row) ≡ true
    bound channel true is e = let same : On channel (bit_of pins channel) ≡ row = cc in ap (λ (r : RowBound). takes most (Pin required) (value_of r)) (sym same) ∙ is
    bound channel false is e = cc

    found : (o : Option ℕ) → on_channel most pins o ≡ Ok row → takes most (Pin required) (value_of row) ≡ true
    found None e = cc
    found (Some channel) e = bound channel (nat_lt (bit_of pins channel) most) refl e
row_takes most names pins (Number least high usual) (Some (Channel reference)) row e fit = cc
row_takes most names pins (Choice words) (Some (Channel reference)) row e fit = cc

-- what is given has a value when it is bound, and nothing else has
bound_is_given : (most : ℕ) (names : List (List ℕ)) (pins : List ℕ) (o : Option Value) (row : RowBound) → bind_value most names pins o ≡ Ok row → is_some o ≡ is_some (value_of row)
bound_is_given most names pins None row e = let same : Absent ≡ row = cc in ap (λ (r : RowBound). is_some (value_of r)) same
bound_is_given most names pins (Some (value.Number number)) row e = let same : Plain number ≡ row = cc in ap (λ (r : RowBound). is_some (value_of r)) same
bound_is_given most names pins (Some (Channel reference)) row e = found (find_channel names reference) e
  where
    bound : (channel : ℕ) (b : Bool) → (if b then Ok (On channel (bit_of pins channel)) else Err why.TooMany) ≡ Ok row → true ≡ is_some (value_of row)
    bound channel true e = let same : On channel (bit_of pins channel) ≡ row = cc in ap (λ (r : RowBound). is_some (value_of r)) same
    bound channel false e = cc

    found : (o : Option ℕ) → on_channel most pins o ≡ Ok row → true ≡ is_some (value_of row)
    found None e = cc
    found (Some channel) e = bound channel (nat_lt (bit_of pins channel) most) e

-- rows that are bound behind others: each takes its value, and has one where it is given
record RowsTaken (most : ℕ) (options : List Given) (n : ℕ) (forms : List OptionRow) (before rows : List RowBound) (behind : List (Option ℕ)) : Type 0 where
  more : List RowBound
  rows_are : rows ≡ before ++ more
  take_all : list_all (λ p. takes most p.0.form p.1) (zip forms (map value_of more ++ behind)) ≡ true
  given : (k : ℕ) → k < length forms → is_some (given_at options (n + k)) ≡ is_some (set_values.given_at (map value_of more ++ behind) k)

rows_take : (most : ℕ) (names : List (List ℕ)) (pins : List ℕ) (entry : ℕ) (options : List Given) (n : ℕ) (forms : List OptionRow) (before rows : List RowBound) (behind : List (Option ℕ))
    → read_parts (row_at most names pins entry) before (map (λ p. (p.0, given_at options p.0)) (enumerate_from n forms)) ≡ Ok rows → list_all (λ p. fits p.1.form (given_at options p.0)) (enumerate_from n forms) ≡ true
    → RowsTaken most options n forms before rows behind
rows_take most names pins entry options n [] before rows behind e fit =
    let same : before ≡ rows = cc in
    record { more = []; rows_are = sym same ∙ sym (append-nil before); take_all = refl; given = λ k within. absurd (omega (arith, within)) }
rows_take most names pins entry options n (form ∷ forms) before rows behind e fit = by (bind_value most names (with_channels pins (channels before)) (given_at options n)) refl e (λ row r. rows_take most names pins entry options (n + 1) forms (before ++ row ∷ []) rows behind r parts.1)
  where
    parts : (fits form.form (given_at options n) ≡ true) × (list_all (λ p. fits p.1.form (given_at options p.0)) (enumerate_from (n + 1) forms) ≡ true)
    parts = both (fits form.form (given_at options n)) (list_all (λ p. fits p.1.form (given_at options p.0)) (enumerate_from (n + 1) forms)) fit

    at : (row : RowBound) (values : List (Option ℕ)) → is_some (given_at options n) ≡ is_some (value_of row) → ((k : ℕ) → k < length forms → is_some (given_at options (n + 1 + k)) ≡ is_some (set_values.given_at values k))
        → (k : ℕ) → k < length (form ∷ forms) → is_some (given_at options (n + k)) ≡ is_some (set_values.given_at (value_of row ∷ values) k)
    at row values here more zero within = (let same : n + 0 ≡ n = omega arith in ap (λ (m : ℕ). is_some (given_at options m)) same) ∙ here
    at row values here more (suc k) within = (let same : n + suc k ≡ n + 1 + k = omega arith in ap (λ (m : ℕ). is_some (given_at options m)) same) ∙ more k (omega (arith, within))

    by : (r : Result RowBound BindWhy) → bind_value most names (with_channels pins (channels before)) (given_at options n) ≡ r
        → then_read (at_item entry n r) (λ row. read_parts (row_at most names pins entry) (before ++ row ∷ []) (map (λ p. (p.0, given_at options p.0)) (enumerate_from (n + 1) forms))) ≡ Ok rows
        → ((row : RowBound) → read_parts (row_at most names pins entry) (before ++ row ∷ []) (map (λ p. (p.0, given_at options p.0)) (enumerate_from (n + 1) forms)) ≡ Ok rows
        → RowsTaken most options (n + 1) forms (before ++ row ∷ []) rows behind) → RowsTaken most options n (form ∷ forms) before rows behind
    by (Ok row) is e next =
        let m = next row e in
        let bound = with_channels pins (channels before) in
        record {
          more = row ∷ m.more;
          rows_are = m.rows_are ∙ append_assoc before (row ∷ []) m.more;
          take_all = join (takes most form.form (value_of row)) (list_all (λ p. takes most p.0.form p.1) (zip forms (map value_of m.more ++ behind))) (row_takes most names bound form.form (given_at options n) row is parts.0) m.take_all;
          given = at row (map value_of m.more ++ behind) (bound_is_given most names bound (given_at options n) row is) m.given;
        }
    by (Err why) is e next = cc

-- groups of places below a bound, by two tests that agree there
any_same : (p q : ℕ → Bool) (count : ℕ) → ((k : ℕ) → k < count → p k ≡ q k) → (group : List ℕ) → list_all (λ place. nat_lt place count) group ≡ true → list_any p group ≡ list_any q group
any_same p q count same [] below = refl
any_same p q count same (place ∷ group) below =
    let parts = both (nat_lt place count) (list_all (λ k. nat_lt k count) group) below in
    let test = parts.0 in
    let low : place < count = grind (arith, nat_tests) in
    (λ i. same place low i || any_same p q count same group parts.1 i)

groups_same : (p q : ℕ → Bool) (count : ℕ) → ((k : ℕ) → k < count → p k ≡ q k) → (groups : List (List ℕ)) → list_all (λ group. list_all (λ place. nat_lt place count) group) groups ≡ true → has_groups p groups ≡ has_groups q groups
groups_same p q count same [] below = refl
groups_same p q count same (group ∷ groups) below =
    let parts = both (list_all (λ k. nat_lt k count) group) (list_all (λ group. list_all (λ place. nat_lt place count) group) groups) below in
    (λ i. any_same p q count same group parts.0 i && groups_same p q count same groups parts.1 i)

-- the values of an instance that is bound are in range
pub rows_in_range : (most : ℕ) (names : List (List ℕ)) (pins : List ℕ) (entry : ℕ) (instance : Instance) (rows : List RowBound) → rows_bound most names pins entry instance ≡ Ok rows
    → options_fit (kind_row instance.kind) instance.options ≡ true → in_range most instance.kind (values_of rows) ≡ true
rows_in_range most names pins entry instance rows e fit =
    let row = kind_row instance.kind in
    let behind = replicate {A = Option ℕ} (8 - length rows) None in
    let is_given = λ (place : ℕ). is_some (given_at instance.options place) in
    let parts = both (each_fits row.options instance.options) (has_groups is_given row.groups) fit in
    let r = rows_take most names pins entry instance.options 0 row.options [] rows behind e parts.0 in
    let given = λ (k : ℕ) (within : k < length row.options). (let same : k ≡ 0 + k = omega arith in ap is_given same) ∙ r.given k within in
    let groups = sym (groups_same is_given (λ place. is_some (set_values.given_at (map value_of r.more ++ behind) place)) (length row.options) given row.groups (kind_whole instance.kind).groups) ∙ parts.1 in
    ap (λ (l : List RowBound). row_in_range most row (map value_of l ++ behind)) r.rows_are
    ∙ join (list_all (λ p. takes most p.0.form p.1) (zip row.options (map value_of r.more ++ behind))) (has_groups (λ place. is_some (set_values.given_at (map value_of r.more ++ behind) place)) row.groups) r.take_all groups

-- what an opened decoder, and one that isn't, say of the rate
pub not_slow : (most : ℕ) (kind : Kind) (values : List (Option ℕ)) (rate : Rate) → in_range most kind values ≡ true → open_fault most kind values rate ≡ None → too_slow kind values rate ≡ false
not_slow most kind values rate range e = by (in_range most kind values) (too_slow kind values rate) range e
  where
    by : (a b : Bool) → a ≡ true → (if not a then Some opt.Range else if b then Some opt.Rate else None) ≡ None → b ≡ false
    by true true r e = absurd cc
    by true false r e = refl
    by false b r e = absurd cc

pub slow : (most : ℕ) (kind : Kind) (values : List (Option ℕ)) (rate : Rate) (reason : OptFault) → in_range most kind values ≡ true → open_fault most kind values rate ≡ Some reason → too_slow kind values rate ≡ true
slow most kind values rate reason range e = by (in_range most kind values) (too_slow kind values rate) range e
  where
    by : (a b : Bool) → a ≡ true → (if not a then Some opt.Range else if b then Some opt.Rate else None) ≡ Some reason → b ≡ true
    by true true r e = refl
    by true false r e = absurd cc
    by false b r e = absurd cc
