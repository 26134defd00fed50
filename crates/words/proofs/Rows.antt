-- The rows that uses make, and what they hold of an id.
use Rattle.std.proofs.Common.{◌≡◌, ◌||◌, Bool, true, false, cond, List, [], ◌∷◌, ◌++◌, Option, Some, None, refl, sym, ◌∙◌, ap, append_assoc, append-nil, find, option_map, map}
use Rattle.std.specs.Prelude.{is_some, slice_get, option_and_then}
use Rattle.std.specs.Str.{bytes_eq}
use Rattle.std.proofs.lemmas.Slice.Eq.{bytes_eq-Decides}
use Rattle.clap.specs.Walk.{Row, all_of, has_row, with_values, without}
use Rattle.clap.specs.declared.builder.value_parser.Reading.TheVariants.{AsWritten}
use Rattle.clap.specs.declared.parser.matches.ValueSource.TheVariants.{CommandLine}
use Rattle.words.specs.App.{chains_id, id_of, row_use, rows_of_uses, some_texts}
use Rattle.clap.specs.Walk.{first_of}
use Rattle.words.specs.Lexer.{Text}
use Rattle.words.specs.Options.{row}
use Rattle.words.specs.Settings.{use_of}
use Rattle.words.specs.Uses.{Used, chains_of, is_given, is_of}
use Rattle.words.specs.declared.options.Name.{Name}
use Rattle.words.specs.declared.options.Name.TheVariants.{Job, Format, Channels, Rate, Down, Csv, Header, Threads, Ring, Show, Binary, Seed, Count, From, Watch}

-- the values of an id, behind those that it has
abbrev pub joined : Option (List Text) → List Text → Option (List Text)
joined None [] = None
joined None (t ∷ ts) = Some (t ∷ ts)
joined (Some values) ts = Some (values ++ ts)

-- the texts of the uses with an id
abbrev pub texts_at : Text → List Used → List Text
texts_at id [] = []
texts_at id (u ∷ uses) = cond (bytes_eq (id_of u.name) id) (u.text ∷ texts_at id uses) (texts_at id uses)

joined_none : (o : Option (List Text)) → joined o [] ≡ o
joined_none None = refl
joined_none (Some values) = ap Some (append-nil values)

bytes_eq-same : (id q : Text) → bytes_eq id q ≡ true → id ≡ q
bytes_eq-same id q e = (bytes_eq-Decides id q).0 e

pub bytes_eq-refl : (id : Text) → bytes_eq id id ≡ true
bytes_eq-refl id = (bytes_eq-Decides id id).1 refl

abbrev found : Text → Text → List Row → List Row
found id value rows = with_values id AsWritten CommandLine (value ∷ []) rows

abbrev values : Row → List Text
values r = r.values

-- a row of the id gets one value more
all_of-here : (q value : Text) (rows : List Row) → all_of q (found q value rows) ≡ joined (all_of q rows) (value ∷ [])
all_of-here q value [] = rw (bytes_eq-refl q) refl
all_of-here q value (r ∷ rs) = by (bytes_eq r.id q) refl (all_of-here q value rs)
  where
    by : (b : Bool) → b ≡ bytes_eq r.id q → all_of q (found q value rs) ≡ joined (all_of q rs) (value ∷ []) → all_of q (found q value (r ∷ rs)) ≡ joined (all_of q (r ∷ rs)) (value ∷ [])
    by true e more = rw (sym e, sym e) refl
    by false e more = rw (sym e, sym e) more

-- a row of another id keeps its values
all_of-other : (id q value : Text) (rows : List Row) → bytes_eq id q ≡ false → all_of q (found id value rows) ≡ all_of q rows
all_of-other id q value [] e = rw e refl
all_of-other id q value (r ∷ rs) e = by (bytes_eq r.id id) refl (bytes_eq r.id q) refl (all_of-other id q value rs e)
  where
    by : (b : Bool) → b ≡ bytes_eq r.id id → (d : Bool) → d ≡ bytes_eq r.id q → all_of q (found id value rs) ≡ all_of q rs → all_of q (found id value (r ∷ rs)) ≡ all_of q (r ∷ rs)
    by true f true g more = let same : r.id ≡ id = bytes_eq-same r.id id (sym f) in
        let h : bytes_eq id q ≡ true = ap (λ t. bytes_eq t q) (sym same) ∙ sym g in cc
    by true f false g more = rw (sym f, sym g) refl
    by false f true g more = rw (sym f, sym g) refl
    by false f false g more = rw (sym f, sym g) more

joined_more : (o : Option (List Text)) (value : Text) (ts : List Text) → joined (joined o (value ∷ [])) ts ≡ joined o (value ∷ ts)
joined_more None value ts = refl
joined_more (Some vs) value ts = ap Some (append_assoc vs (value ∷ []) ts)

-- what the rows of uses hold of an id
pub all_of-uses : (q : Text) (rows : List Row) (uses : List Used) → all_of q (rows_of_uses rows uses) ≡ joined (all_of q rows) (texts_at q uses)
all_of-uses q rows [] = sym (joined_none (all_of q rows))
all_of-uses q rows (u ∷ uses) = all_of-uses q (row_use rows u) uses ∙ by (bytes_eq (id_of u.name) q) refl
  where
    by : (b : Bool) → b ≡ bytes_eq (id_of u.name) q → joined (all_of q (row_use rows u)) (texts_at q uses) ≡ joined (all_of q rows) (cond b (u.text ∷ texts_at q uses) (texts_at q uses))
    by true e = let same : id_of u.name ≡ q = bytes_eq-same (id_of u.name) q (sym e) in
        ap (λ id. joined (all_of q (found id u.text rows)) (texts_at q uses)) same
        ∙ ap (λ o. joined o (texts_at q uses)) (all_of-here q u.text rows) ∙ joined_more (all_of q rows) u.text (texts_at q uses)
    by false e = ap (λ o. joined o (texts_at q uses)) (all_of-other (id_of u.name) q u.text rows (sym e))

has_row-all_of : (q : Text) (rows : List Row) → has_row q rows ≡ is_some (all_of q rows)
has_row-all_of q [] = refl
has_row-all_of q (r ∷ rs) = by (bytes_eq r.id q) refl (has_row-all_of q rs)
  where
    by : (b : Bool) → b ≡ bytes_eq r.id q → has_row q rs ≡ is_some (all_of q rs) → has_row q (r ∷ rs) ≡ is_some (all_of q (r ∷ rs))
    by true e more = rw (sym e) refl
    by false e more = rw (sym e) more

other_ids : (name : Name) → bytes_eq (row name).name chains_id ≡ false
other_ids Job = refl
other_ids Format = refl
other_ids Channels = refl
other_ids Rate = refl
other_ids Down = refl
other_ids Csv = refl
other_ids Header = refl
other_ids Threads = refl
other_ids Ring = refl
other_ids Show = refl
other_ids Binary = refl
other_ids Seed = refl
other_ids Count = refl
other_ids From = refl
other_ids Watch = refl

-- a use is of an option where its id is that option's name
is_of-id : (name : Name) (o : Option Name) → bytes_eq (id_of o) (row name).name ≡ is_of name o
is_of-id name None = no_option name
  where
    no_option : (name : Name) → bytes_eq chains_id (row name).name ≡ false
    no_option Job = refl
    no_option Format = refl
    no_option Channels = refl
    no_option Rate = refl
    no_option Down = refl
    no_option Csv = refl
    no_option Header = refl
    no_option Threads = refl
    no_option Ring = refl
    no_option Show = refl
    no_option Binary = refl
    no_option Seed = refl
    no_option Count = refl
    no_option From = refl
    no_option Watch = refl
is_of-id name (Some other) = refl

texts_at-none : (name : Name) (uses : List Used) → is_given name uses ≡ false → texts_at (row name).name uses ≡ []
texts_at-none name [] e = refl
texts_at-none name (u ∷ uses) e = by (is_of name u.name) refl (texts_at-none name uses)
  where
    by : (b : Bool) → b ≡ is_of name u.name → (is_given name uses ≡ false → texts_at (row name).name uses ≡ []) → texts_at (row name).name (u ∷ uses) ≡ []
    by true f more = let bad : (true || is_given name uses) ≡ false = ap (λ c. c || is_given name uses) f ∙ e in cc
    by false f more = rw (is_of-id name u.name, sym f) (more (ap (λ c. c || is_given name uses) f ∙ e))

-- an option that wasn't given has no row
pub not_given-no_row : (name : Name) (uses : List Used) → is_given name uses ≡ false → has_row (row name).name (rows_of_uses [] uses) ≡ false
not_given-no_row name uses e = has_row-all_of (row name).name (rows_of_uses [] uses)
    ∙ ap is_some (all_of-uses (row name).name [] uses ∙ ap (joined None) (texts_at-none name uses e))

pub without_none : (id : Text) (rows : List Row) → has_row id rows ≡ false → without id rows ≡ rows
without_none id [] e = refl
without_none id (r ∷ rs) e = by (bytes_eq r.id id) refl (without_none id rs)
  where
    by : (b : Bool) → b ≡ bytes_eq r.id id → (has_row id rs ≡ false → without id rs ≡ rs) → without id (r ∷ rs) ≡ r ∷ rs
    by true f more = let bad : (true || has_row id rs) ≡ false = ap (λ c. c || has_row id rs) f ∙ e in cc
    by false f more = rw (sym f) (ap (λ rest. r ∷ rest) (more (ap (λ c. c || has_row id rs) f ∙ e)))

first_of-all_of : (q : Text) (rows : List Row) → first_of q rows ≡ option_and_then (λ vs. slice_get vs 0) (all_of q rows)
first_of-all_of q rows = by (find (λ r. bytes_eq r.id q) rows)
  where
    by : (o : Option Row) → option_and_then (λ r. slice_get r.values 0) o ≡ option_and_then (λ vs. slice_get vs 0) (option_map (λ r. r.values) o)
    by None = refl
    by (Some r) = refl

abbrev pub given_text : Name → List Used → Option Text
given_text name uses = option_map (λ u. u.text) (use_of name uses)

first_text : (name : Name) (uses : List Used) → option_and_then (λ vs. slice_get vs 0) (joined None (texts_at (row name).name uses)) ≡ given_text name uses
first_text name [] = refl
first_text name (u ∷ uses) = by (is_of name u.name) refl (first_text name uses)
  where
    by : (b : Bool) → b ≡ is_of name u.name → option_and_then (λ vs. slice_get vs 0) (joined None (texts_at (row name).name uses)) ≡ given_text name uses
        → option_and_then (λ vs. slice_get vs 0) (joined None (texts_at (row name).name (u ∷ uses))) ≡ given_text name (u ∷ uses)
    by true f more = rw (is_of-id name u.name, sym f) refl
    by false f more = rw (is_of-id name u.name, sym f) more

-- what `get_str` gives of an option is the value that is given
pub first_of-uses : (name : Name) (uses : List Used) → first_of (row name).name (rows_of_uses [] uses) ≡ given_text name uses
first_of-uses name uses = first_of-all_of (row name).name (rows_of_uses [] uses) ∙ ap (option_and_then (λ vs. slice_get vs 0)) (all_of-uses (row name).name [] uses) ∙ first_text name uses

texts_at-chains : (uses : List Used) → texts_at chains_id uses ≡ map (λ u. u.text) (chains_of uses)
texts_at-chains [] = refl
texts_at-chains (u ∷ uses) = by u.name refl (texts_at-chains uses)
  where
    by : (o : Option Name) → o ≡ u.name → texts_at chains_id uses ≡ map (λ u. u.text) (chains_of uses) → texts_at chains_id (u ∷ uses) ≡ map (λ u. u.text) (chains_of (u ∷ uses))
    by None is more = rw (sym is) (ap (λ rest. u.text ∷ rest) more)
    by (Some name) is more = rw (sym is, other_ids name) more

joined_nothing : (texts : List Text) → joined None texts ≡ some_texts texts
joined_nothing [] = refl
joined_nothing (t ∷ ts) = refl

-- what `get_strs` gives of the other words
pub all_of-chains : (uses : List Used) → all_of chains_id (rows_of_uses [] uses) ≡ some_texts (map (λ u. u.text) (chains_of uses))
all_of-chains uses = all_of-uses chains_id [] uses ∙ ap (joined None) (texts_at-chains uses) ∙ joined_nothing (map (λ u. u.text) (chains_of uses))
