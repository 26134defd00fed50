-- How `clap` walks over words without a fault.
use Rattle.std.proofs.Common.{◌≡◌, ℕ, ◌&&◌, Bool, true, false, List, [], ◌∷◌, Option, Some, None, refl, sym, ◌∙◌, ap}
use Rattle.std.specs.Str.{bytes_eq}
use Rattle.std.proofs.lemmas.Slice.Eq.{bytes_eq-Decides}
use Rattle.clap.specs.Lexer.{short_of}
use Rattle.clap.specs.Walk.{arg_by_id, arg_by_long, Held, Row, Rule, Waiting, Walk, has_row, idle, option, positional, settled_rows, walked, with_values, without}
use Rattle.clap.specs.Takes.{settle_passes, turn_passes}
use Rattle.clap.specs.Simple.{Shape, built, filled}
use Rattle.clap.specs.declared.builder.value_parser.Reading.TheVariants.{AsWritten}
use Rattle.clap.specs.declared.parser.matches.ValueSource.TheVariants.{CommandLine}
use Rattle.words.specs.App.{built_rules, option_rule, word_app}
use Rattle.words.specs.App.{chains_id}
use Rattle.words.specs.Lexer.{Text, begins_option, long_of}
use Rattle.words.specs.Options.{row}
use Rattle.words.specs.declared.options.Name.{Name}
use Rattle.words.specs.declared.options.Name.TheVariants.{Job, Format, Channels, Rate, Down, Csv, Header, Threads, Ring, Show, Binary, Seed, Count, From, Watch}

abbrev pub Pending : Type 0
Pending = Option (Text × List Text)

abbrev pub top : Shape
top = (built word_app).top

abbrev pub held : List Row → Pending → ℕ → Held
held rows pending skip = record { rows = rows; pending = pending; skip = skip }

-- a walk between two uses
abbrev pub resting : Bool → Waiting
resting true = positional
resting false = idle

abbrev pub at_rest : Bool → List Row → Pending → ℕ → Walk
at_rest b rows pending skip = record { held = held rows pending skip; waiting = resting b; position = 1; is_trailing = false; stopped = None }

abbrev pub settles : Pending → List Row → List Row
settles pending rows = settled_rows built_rules pending rows

abbrev pub passes : List Row → Pending → ℕ → Bool
passes rows pending skip = settle_passes built_rules false (held rows pending skip)

pub and_false : (b : Bool) → (b && false) ≡ false
and_false true = refl
and_false false = refl

-- a word that is no option, as the lexer sees it
pub record IsPlainWord (word : Text) : Type 0 where
  pub no_dashes : bytes_eq word (45 ∷ 45 ∷ []) ≡ false
  pub no_long : long_of word ≡ None
  pub no_short : short_of word ≡ None

pub plain_word_is : (word : Text) → begins_option word ≡ false → IsPlainWord word
plain_word_is [] e = record { no_dashes = refl; no_long = refl; no_short = refl }
plain_word_is (x ∷ xs) e = record { no_dashes = rw e refl; no_long = rw e refl; no_short = rw e refl }

pub chain_walked : (b : Bool) (rows : List Row) (pending : Pending) (skip : ℕ) (word : Text) → IsPlainWord word
    → walked built_rules [] (at_rest b rows pending skip) word ≡ at_rest true (settles pending rows) (Some (chains_id, word ∷ [])) skip
unfolding walked
chain_walked true rows None skip word is = rw (is.no_dashes, is.no_long, is.no_short) refl
chain_walked true rows (Some p) skip word is = rw (is.no_dashes, is.no_long, is.no_short, and_false (bytes_eq p.0 chains_id)) refl
chain_walked false rows None skip word is = rw (is.no_dashes, is.no_long, is.no_short) refl
chain_walked false rows (Some p) skip word is = rw (is.no_dashes, is.no_long, is.no_short, and_false (bytes_eq p.0 chains_id)) refl

pub chain_passes : (b : Bool) (rows : List Row) (pending : Pending) (skip : ℕ) (word : Text) → IsPlainWord word
    → passes rows pending skip ≡ true → turn_passes top [] (at_rest b rows pending skip) word ≡ true
chain_passes true rows None skip word is e = rw (is.no_dashes, is.no_long, is.no_short) refl
chain_passes true rows (Some p) skip word is e = rw (is.no_dashes, is.no_long, is.no_short, and_false (bytes_eq p.0 chains_id)) e
chain_passes false rows None skip word is e = rw (is.no_dashes, is.no_long, is.no_short) refl
chain_passes false rows (Some p) skip word is e = rw (is.no_dashes, is.no_long, is.no_short, and_false (bytes_eq p.0 chains_id)) e

-- a long option is no `--`
long_is_no_dashes : (word : Text) (p : Text × Option Text) → long_of word ≡ Some p → bytes_eq word (45 ∷ 45 ∷ []) ≡ false
long_is_no_dashes word p e = by (bytes_eq word (45 ∷ 45 ∷ [])) refl
  where
    by : (b : Bool) → b ≡ bytes_eq word (45 ∷ 45 ∷ []) → bytes_eq word (45 ∷ 45 ∷ []) ≡ false
    by false is = sym is
    by true is = let same : word ≡ 45 ∷ 45 ∷ [] = (bytes_eq-Decides word (45 ∷ 45 ∷ [])).0 (sym is) in
        let none : long_of (45 ∷ 45 ∷ []) ≡ Some p = ap long_of (sym same) ∙ e in cc

-- the row of a use
abbrev pub with_use : Text → Text → List Row → List Row
with_use id value rows = with_values id AsWritten CommandLine (value ∷ []) (without id rows)

-- an option is found by its name
abbrev pub built_option : Name → Rule
built_option name = filled (option_rule (row name).name)

by_long : (name : Name) → arg_by_long built_rules (row name).name ≡ Some (built_option name)
by_long Job = refl
by_long Format = refl
by_long Channels = refl
by_long Rate = refl
by_long Down = refl
by_long Csv = refl
by_long Header = refl
by_long Threads = refl
by_long Ring = refl
by_long Show = refl
by_long Binary = refl
by_long Seed = refl
by_long Count = refl
by_long From = refl
by_long Watch = refl

by_id : (name : Name) → arg_by_id built_rules (row name).name ≡ Some (built_option name)
by_id Job = refl
by_id Format = refl
by_id Channels = refl
by_id Rate = refl
by_id Down = refl
by_id Csv = refl
by_id Header = refl
by_id Threads = refl
by_id Ring = refl
by_id Show = refl
by_id Binary = refl
by_id Seed = refl
by_id Count = refl
by_id From = refl
by_id Watch = refl

bytes_eq-refl : (id : Text) → bytes_eq id id ≡ true
bytes_eq-refl id = (bytes_eq-Decides id id).1 refl

-- `--name=value`
pub joined_walked : (b : Bool) (rows : List Row) (pending : Pending) (skip : ℕ) (word : Text) (name : Name) (value : Text) → long_of word ≡ Some ((row name).name, Some value)
    → walked built_rules [] (at_rest b rows pending skip) word ≡ at_rest false (with_use (row name).name value (settles pending rows)) None skip
unfolding walked
joined_walked true rows pending skip word name value e = rw (long_is_no_dashes word _ e, e, by_long name) refl
joined_walked false rows pending skip word name value e = rw (long_is_no_dashes word _ e, e, by_long name) refl

pub joined_passes : (b : Bool) (rows : List Row) (pending : Pending) (skip : ℕ) (word : Text) (name : Name) (value : Text) → long_of word ≡ Some ((row name).name, Some value)
    → passes rows pending skip ≡ true → has_row (row name).name (settles pending rows) ≡ false
    → turn_passes top [] (at_rest b rows pending skip) word ≡ true
joined_passes true rows pending skip word name value e good new = rw (long_is_no_dashes word _ e, e, by_long name, good, new) refl
joined_passes false rows pending skip word name value e good new = rw (long_is_no_dashes word _ e, e, by_long name, good, new) refl

-- a walk that waits for the value of an option
abbrev pub at_option : Name → List Row → ℕ → Walk
at_option name rows skip = record { held = held rows (Some ((row name).name, [])) skip; waiting = option (row name).name; position = 1; is_trailing = false; stopped = None }

-- `--name`
pub name_walked : (b : Bool) (rows : List Row) (pending : Pending) (skip : ℕ) (word : Text) (name : Name) → long_of word ≡ Some ((row name).name, None)
    → walked built_rules [] (at_rest b rows pending skip) word ≡ at_option name (settles pending rows) skip
unfolding walked
name_walked true rows pending skip word name e = rw (long_is_no_dashes word _ e, e, by_long name) refl
name_walked false rows pending skip word name e = rw (long_is_no_dashes word _ e, e, by_long name) refl

pub name_passes : (b : Bool) (rows : List Row) (pending : Pending) (skip : ℕ) (word : Text) (name : Name) → long_of word ≡ Some ((row name).name, None)
    → passes rows pending skip ≡ true → turn_passes top [] (at_rest b rows pending skip) word ≡ true
name_passes true rows pending skip word name e good = rw (long_is_no_dashes word _ e, e, by_long name, good) refl
name_passes false rows pending skip word name e good = rw (long_is_no_dashes word _ e, e, by_long name, good) refl

-- the value behind `--name`
pub value_walked : (rows : List Row) (skip : ℕ) (word : Text) (name : Name) → IsPlainWord word
    → walked built_rules [] (at_option name rows skip) word ≡ at_rest false rows (Some ((row name).name, word ∷ [])) skip
unfolding walked
value_walked rows skip word name is = rw (is.no_dashes, is.no_long, is.no_short, by_id name, bytes_eq-refl (row name).name) refl

pub value_passes : (rows : List Row) (skip : ℕ) (word : Text) (name : Name) → IsPlainWord word
    → turn_passes top [] (at_option name rows skip) word ≡ true
value_passes rows skip word name is = rw (is.no_dashes, is.no_long, is.no_short) refl

-- what then waits settles to its row, where the option is new
pub value_settles : (rows : List Row) (word : Text) (name : Name) → settles (Some ((row name).name, word ∷ [])) rows ≡ with_use (row name).name word rows
value_settles rows word name = rw (by_id name) refl

pub value_settle_passes : (rows : List Row) (skip : ℕ) (word : Text) (name : Name) → has_row (row name).name rows ≡ false → passes rows (Some ((row name).name, word ∷ [])) skip ≡ true
value_settle_passes rows skip word name new = rw (by_id name, new) refl

pub chain_settles : (rows : List Row) (word : Text) → settles (Some (chains_id, word ∷ [])) rows ≡ with_values chains_id AsWritten CommandLine (word ∷ []) rows
chain_settles rows word = refl

pub chain_settle_passes : (rows : List Row) (skip : ℕ) (word : Text) → passes rows (Some (chains_id, word ∷ [])) skip ≡ true
chain_settle_passes rows skip word = refl
