-- What the words set, or their first fault.
use Rattle.std.specs.Prelude.{◌≡◌, ℕ, ◌==◌, nat_lt, Bool, List, [], ◌∷◌, length, map, slice_get}
use Rattle.std.specs.Prelude.{find, Option, Some, None, Result, Ok, Err, IfSome, if◌then◌else◌}
use Rattle.std.specs.Prelude.{codes, option_map, option_and_then, unwrap_or}
use Rattle.std.specs.Option.{option_or}
use Rattle.std.specs.Str.{bytes_eq}
use Rattle.std.specs.String.{string_bytes}
use Rattle.text_parts.specs.Chains.{WordText, chain_of}
use Rattle.la_base.specs.Naming.{number_after}
use Rattle.text_parts.specs.Reading.{then_read}
use Rattle.cond_words.specs.Words.{Meaning}
use Rattle.cond_words.specs.Grammar.{terms_of}
use Rattle.cond_words.specs.declared.words.CondFault.{CondFault}
use Rattle.words.specs.Lexer.{Text}
use Rattle.words.specs.Options.{row}
use Rattle.words.specs.Rates.{RateNumbers, numbers_of, rate_written}
use Rattle.words.specs.Uses.{Used, chains_of, is_of, uses_of, why_value}
use Rattle.words.specs.declared.kinds.Format.{Format}
use Rattle.words.specs.declared.kinds.Format.TheVariants.{Raw, Vcd, Csv}
use Rattle.la_base.specs.declared.modes.CsvMode.{CsvMode}
use Rattle.la_base.specs.declared.modes.CsvMode.TheVariants.{Rows, Times}
use Rattle.words.specs.declared.kinds.Job.{Job}
use Rattle.words.specs.declared.kinds.Job.TheVariants.{Decode, Find, Make, Part}
use Rattle.words.specs.declared.kinds.WordCount.{WordCount}
use Rattle.words.specs.declared.kinds.WordWhy.{WordWhy}
use Rattle.words.specs.declared.kinds.WordWhy.TheVariants as why
use Rattle.words.specs.declared.kinds.WordFault.{WordFault}
use Rattle.words.specs.declared.options.Name.{Name}
use Rattle.words.specs.declared.options.Name.TheVariants as name
use Rattle.words.specs.declared.settings.Settings.{Settings}

-- the value of each option, and the words that are no options
pub record Values : Type 0 where
  pub job : Job
  pub format : Format
  pub channels : ℕ
  pub rate : RateNumbers
  pub down : ℕ
  pub csv : CsvMode
  pub header : Bool
  pub threads : Bool
  pub ring : ℕ
  pub show : Option WordText
  pub binary : Option WordText
  pub seed : ℕ
  pub count : ℕ
  pub from : Option Text
  pub watch : Bool
  pub chains : List WordText

-- the number and the text of a use
abbrev pub word_text : Used → WordText
word_text u = record { word = u.word; text = u.text }

-- the use of an option
abbrev pub use_of : Name → List Used → Option Used
use_of name uses = find (λ u. is_of name u.name) uses

-- the value of an option: the one that is given, else the usual one, if there is one
abbrev pub value_of : Name → List Used → Option Text
value_of name uses = option_or (option_map (λ u. u.text) (use_of name uses)) (row name).usual

-- its text, which is empty where there is no value
abbrev pub text_of : Name → List Used → Text
text_of name uses = unwrap_or (value_of name uses) []

-- each value keeps to the rules of its option
abbrev pub AreGood : List Used → Type 0
AreGood uses =
    (name : Name) → IfSome (value_of name uses) (λ text. why_value (row name).takes text ≡ None)

-- the job that a good value names
abbrev pub job_named : Text → Job
job_named text =
    if bytes_eq text (codes "find") then Find else if bytes_eq text (codes "make") then Make
    else if bytes_eq text (codes "part") then Part else Decode

-- the form of capture that a good value names
abbrev pub format_named : Text → Format
format_named text =
    if bytes_eq text (codes "vcd") then Vcd else if bytes_eq text (codes "csv") then Csv else Raw

-- what the records of a CSV capture are that a good value names
abbrev pub csv_named : Text → CsvMode
csv_named text = if bytes_eq text (codes "times") then Times else Rows

-- a good value is `yes` or `no`
abbrev pub is_yes : Text → Bool
is_yes text = bytes_eq text (codes "yes")

-- `all` asks for no choice
abbrev pub unless_all : Used → Option WordText
unless_all u = if bytes_eq u.text (codes "all") then None else Some (word_text u)

-- what uses set
abbrev pub values_of : List Used → Values
values_of uses = record {
  job = job_named (text_of name.Job uses);
  format = format_named (text_of name.Format uses);
  channels = number_after 0 (text_of name.Channels uses);
  rate = rate_written (text_of name.Rate uses);
  down = number_after 0 (text_of name.Down uses);
  csv = csv_named (text_of name.Csv uses);
  header = is_yes (text_of name.Header uses);
  threads = is_yes (text_of name.Threads uses);
  ring = number_after 0 (text_of name.Ring uses);
  show = option_and_then unless_all (use_of name.Show uses);
  binary = option_map word_text (use_of name.Binary uses);
  seed = number_after 0 (text_of name.Seed uses);
  count = number_after 0 (text_of name.Count uses);
  from = value_of name.From uses;
  watch = is_yes (text_of name.Watch uses);
  chains = map word_text (chains_of uses);
}

-- how many chains, or alternatives, a job takes
abbrev pub words_taken : Job → WordCount
words_taken Decode = record { fewest = 1; most = 24 }
words_taken Find = record { fewest = 1; most = 8 }
words_taken Make = record { fewest = 0; most = 0 }
words_taken Part = record { fewest = 1; most = 24 }

-- what a word is that is one too many: Extra where there may be none, else Many
abbrev pub too_many : ℕ → WordWhy
too_many most = if most == 0 then why.Extra else why.Many

-- the fault of a word that is one too many, if there is one
abbrev pub many_at : ℕ → Option WordText → Option WordFault
many_at most None = None
many_at most (Some chain) = Some (record { word = chain.word; at = 0; why = too_many most })

-- Few where there are too few such words, with the number of all words; else the fault of the first
-- that is too many
abbrev pub few_or_many : WordCount → ℕ → List WordText → Option WordFault
few_or_many taken count chains =
    if nat_lt (length chains) taken.fewest
    then Some (record { word = count; at = 0; why = why.Few })
    else many_at taken.most (slice_get chains taken.most)

-- the fault of one alternative
abbrev pub fault_of : ℕ → Result (List Meaning) CondFault → Option WordFault
fault_of word (Ok terms) = None
fault_of word (Err fault) = Some (record { word = word; at = fault.at; why = why.Cond })

-- the first of two faults that there is
abbrev pub or_else : Option WordFault → Option WordFault → Option WordFault
or_else (Some fault) other = Some fault
or_else None other = other

-- the fault of the first alternative that has one
abbrev pub cond_fault : List WordText → Option WordFault
cond_fault [] = None
cond_fault (chain ∷ chains) =
    or_else (fault_of chain.word (terms_of chain.text)) (cond_fault chains)

-- only find reads alternatives
abbrev pub job_fault : Job → List WordText → Option WordFault
job_fault Decode chains = None
job_fault Find chains = cond_fault chains
job_fault Make chains = None
job_fault Part chains = None

-- the rules behind all the words, of which there are `count`
abbrev pub fault_behind : ℕ → Job → List WordText → Option WordFault
fault_behind count job chains =
    or_else (few_or_many (words_taken job) count chains) (job_fault job chains)

-- the fault of a part whose capture isn't raw, or of which binary data is wanted
abbrev pub clash : ℕ → Job → Format → Option WordText → Option WordFault
clash count Decode format binary = None
clash count Find format binary = None
clash count Make format binary = None
clash count Part Raw None = None
clash count Part Raw (Some wanted) = Some (record { word = count; at = 0; why = why.Clash })
clash count Part Vcd binary = Some (record { word = count; at = 0; why = why.Clash })
clash count Part Csv binary = Some (record { word = count; at = 0; why = why.Clash })

-- the rules behind all the words, for these values
abbrev pub values_fault : ℕ → Values → Option WordFault
values_fault count values =
    or_else (fault_behind count values.job values.chains)
    (clash count values.job values.format values.binary)

-- the values, unless there is a fault
abbrev pub unless_fault : Option WordFault → Values → Result Values WordFault
unless_fault None values = Ok values
unless_fault (Some fault) values = Err fault

-- what the uses set
abbrev pub values_behind : ℕ → List Used → Result Values WordFault
values_behind count uses =
    unless_fault (values_fault count (values_of uses)) (values_of uses)

-- what the words set, or their first fault
abbrev pub settings_of : List Text → Result Values WordFault
settings_of words = then_read (uses_of words) (values_behind (length words))

-- what the answer means
abbrev pub meaning_of : Settings → Values
meaning_of s = record {
  job = s.job;
  format = s.format;
  channels = s.channels;
  rate = numbers_of s.rate;
  down = s.down;
  csv = s.csv;
  header = s.header;
  threads = s.threads;
  ring = s.ring;
  show = option_map chain_of s.show;
  binary = option_map chain_of s.binary;
  seed = s.seed;
  count = s.count;
  from = option_map string_bytes s.from;
  watch = s.watch;
  chains = map chain_of s.chains.items;
}
