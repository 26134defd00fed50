-- The command as `clap` reads it.
use Rattle.std.specs.Prelude.{◌++◌, true, List, [], ◌∷◌, map, Option, Some, None, codes, fold}
use Rattle.clap.specs.Words.{App, Row, Rule, new_app, new_rule, with_rule}
use Rattle.clap.specs.Simple.{filled, with_index, on_top}
use Rattle.clap.specs.Walk.{with_values}
use Rattle.clap.specs.declared.builder.action.ArgAction.TheVariants.{Append}
use Rattle.clap.specs.declared.builder.value_parser.Reading.TheVariants.{AsWritten}
use Rattle.clap.specs.declared.parser.matches.ValueSource.TheVariants.{CommandLine}
use Rattle.words.specs.Lexer.{Text}
use Rattle.words.specs.Options.{names, row}
use Rattle.words.specs.Uses.{Used}
use Rattle.words.specs.declared.options.Name.{Name}

-- the id of the words that are no options
abbrev pub chains_id : Text
chains_id = codes "chains"

-- the id of a use among the matches
abbrev pub id_of : Option Name → Text
id_of None = chains_id
id_of (Some name) = (row name).name

abbrev pub option_rule : Text → Rule
option_rule name = record (new_rule name) { long = Some name }

abbrev pub chains_rule : Rule
chains_rule = record (new_rule chains_id) { action = Some Append }

abbrev pub empty_app : App
empty_app =
    on_top (λ s. record s { no_binary_name = true; disable_help_flag = true })
    (new_app (codes "ldecode"))

-- an argument for each option
abbrev pub with_option : App → Name → App
with_option app name = with_rule app (option_rule (row name).name)

abbrev pub options_app : List Name → App
options_app names = fold with_option empty_app names

-- and one for all the other words
abbrev pub word_app : App
word_app = with_rule (options_app names) chains_rule

-- the arguments as building leaves them
abbrev pub built_rules : List Rule
built_rules =
    map (λ name. filled (option_rule (row name).name)) names
    ++ with_index 1 (filled chains_rule) ∷ []

-- the matches of uses, behind those that there are
abbrev pub row_use : List Row → Used → List Row
row_use rows u = with_values (id_of u.name) AsWritten CommandLine (u.text ∷ []) rows

abbrev pub rows_of_uses : List Row → List Used → List Row
rows_of_uses rows uses = fold row_use rows uses

-- texts, if there are any
abbrev pub some_texts : List Text → Option (List Text)
some_texts [] = None
some_texts (text ∷ texts) = Some (text ∷ texts)
