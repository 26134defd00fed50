-- What the help tells of a decoder, by the table of kinds.
use Rattle.std.specs.Prelude.{ℕ, ◌+◌, true, false, List, [], ◌∷◌, ◌++◌, map, codes, decimal}
use Rattle.std.specs.Prelude.{Option, None, Some, slice_get}
use Rattle.std.specs.List.{concat, find, flat_map, join_by}
use Rattle.la_base.specs.Kinds.{same_wire}
use Rattle.la_base.specs.declared.wires.Wire.{Wire}
use Rattle.kind_table.specs.declared.kinds.Asked.{Asked}
use Rattle.kind_table.specs.declared.kinds.Kind.{Kind}
use Rattle.kind_table.specs.Kinds.{Text, Form, Pin, Number, Choice, OptionRow, kind_row, kinds}
use Rattle.help_text.specs.Meanings.{meanings_of, what_of}

-- words, with this between two of them
abbrev pub joined : Text → List Text → Text
joined between words = join_by (λ word. word) between words

-- the first of some words
abbrev pub first_word : List Text → Text
first_word [] = []
first_word (word ∷ words) = word

-- the text at a place, and nothing where there is none
abbrev pub text_in : Option Text → Text
text_in None = []
text_in (Some text) = text

abbrev pub name_in : Option OptionRow → Text
name_in None = []
name_in (Some row) = row.name

-- the name of the option at a place
abbrev pub name_at : List OptionRow → ℕ → Text
name_at rows place = name_in (slice_get rows place)

-- what an option takes: a channel, which may be needed; a number from the least to the most; one of
-- some words, the first of which is the usual one
abbrev pub takes_text : Form → Text
takes_text (Pin true) = codes "a channel, needed"
takes_text (Pin false) = codes "a channel"
takes_text (Number least most usual) =
    decimal least ++ (codes " to " ++ (decimal most ++ (codes "; usual: " ++ decimal usual)))
takes_text (Choice words) =
    codes "one of\n          " ++ (joined (codes ", ") words ++ (codes "; usual: " ++ first_word words))

-- an option by its name, with what it means and what it takes
abbrev pub option_told : Text → OptionRow → Text
option_told meaning row =
    concat (codes "      " ∷ row.name ∷ codes ": " ∷ meaning ∷ codes "; " ∷ takes_text row.form ∷ codes "\n" ∷ [])

-- options from a place on, each with the meaning at its place
abbrev pub options_told : ℕ → List Text → List OptionRow → Text
options_told place meanings [] = []
options_told place meanings (row ∷ rows) =
    option_told (text_in (slice_get meanings place)) row ++ options_told (place + 1) meanings rows

-- a group of options, by their places, of which at least one has to be given
abbrev pub group_told : List OptionRow → List ℕ → Text
group_told rows group =
    concat (codes "      " ∷ joined (codes " or ") (map (λ place. name_at rows place) group)
    ∷ codes " is needed\n" ∷ [])

-- the classes of binary data, where there are some
abbrev pub classes_told : List Text → Text
classes_told [] = []
classes_told (class ∷ classes) =
    concat (codes "      binary data: " ∷ joined (codes ", ") (class ∷ classes) ∷ codes "\n" ∷ [])

-- the decoder that gives what moves on a wire; samples come of none
abbrev pub giver_of : Wire → Option Kind
giver_of wire = find (λ kind. same_wire (kind_row kind).output wire) kinds

-- the numbers that options of these rows have to have
abbrev pub asked_told : List OptionRow → List Asked → Text
asked_told rows asked =
    flat_map (λ one. codes " with " ++ (name_at rows one.row ++ (codes "=" ++ decimal one.number))) asked

-- what a decoder stands on
abbrev pub stands_on : List Asked → Option Kind → Text
stands_on asked None = codes "reads samples"
stands_on asked (Some parent) =
    codes "on " ++ ((kind_row parent).name ++ asked_told (kind_row parent).options asked)

-- the line of a decoder: its name, what it is, what it stands on
abbrev pub kind_line : Kind → Text
kind_line kind =
    concat (codes "  " ∷ (kind_row kind).name ∷ codes ": " ∷ what_of kind ∷ codes "; "
    ∷ stands_on (kind_row kind).parent (giver_of (kind_row kind).input) ∷ codes "\n" ∷ [])

-- a decoder: its line, its options, which of them are needed as a group, its binary data
abbrev pub kind_told : Kind → Text
kind_told kind =
    concat (kind_line kind ∷ options_told 0 (meanings_of kind) (kind_row kind).options
    ∷ flat_map (λ group. group_told (kind_row kind).options group) (kind_row kind).groups
    ∷ classes_told (kind_row kind).classes ∷ [])
