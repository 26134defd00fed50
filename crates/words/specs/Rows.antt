-- What a row of the table of options means.
use Rattle.std.specs.Prelude.{map, option_map}
use Rattle.words.specs.Options.{ValueKind, OneOf, Number, Ratio, Free, Row}
use Rattle.words.specs.declared.options.OptionRow.{OptionRow}
use Rattle.words.specs.declared.options.Takes.{Takes}
use Rattle.words.specs.declared.options.Takes.TheVariants as takes

-- the values that an option takes, as the code has them
abbrev pub value_kind_of : Takes → ValueKind
value_kind_of (takes.OneOf choices) = OneOf (map (λ choice. choice.now) choices.now)
value_kind_of (takes.Number least most) = Number least most
value_kind_of takes.Rate = Ratio
value_kind_of takes.Text = Free

-- a row of the table, as the code has it
abbrev pub row_of : OptionRow → Row
row_of r =
    record {
      name = r.name.now;
      takes = value_kind_of r.takes;
      usual = option_map (λ text. text.now) r.usual;
    }
