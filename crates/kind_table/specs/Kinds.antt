-- The table of kinds: one row a kind, and in it one row an option.
use Rattle.std.specs.Prelude.{ℕ, Bool, true, false, List, [], ◌∷◌, map, Option, codes}
use Rattle.std.specs.List.{find, position}
use Rattle.std.specs.Str.{bytes_eq}
use Rattle.la_base.specs.declared.wires.Wire.{Wire}
use Rattle.la_base.specs.declared.wires.Wire.TheVariants as wire
use Rattle.kind_table.specs.declared.kinds.Asked.{Asked}
use Rattle.kind_table.specs.declared.kinds.Kind.{Kind}
use Rattle.kind_table.specs.declared.kinds.Kind.TheVariants.{I2c, Spi, Uart, OwLink, OwNet}
use Rattle.kind_table.specs.declared.kinds.Kind.TheVariants.{Eeprom24, Ds1307, Lm75, Ds18b20}
use Rattle.kind_table.specs.declared.kinds.Kind.TheVariants.{Flash25, Modbus, Midi}
use Rattle.kind_table.specs.declared.kinds.OptForm.{OptForm}
use Rattle.kind_table.specs.declared.kinds.OptForm.TheVariants as form
use Rattle.kind_table.specs.declared.kinds.OptRow.{OptRow}
use Rattle.kind_table.specs.declared.kinds.KindRow.{KindRow}

-- a text, by its bytes
abbrev pub Text : Type 0
Text = List ℕ

-- what an option takes: a channel, which may have to be given; a number in a range, with its usual
-- value; one of some words
pub data Form : Type 0 where
  Pin : Bool → Form
  Number : ℕ → ℕ → ℕ → Form
  Choice : List Text → Form

-- an option
pub record OptionRow : Type 0 where
  pub name : Text
  pub form : Form

-- a kind: its name, the wires that it reads and gives, its options, groups of these (by their rows)
-- of each of which one has to be given, what options of its parent it asks for, the names of its
-- classes of binary data
pub record Row : Type 0 where
  pub name : Text
  pub input : Wire
  pub output : Wire
  pub options : List OptionRow
  pub groups : List (List ℕ)
  pub parent : List Asked
  pub classes : List Text

-- the words of the choices
abbrev pub spi_modes : List Text
spi_modes = codes "msb_low" ∷ codes "msb_high" ∷ codes "lsb_low" ∷ codes "lsb_high" ∷ []

abbrev pub parities : List Text
parities = codes "none" ∷ codes "odd" ∷ codes "even" ∷ codes "zero" ∷ codes "one" ∷ []

abbrev pub eeprom_sizes : List Text
eeprom_sizes =
    codes "256" ∷ codes "128" ∷ codes "4096" ∷ codes "8192" ∷ codes "16384" ∷ codes "32768"
    ∷ codes "65536" ∷ []

abbrev pub eeprom_pages : List Text
eeprom_pages = codes "8" ∷ codes "16" ∷ codes "32" ∷ codes "64" ∷ codes "128" ∷ []

-- the table
abbrev pub kind_row : Kind → Row
kind_row I2c = record {
  name = codes "i2c";
  input = wire.Logic;
  output = wire.I2c;
  options =
      record { name = codes "scl"; form = Pin true }
      ∷ record { name = codes "sda"; form = Pin true } ∷ [];
  groups = [];
  parent = [];
  classes = codes "write" ∷ codes "read" ∷ [];
}
kind_row Spi = record {
  name = codes "spi";
  input = wire.Logic;
  output = wire.Spi;
  options =
      record { name = codes "sck"; form = Pin true }
      ∷ record { name = codes "mosi"; form = Pin false }
      ∷ record { name = codes "miso"; form = Pin false }
      ∷ record { name = codes "cs"; form = Pin false }
      ∷ record { name = codes "cpol"; form = Number 0 1 0 }
      ∷ record { name = codes "cpha"; form = Number 0 1 0 }
      ∷ record { name = codes "bits"; form = Number 1 32 8 }
      ∷ record { name = codes "mode"; form = Choice spi_modes } ∷ [];
  groups = (1 ∷ 2 ∷ []) ∷ [];
  parent = [];
  classes = codes "mosi" ∷ codes "miso" ∷ [];
}
kind_row Uart = record {
  name = codes "uart";
  input = wire.Logic;
  output = wire.Uart;
  options =
      record { name = codes "rx"; form = Pin true }
      ∷ record { name = codes "baud"; form = Number 1 10000000 9600 }
      ∷ record { name = codes "bits"; form = Number 5 9 8 }
      ∷ record { name = codes "parity"; form = Choice parities }
      ∷ record { name = codes "stop"; form = Number 1 2 1 }
      ∷ record { name = codes "sp"; form = Number 1 99 50 } ∷ [];
  groups = [];
  parent = [];
  classes = codes "data" ∷ [];
}
kind_row OwLink = record {
  name = codes "onewire_link";
  input = wire.Logic;
  output = wire.OwLink;
  options =
      record { name = codes "dq"; form = Pin true }
      ∷ record { name = codes "reset"; form = Number 1 1000000000 480000 }
      ∷ record { name = codes "window"; form = Number 1 1000000000 100000 }
      ∷ record { name = codes "bit"; form = Number 1 1000000000 20000 } ∷ [];
  groups = [];
  parent = [];
  classes = [];
}
kind_row OwNet = record {
  name = codes "onewire_net";
  input = wire.OwLink;
  output = wire.OwNet;
  options = [];
  groups = [];
  parent = [];
  classes = codes "data" ∷ [];
}
kind_row Eeprom24 = record {
  name = codes "eeprom24";
  input = wire.I2c;
  output = wire.Nothing;
  options =
      record { name = codes "addr"; form = Number 0 7 0 }
      ∷ record { name = codes "size"; form = Choice eeprom_sizes }
      ∷ record { name = codes "page"; form = Choice eeprom_pages }
      ∷ record { name = codes "gcall"; form = Number 0 1 0 } ∷ [];
  groups = [];
  parent = [];
  classes = codes "write" ∷ codes "read" ∷ [];
}
kind_row Ds1307 = record {
  name = codes "ds1307";
  input = wire.I2c;
  output = wire.Nothing;
  options = record { name = codes "gcall"; form = Number 0 1 0 } ∷ [];
  groups = [];
  parent = [];
  classes = codes "write" ∷ codes "read" ∷ [];
}
kind_row Lm75 = record {
  name = codes "lm75";
  input = wire.I2c;
  output = wire.Nothing;
  options =
      record { name = codes "addr"; form = Number 0 7 0 }
      ∷ record { name = codes "gcall"; form = Number 0 1 0 } ∷ [];
  groups = [];
  parent = [];
  classes = [];
}
kind_row Ds18b20 = record {
  name = codes "ds18b20";
  input = wire.OwNet;
  output = wire.Nothing;
  options = [];
  groups = [];
  parent = [];
  classes = codes "scratchpad" ∷ [];
}
kind_row Flash25 = record {
  name = codes "flash25";
  input = wire.Spi;
  output = wire.Nothing;
  options = [];
  groups = [];
  parent = record { row = 6; number = 8 } ∷ [];
  classes = codes "read" ∷ codes "program" ∷ [];
}
kind_row Modbus = record {
  name = codes "modbus";
  input = wire.Uart;
  output = wire.Nothing;
  options = record { name = codes "gap"; form = Number 1 1000000000 4000000 } ∷ [];
  groups = [];
  parent = record { row = 2; number = 8 } ∷ [];
  classes = [];
}
kind_row Midi = record {
  name = codes "midi";
  input = wire.Uart;
  output = wire.Nothing;
  options = [];
  groups = [];
  parent = record { row = 2; number = 8 } ∷ [];
  classes = [];
}

-- the kinds that have a row
abbrev pub kinds : List Kind
kinds =
    I2c ∷ Spi ∷ Uart ∷ OwLink ∷ OwNet ∷ Eeprom24 ∷ Ds1307 ∷ Lm75 ∷ Ds18b20 ∷ Flash25 ∷ Modbus
    ∷ Midi ∷ []

-- the number of a kind in a checkpoint. What was written is read again, so that numbers are only
-- added: a further kind takes the next one, and none is ever given anew
abbrev pub place_of : Kind → ℕ
place_of I2c = 0
place_of Spi = 1
place_of Uart = 2
place_of OwLink = 3
place_of OwNet = 4
place_of Eeprom24 = 5
place_of Ds1307 = 6
place_of Lm75 = 7
place_of Ds18b20 = 8
place_of Flash25 = 9
place_of Modbus = 10
place_of Midi = 11

-- the kind of a name
abbrev pub kind_of : Text → Option Kind
kind_of name = find (λ kind. bytes_eq (kind_row kind).name name) kinds

-- a class of binary data by its name: its place among the classes of the kind
abbrev pub class_of : Kind → Text → Option ℕ
class_of kind name = position (λ class. bytes_eq class name) (kind_row kind).classes

-- the form of an option in the code
abbrev pub form_of : OptForm → Form
form_of (form.Pin required) = Pin required
form_of (form.Number least most usual) = Number least most usual
form_of (form.Choice words) = Choice (map (λ word. word.now) words.now)

-- an option in the code
abbrev pub opt_row : OptRow → OptionRow
opt_row row = record { name = row.name.now; form = form_of row.form }

-- a row of the table in the code
abbrev pub row_of : KindRow → Row
row_of row = record {
  name = row.name.now;
  input = row.input;
  output = row.output;
  options = map opt_row row.options.now;
  groups = map (λ group. group.now) row.groups.now;
  parent = row.parent.now;
  classes = map (λ class. class.now) row.classes.now;
}
