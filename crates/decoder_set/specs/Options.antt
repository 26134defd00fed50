-- What the values of each kind mean: its options by their names.
use Rattle.std.specs.Prelude.{ℕ, List, Option}
use Rattle.dec_i2c.specs.declared.held.I2cOpts.{I2cOpts}
use Rattle.dec_modbus.specs.declared.held.ModbusOpts.{ModbusOpts}
use Rattle.dec_onewire.specs.declared.link.options.OwLinkOpts.{OwLinkOpts}
use Rattle.dec_spi.specs.declared.options.SpiOpts.{SpiOpts}
use Rattle.dec_uart.specs.declared.options.UartOpts.{UartOpts}
use Rattle.dev_ds1307.specs.declared.chip.ClockOpts.{ClockOpts}
use Rattle.dev_eeprom24.specs.declared.chip.EepromOpts.{EepromOpts}
use Rattle.dev_lm75.specs.declared.chip.Lm75Opts.{Lm75Opts}
use Rattle.kind_table.specs.Kinds.{kind_row}
use Rattle.kind_table.specs.Values.{channel_at, maybe_channel_at, number_at}
use Rattle.kind_table.specs.declared.kinds.Kind.{Kind}
use Rattle.kind_table.specs.declared.kinds.Kind.TheVariants.{Spi, Uart, OwLink, Eeprom24, Ds1307}
use Rattle.kind_table.specs.declared.kinds.Kind.TheVariants.{Lm75, Modbus}

-- the bits of the two lines of an I2C bus
abbrev pub i2c_options : List (Option ℕ) → I2cOpts
i2c_options values = record { scl = channel_at values 0; sda = channel_at values 1 }

-- the number of an option of a kind, by its row
abbrev pub option_number : Kind → List (Option ℕ) → ℕ → ℕ
option_number kind values place = number_at (kind_row kind).options values place

-- the lines and the settings of an SPI bus
abbrev pub spi_options : List (Option ℕ) → SpiOpts
spi_options values = record {
  sck = channel_at values 0;
  mosi = maybe_channel_at values 1;
  miso = maybe_channel_at values 2;
  cs = maybe_channel_at values 3;
  cpol = option_number Spi values 4;
  cpha = option_number Spi values 5;
  bits = option_number Spi values 6;
  mode = option_number Spi values 7;
}

-- the settings of a serial line
abbrev pub uart_options : List (Option ℕ) → UartOpts
uart_options values = record {
  rx = channel_at values 0;
  baud = option_number Uart values 1;
  bits = option_number Uart values 2;
  parity = option_number Uart values 3;
  stop = option_number Uart values 4;
  sp = option_number Uart values 5;
}

-- the address and the sizes of an EEPROM
abbrev pub eeprom_options : List (Option ℕ) → EepromOpts
eeprom_options values = record {
  addr = option_number Eeprom24 values 0;
  size = option_number Eeprom24 values 1;
  page = option_number Eeprom24 values 2;
  gcall = option_number Eeprom24 values 3;
}

-- the line of 1-Wire and its times
abbrev pub link_options : List (Option ℕ) → OwLinkOpts
link_options values = record {
  dq = channel_at values 0;
  reset = option_number OwLink values 1;
  window = option_number OwLink values 2;
  bit = option_number OwLink values 3;
}

-- whether a clock takes a general call's reset
abbrev pub clock_options : List (Option ℕ) → ClockOpts
clock_options values = record { gcall = option_number Ds1307 values 0 }

-- the address of an LM75, and whether it takes a general call's reset
abbrev pub lm75_options : List (Option ℕ) → Lm75Opts
lm75_options values =
    record { addr = option_number Lm75 values 0; gcall = option_number Lm75 values 1 }

-- the silence that parts the messages of a serial line
abbrev pub modbus_options : List (Option ℕ) → ModbusOpts
modbus_options values = record { gap = option_number Modbus values 0 }
