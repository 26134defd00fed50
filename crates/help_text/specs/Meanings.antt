-- What each decoder is, and what its options mean, in words.
use Rattle.std.specs.Prelude.{List, [], ◌∷◌, codes}
use Rattle.kind_table.specs.Kinds.{Text}
use Rattle.kind_table.specs.declared.kinds.Kind.{Kind}
use Rattle.kind_table.specs.declared.kinds.Kind.TheVariants.{I2c, Spi, Uart, OwLink, OwNet}
use Rattle.kind_table.specs.declared.kinds.Kind.TheVariants.{Eeprom24, Ds1307, Lm75, Ds18b20}
use Rattle.kind_table.specs.declared.kinds.Kind.TheVariants.{Flash25, Modbus, Midi}

-- what a decoder decodes
abbrev pub what_of : Kind → Text
what_of I2c = codes "an I2C bus"
what_of Spi = codes "an SPI bus"
what_of Uart = codes "a serial line"
what_of OwLink = codes "the pulses of a 1-Wire line"
what_of OwNet = codes "the bytes of a 1-Wire network"
what_of Eeprom24 = codes "24xx EEPROMs"
what_of Ds1307 = codes "the clock DS1307"
what_of Lm75 = codes "the thermometer LM75"
what_of Ds18b20 = codes "the thermometer DS18B20"
what_of Flash25 = codes "serial flash of the 25 series"
what_of Modbus = codes "messages of Modbus RTU"
what_of Midi = codes "messages of MIDI 1.0"

-- the low bits of a device's address, and what a general call does to a device
abbrev pub low_address : Text
low_address = codes "the lowest three bits of its address"

abbrev pub general_call : Text
general_call = codes "1 if a general call's reset clears its pointer"

-- what the options of a decoder mean, with their units, in the order of the table
abbrev pub meanings_of : Kind → List Text
meanings_of I2c = codes "the clock line" ∷ codes "the data line" ∷ []
meanings_of Spi =
    codes "the clock line" ∷ codes "the data to the device" ∷ codes "the data from the device"
    ∷ codes "the line that selects the device" ∷ codes "the level of the clock at rest"
    ∷ codes "the edge that reads a bit, 0 for the first" ∷ codes "bits of a word"
    ∷ codes "the bit that comes first, and the level of cs that selects" ∷ []
meanings_of Uart =
    codes "the line" ∷ codes "bits a second" ∷ codes "data bits of a frame"
    ∷ codes "the parity bit of a frame" ∷ codes "stop bits of a frame"
    ∷ codes "where in a bit it is read, in percent" ∷ []
meanings_of OwLink =
    codes "the line" ∷ codes "the shortest reset, in ns"
    ∷ codes "the wait for an answer, in ns"
    ∷ codes "a shorter pulse is a 1, in ns" ∷ []
meanings_of OwNet = []
meanings_of Eeprom24 =
    low_address ∷ codes "bytes of the device" ∷ codes "bytes of a page" ∷ general_call ∷ []
meanings_of Ds1307 = general_call ∷ []
meanings_of Lm75 = low_address ∷ general_call ∷ []
meanings_of Ds18b20 = []
meanings_of Flash25 = []
meanings_of Modbus = codes "the silence between messages, in ns" ∷ []
meanings_of Midi = []
