-- The text of a note, by the kind of the decoder that gives it.
use Rattle.la_base.specs.declared.wires.Note.{Note}
use Rattle.kind_table.specs.Kinds.{Text}
use Rattle.kind_table.specs.declared.kinds.Kind.{Kind}
use Rattle.kind_table.specs.declared.kinds.Kind.TheVariants.{I2c, Spi, Uart, OwLink, OwNet}
use Rattle.kind_table.specs.declared.kinds.Kind.TheVariants.{Eeprom24, Ds1307, Lm75, Ds18b20}
use Rattle.kind_table.specs.declared.kinds.Kind.TheVariants.{Flash25, Modbus, Midi}
use Rattle.dec_i2c.specs.Texts as i2c
use Rattle.dec_spi.specs.Texts as spi
use Rattle.dec_uart.specs.Texts as uart
use Rattle.dec_onewire.specs.Texts as onewire
use Rattle.dec_modbus.specs.Texts as modbus
use Rattle.dec_midi.specs.Texts as midi
use Rattle.dev_eeprom24.specs.Texts as eeprom
use Rattle.dev_ds1307.specs.Texts as clock
use Rattle.dev_lm75.specs.Texts as lm75
use Rattle.dev_ds18b20.specs.Texts as probe
use Rattle.dev_flash25.specs.Texts as flash

-- the text of a note
abbrev pub note_text : Kind → Note → Text
note_text I2c note = i2c.note_text note.class note.a
note_text Spi note = spi.note_text note.class note.a note.b
note_text Uart note = uart.note_text note.class note.a
note_text OwLink note = onewire.link_text note.class note.a
note_text OwNet note = onewire.net_text note.class note.a note.b
note_text Eeprom24 note = eeprom.note_text note.class note.a note.b
note_text Ds1307 note = clock.note_text note.class note.a note.b
note_text Lm75 note = lm75.note_text note.class note.a
note_text Ds18b20 note = probe.note_text note.class note.a note.b
note_text Flash25 note = flash.note_text note.class note.a note.b
note_text Modbus note = modbus.note_text note.class note.a note.b
note_text Midi note = midi.note_text note.class note.a
