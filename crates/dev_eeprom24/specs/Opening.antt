-- How an EEPROM is opened.
use Rattle.std.specs.Prelude.{ℕ, zero, suc, ◌+◌, ◌≡◌, ◌<◌, ◌≤◌, ◌==◌, List, [], ◌∷◌, Result, Ok}
use Rattle.std.specs.Prelude.{Err, get_or}
use Rattle.std.proofs.Math.Nat.{le-add_right}
use Rattle.la_base.specs.declared.wires.Packet.{Packet}
use Rattle.decoder_core.specs.declared.faults.OptFault.{OptFault}
use Rattle.decoder_core.specs.declared.faults.OptFault.TheVariants.{Range}
use Rattle.i2c_phases.specs.declared.phased.Phased.{Phased}
use Rattle.i2c_phases.specs.Devices as devices
use Rattle.dev_eeprom24.specs.declared.chip.Chip.{Chip}
use Rattle.dev_eeprom24.specs.declared.chip.EepromOpts.{EepromOpts}
use Rattle.dev_eeprom24.specs.declared.held.Eeprom.{Eeprom}
use Rattle.dev_eeprom24.specs.laws.Held.{Knows}

-- the words of the sizes and of the pages, in bytes; the first ones are the usual ones
abbrev pub sizes : List ℕ
sizes = 256 ∷ 128 ∷ 4096 ∷ 8192 ∷ 16384 ∷ 32768 ∷ 65536 ∷ []

abbrev pub pages : List ℕ
pages = 8 ∷ 16 ∷ 32 ∷ 64 ∷ 128 ∷ []

-- each number is above 0
abbrev pub Positive : List ℕ → Type 0
Positive [] = Unit {0}
Positive (x ∷ xs) = (0 < x) × Positive xs

pub positive : (xs : List ℕ) (place usual : ℕ) → Positive xs → 0 < usual → 0 < get_or xs place usual
positive [] place usual all some = some
positive (x ∷ xs) zero usual all some = all.0
positive (x ∷ xs) (suc place) usual all some = positive xs place usual all.1 some

pub some_sizes : Positive sizes
some_sizes = (
  le-add_right 1 255,
  (
    le-add_right 1 127,
    (
      le-add_right 1 4095,
      (
        le-add_right 1 8191,
        (le-add_right 1 16383, (le-add_right 1 32767, (le-add_right 1 65535, tt))),
      ),
    ),
  ),
)

pub some_pages : Positive pages
some_pages = (
  le-add_right 1 7,
  (le-add_right 1 15, (le-add_right 1 31, (le-add_right 1 63, (le-add_right 1 127, tt)))),
)

-- the EEPROM of these options
abbrev pub chip_by : EepromOpts → Chip
chip_by opts = record {
  addr = opts.addr;
  size = get_or sizes opts.size 256;
  page = get_or pages opts.page 8;
  resets = opts.gcall == 1;
  some_size = positive sizes opts.size 256 some_sizes (le-add_right 1 255);
  some_page = positive pages opts.page 8 some_pages (le-add_right 1 7);
}

-- each option is in its range
pub record InRange (opts : EepromOpts) : Type 0 where
  pub addr : opts.addr ≤ 7
  pub size : opts.size ≤ 6
  pub page : opts.page ≤ 4
  pub gcall : opts.gcall ≤ 1

-- the EEPROM of a decoder
abbrev pub chip_in : Phased Eeprom Chip → Chip
chip_in machine = machine.device.chip

-- a decoder stands for packets: its EEPROM knows their phases, and what is kept is what they leave
abbrev pub StandsFor : Phased Eeprom Chip → List Packet → Type 0
StandsFor machine packets =
    devices.StandsFor (Knows machine.device)
    (80 + machine.device.chip.addr) machine.device.chip.resets machine.kept packets

-- a decoder of these options that stands for no packets, or Range exactly where one is out of range
abbrev pub Opens : EepromOpts → Result (Phased Eeprom Chip) OptFault → Type 0
Opens opts (Ok machine) = InRange opts × (chip_in machine ≡ chip_by opts) × StandsFor machine []
Opens opts (Err fault) = (fault ≡ Range) × (¬ InRange opts)
