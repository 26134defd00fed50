-- What an I2C decoder stands for, and how it is opened.
use Rattle.std.specs.Prelude.{ℕ, ◌≡◌, ◌<◌, List, [], Result, Ok, Err}
use Rattle.decoder_core.specs.declared.faults.OptFault.{OptFault}
use Rattle.decoder_core.specs.declared.faults.OptFault.TheVariants.{Range}
use Rattle.sample_walks.specs.Walks.{walked, EndsThere}
use Rattle.sample_walks.specs.Events.{by_events}
use Rattle.dec_i2c.specs.declared.held.Bus.{Bus}
use Rattle.dec_i2c.specs.declared.held.I2c.{I2c}
use Rattle.dec_i2c.specs.declared.held.I2cOpts.{I2cOpts}
use Rattle.dec_i2c.specs.laws.Machine.{i2c_walk}

-- the lines of a decoder
abbrev pub bus_of : I2c → Bus
bus_of machine = machine.bus

-- a decoder stands for samples that end with an event, or for none: it keeps what the walk over
-- them leaves
abbrev pub StandsFor : I2c → List ℕ → Type 0
StandsFor machine list =
    let walk = by_events (i2c_walk machine.bus.scl machine.bus.sda) in
    EndsThere walk list × (machine.held ≡ walked walk list)

-- both lines are bits of a sample, which has `most`
abbrev pub InRange : ℕ → I2cOpts → Type 0
InRange most opts = (opts.scl < most) × (opts.sda < most)

-- a decoder of these lines that stands for no samples, or Range exactly where a line is out of
-- range
abbrev pub Opens : ℕ → I2cOpts → Result I2c OptFault → Type 0
Opens most opts (Ok machine) =
    InRange most opts × (machine.bus.scl ≡ opts.scl) × (machine.bus.sda ≡ opts.sda)
    × StandsFor machine []
Opens most opts (Err fault) = (fault ≡ Range) × (¬ InRange most opts)
