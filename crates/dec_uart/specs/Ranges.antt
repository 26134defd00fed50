-- The ranges of options, and the rate that they ask for.
use Rattle.std.specs.Prelude.{ℕ, ◌<◌, ◌≤◌, ◌*◌, ◌^◌}
use Rattle.la_base.specs.declared.samples.Rate.{Rate}
use Rattle.dec_uart.specs.declared.options.UartOpts.{UartOpts}

-- each option is in its range, where a sample has `most` bits
pub record InRange (most : ℕ) (opts : UartOpts) : Type 0 where
  pub rx : opts.rx < most
  pub baud : (1 ≤ opts.baud) × (opts.baud ≤ 10 ^ 7)
  pub bits : (5 ≤ opts.bits) × (opts.bits ≤ 9)
  pub parity : opts.parity ≤ 4
  pub stop : (1 ≤ opts.stop) × (opts.stop ≤ 2)
  pub sp : (1 ≤ opts.sp) × (opts.sp ≤ 99)

-- the first bit of a frame is read behind its first sample
abbrev pub FastEnough : UartOpts → Rate → Type 0
FastEnough opts rate = 100 * opts.baud * rate.den ≤ opts.sp * rate.num
