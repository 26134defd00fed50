-- What a machine of each kind owes a decoder that holds it.
use Rattle.std.proofs.Common.{◌≡◌, ◌<◌, ◌≤◌, ◌^◌, refl}
use Rattle.std.proofs.Math.Bridge.{le_prop}
use Rattle.std.proofs.Math.Path.{to_path_p}
use Rattle.la_base.specs.declared.samples.TheConstants.{MOST_PINS}
use Rattle.dec_i2c.specs.declared.held.Bus.{Bus}
use Rattle.dec_onewire.specs.declared.link.held.Line.{Line as DqLine}
use Rattle.dec_uart.specs.Ranges.{InRange, FastEnough}
use Rattle.dec_uart.specs.declared.held.Line.{Line}
use Rattle.dec_uart.specs.declared.options.UartOpts.{UartOpts}
use Rattle.decoder_set.specs.declared.any_machine.AnyMachine.{AnyMachine}
use Rattle.decoder_set.specs.Members.{Shows}
use Rattle.decoder_set.specs.Views.{kind_in, view_of}

-- what is seen is what a machine says of itself
pub shown : (machine : AnyMachine)
    → Shows machine (kind_in machine) (view_of machine).own (view_of machine).consumed
    (view_of machine).sleeps
shown machine = record {
  kind_is = refl;
  own_of = λ values rate is. is;
  own_as = λ values rate is. is;
  consumed_of = λ input is. is;
  consumed_as = λ input is. is;
  awake = λ input more is. is;
  asleep = λ input more is. is;
}

-- two buses with the same lines are equal
pub same_bus : (one other : Bus) → one.scl ≡ other.scl → one.sda ≡ other.sda → one ≡ other
same_bus one other scl sda = λ i. record {
  scl = scl i;
  sda = sda i;
  scl_below = to_path_p (λ j. scl j < MOST_PINS) {a = one.scl_below} (le_prop _ other.scl_below) i;
  sda_below = to_path_p (λ j. sda j < MOST_PINS) {a = one.sda_below} (le_prop _ other.sda_below) i;
}

-- that options are in range is one fact
range_prop : (opts : UartOpts) (f g : InRange MOST_PINS opts) → f ≡ g
range_prop opts f g = λ i. record {
  rx = le_prop f.rx g.rx i;
  baud = (le_prop f.baud.0 g.baud.0 i, le_prop f.baud.1 g.baud.1 i);
  bits = (le_prop f.bits.0 g.bits.0 i, le_prop f.bits.1 g.bits.1 i);
  parity = le_prop f.parity g.parity i;
  stop = (le_prop f.stop.0 g.stop.0 i, le_prop f.stop.1 g.stop.1 i);
  sp = (le_prop f.sp.0 g.sp.0 i, le_prop f.sp.1 g.sp.1 i);
}

-- two lines with the same options at the same rate are equal
pub same_line : (one other : Line) → one.opts ≡ other.opts → one.rate ≡ other.rate → one ≡ other
same_line one other opts rate = λ i. record {
  opts = opts i;
  rate = rate i;
  in_range = to_path_p (λ j. InRange MOST_PINS (opts j)) {a = one.in_range}
      (range_prop other.opts _ other.in_range) i;
  rate_in = to_path_p (λ j. (rate j).num ≤ 10 ^ 15) {a = one.rate_in} (le_prop _ other.rate_in) i;
  fast = to_path_p (λ j. FastEnough (opts j) (rate j)) {a = one.fast} (le_prop _ other.fast) i;
}

-- and so are two lines of 1-Wire
pub same_dq : (one other : DqLine) → one.opts ≡ other.opts → one.rate ≡ other.rate → one ≡ other
same_dq one other opts rate = λ i. record {
  opts = opts i;
  rate = rate i;
  dq_below = to_path_p (λ j. (opts j).dq < MOST_PINS) {a = one.dq_below}
      (le_prop _ other.dq_below) i;
}
