use Rattle.std.proofs.Common.{arith, ap, length}
use Rattle.line_text.proofs.Widths.{decimal_room}
use Rattle.capture_vcd.proofs.bits.bit_name.Goals as goal

pub push_dec-requires : goal.push_dec-requires
push_dec-requires c = omega (arith, ap length c.new-digits.ensures, c.ranges.bit.fits, decimal_room c.args.bit (omega (arith, c.ranges.bit.fits)))
