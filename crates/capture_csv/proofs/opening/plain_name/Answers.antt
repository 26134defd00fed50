use Rattle.std.proofs.Common.{arith, ap, length}
use Rattle.line_text.proofs.Widths.{decimal_room}
use Rattle.capture_csv.proofs.opening.plain_name.Goals as goal

pub push_dec-requires : goal.push_dec-requires
push_dec-requires c = omega (arith, ap length c.new-name.ensures, decimal_room c.from.result (omega arith))
