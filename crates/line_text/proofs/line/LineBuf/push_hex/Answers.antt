use Rattle.std.proofs.Common.{◌≡◌, ℕ, length, ap, arith}
use Rattle.line_text.specs.Texts.{hex}
use Rattle.line_text.proofs.Widths.{hex_exact}
use Rattle.line_text.proofs.line.LineBuf.push_hex.Goals as goal

pub push_byte_hex-requires : goal.push_byte_hex-requires
push_byte_hex-requires c =
    let two : c.args.digits ≡ 2 = omega arith in
    let places = ap (λ (w : ℕ). length (hex w c.args.n)) two in
    let exact = hex_exact 2 c.args.n (omega arith) (omega arith) in
    omega (arith, places, exact)
