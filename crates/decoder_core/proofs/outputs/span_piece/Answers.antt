use Rattle.std.proofs.Math.Nat.{min-le_right}
use Rattle.la_base.specs.declared.wires.Out.TheVariants.{Piece as PieceOut}
use Rattle.decoder_core.proofs.Ordered.{same_span}
use Rattle.decoder_core.proofs.outputs.span_piece.Goals as goal

pub returns : goal.returns
returns c = same_span c.args.last (λ start order. PieceOut (record { class = c.args.class; start = start; end = c.args.last; byte = c.args.byte; in_order = order })) _ _ c.min.ensures _ (min-le_right c.args.first c.args.last)
