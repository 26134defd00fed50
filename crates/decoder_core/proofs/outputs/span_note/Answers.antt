use Rattle.std.proofs.Math.Nat.{min-le_right}
use Rattle.la_base.specs.declared.wires.Out.TheVariants.{Note as NoteOut}
use Rattle.decoder_core.proofs.Ordered.{same_span}
use Rattle.decoder_core.proofs.outputs.span_note.Goals as goal

pub returns : goal.returns
returns c = same_span c.args.last (λ start order. NoteOut (record { class = c.args.class; start = start; end = c.args.last; a = c.args.a; b = c.args.b; in_order = order })) _ _ c.min.ensures _ (min-le_right c.args.first c.args.last)
