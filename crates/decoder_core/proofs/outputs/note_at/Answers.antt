use Rattle.std.proofs.Common.{refl}
use Rattle.std.proofs.Math.Nat.{le_refl}
use Rattle.la_base.specs.declared.wires.Out.TheVariants.{Note as NoteOut}
use Rattle.decoder_core.proofs.Ordered.{same_span}
use Rattle.decoder_core.proofs.outputs.note_at.Goals as goal

pub returns : goal.returns
returns c = same_span c.args.at (λ start order. NoteOut (record { class = c.args.class; start = start; end = c.args.at; a = c.args.a; b = 0; in_order = order })) _ _ refl _ (le_refl c.args.at)
