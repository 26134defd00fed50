use Rattle.std.proofs.Common.{◌∙◌, arith}
use Rattle.la_base.specs.declared.samples.TheConstants.{WORD_BYTES}
use Rattle.capture_raw.proofs.Picks.{picked_front}
use Rattle.capture_raw.proofs.units.picked_of.Goals as goal

pub returns-then-bytes-ge-WORD_BYTES : goal.returns-then-bytes-ge-WORD_BYTES
returns-then-bytes-ge-WORD_BYTES c =
    c.of.ensures ∙ c.requires.neighbours c.if-neighbours.true c.broad_at.result
    ∙ picked_front c.args.bytes.now (λ k. omega (arith, c.type_inv.bytes k)) c.args.pins.now c.args.unit WORD_BYTES c.broad_at.result (omega (arith, c.requires.short)) c.requires.within c.broad_at.ensures
