use Rattle.std.proofs.Common.{rules, arith, ap, length, ◌≡◌, ◌<◌, ◌∙◌, slice_index, subst}
use Rattle.capture_any.proofs.Naming.{names_len}
use Rattle.capture_any.specs.Reading.{names_in}
use Rattle.capture_any.specs.declared.reader.Reader.TheVariants.{Raw as OfRaw}
use Rattle.capture_any.specs.declared.reader.Reader.{Reader}
use Rattle.capture_any.proofs.capture.Capture.select.Goals as goal

pub select-requires-clause-within : goal.select-requires-clause-within
select-requires-clause-within c = λ k h.
    let raw = c.in-Raw.raw in
    let is : c.args.self.now.reader ≡ OfRaw raw = search rules in
    let f : slice_index c.args.pins.items k < length raw.names = subst (λ (x : Reader). slice_index c.args.pins.items k < length (names_in x)) is (c.requires.within k h) in
    let e = ap length raw.named ∙ names_len raw.reader.channels in
    omega (arith, e, f)
