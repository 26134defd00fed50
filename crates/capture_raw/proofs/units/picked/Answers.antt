use Rattle.std.proofs.Common.{◌≡◌, ◌∙◌, List, ℕ, take, drop, ap, arith}
use Rattle.la_base.specs.declared.samples.TheConstants.{HALF_BITS}
use Rattle.capture_raw.specs.Raw.{picked}
use Rattle.capture_raw.proofs.Picks.{picked_split}
use Rattle.capture_raw.proofs.units.picked.Goals as goal

pub returns : goal.returns
returns c =
    let pins = c.args.pins.now in
    let n = c.args.n in
    let first : c.from-3.result ≡ picked (take HALF_BITS pins) n = c.from-3.ensures ∙ c.picked_few-3.ensures ∙ ap (λ (l : List ℕ). picked l n) c.split_at.ensures.front in
    let others : c.from-2.result ≡ picked (drop HALF_BITS pins) n = c.from-2.ensures ∙ c.picked_few-2.ensures ∙ ap (λ (l : List ℕ). picked l n) c.split_at.ensures.back in
    omega (arith, first, others, c.from-2.ensures, c.picked_few-2.type_inv, picked_split HALF_BITS pins n (omega arith))
