use Rattle.std.proofs.Common.{◌≡◌, ◌%◌, arith, sym, get_or, ℕ, subst, bit_and}
use Rattle.std.proofs.lemmas.Nat.{and_mask}
use Rattle.capture_raw.specs.Masks.{AllAgree, SameSamples}
use Rattle.capture_raw.proofs.Agreeing.{same_bytes}
use Rattle.capture_raw.proofs.alike.alike_units.Goals as goal

pub returns-then-unit-eq1-clause-same : goal.returns-then-unit-eq1-clause-same
returns-then-unit-eq1-clause-same c =
    let bytes = c.args.bytes.now in
    let mask = c.args.mask in
    let count = c.alike_bytes.result in
    let is : c.args.unit ≡ 1 = omega arith in
    let low : bit_and mask 255 ≡ mask % 256 = and_mask mask 8 in
    let agree = subst (λ (m : ℕ). AllAgree m (get_or bytes 0 0) bytes count) low c.alike_bytes.ensures.alike in
    subst (λ (u : ℕ). SameSamples u mask bytes count) (sym is) (same_bytes mask bytes (λ k. omega (arith, c.type_inv.bytes k)) count c.alike_bytes.ensures.within agree)
