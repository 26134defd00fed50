use Rattle.std.proofs.Common.{◌≡◌, ℕ, suc, ◌+◌, ◌-◌, sym, ◌∙◌, ap, arith}
use Rattle.dec_modbus.specs.Modbus.{shifts}
use Rattle.reference_devices.proofs.modbus.with_byte.Goals as goal

pub loop-preserved : goal.loop-preserved
loop-preserved c =
    let left : 8 - c.loop.counter ≡ suc (8 - (c.loop.counter + 1)) = omega (arith, c.loop-test.true) in
    ap (λ (r : ℕ). shifts (8 - (c.loop.counter + 1)) r) c.shifted-register.ensures
    ∙ ap (λ (n : ℕ). shifts n c.loop.register) (sym left)
    ∙ c.loop.invariant
