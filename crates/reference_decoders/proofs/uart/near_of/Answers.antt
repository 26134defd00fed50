use Rattle.std.proofs.Common.{◌≡◌, ◌∙◌, ◌-◌, ℕ, IfOk, arith, subst, length}
use Rattle.reference_decoders.specs.Looking.{line_shape}
use Rattle.reference_decoders.proofs.UartLists.{near_none, near_last, last_early}
use Rattle.reference_decoders.proofs.uart.near_of.Goals as goal

pub returns-then-places-eq0 : goal.returns-then-places-eq0
returns-then-places-eq0 c = near_none (line_shape c.args.line) c.args.samples.now _ (c.as_slice-places.ensures.value ∙ c.in_ok-starts.ensures) c.if-places-eq0.true

pub near_at-requires-clause-early : goal.near_at-requires-clause-early
near_at-requires-clause-early c =
    let early = last_early (line_shape c.args.line) c.args.samples.now c.as_slice-places.result.now 0 (c.as_slice-places.ensures.value ∙ c.in_ok-starts.ensures) c.if-places-eq0.false in
    omega (arith, early, c.requires)

pub returns : goal.returns
returns c =
    let places = c.as_slice-places.result.now in
    let is = c.as_slice-places.ensures.value ∙ c.in_ok-starts.ensures in
    let last = near_last (line_shape c.args.line) c.args.samples.now places (length places - 1) 0 is (omega (arith, c.if-places-eq0.false)) in
    subst (λ (n : ℕ). IfOk c.near_at.result (λ near. near ≡ n)) last c.near_at.ensures
