use Rattle.std.proofs.Common.{◌≡◌, ◌+◌, ◌^◌, ◌∙◌, ℕ, ap, arith, below_more, get_or, length}
use Rattle.la_base.specs.declared.samples.TheConstants.{MOST_PINS}
use Rattle.capture_raw.proofs.Picks.{neighbours_pick, ones_more}
use Rattle.capture_raw.proofs.neighbours.neighbours_of.Goals as goal

pub overflow_mul-ones : goal.overflow_mul-ones
overflow_mul-ones c =
    let s = c.loop-place in
    let more = ones_more s.ones s.place MOST_PINS s.invariant.ones (omega (arith, c.requires.few)) in
    omega (arith, more.1)

pub overflow_add-ones : goal.overflow_add-ones
overflow_add-ones c =
    let s = c.loop-place in
    let more = ones_more s.ones s.place MOST_PINS s.invariant.ones (omega (arith, c.requires.few)) in
    omega (arith, more.1)

pub loop-place-preserved : goal.loop-place-preserved
loop-place-preserved c =
    let s = c.loop-place in
    let pins = c.args.pins.now in
    let more = ones_more s.ones s.place MOST_PINS s.invariant.ones (omega (arith, c.requires.few)) in
    record {
      within = omega arith;
      ones = more.0;
      order = below_more (λ (k : ℕ). get_or pins k 0 ≡ get_or pins 0 0 + k) s.place s.invariant.order c.if-pins-place.false;
    }

pub returns : goal.returns
returns c =
    let s = c.loop-place in
    let pins = c.args.pins.now in
    let all : s.place ≡ length pins = omega arith in
    λ holds n. neighbours_pick pins (get_or pins 0 0) n s.ones (s.invariant.ones ∙ ap (λ (k : ℕ). 2 ^ k) all) (λ k below. s.invariant.order k (omega (arith, all, below)))
