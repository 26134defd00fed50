use Rattle.std.proofs.Common.{ℕ, ◌≡◌, ◌<◌, ◌∙◌, arith, get_or, take, ap}
use Rattle.la_base.specs.declared.samples.TheConstants.{MOST_PINS}
use Rattle.capture_raw.specs.Raw.{word_of}
use Rattle.capture_raw.proofs.Picks.{pair_sample}
use Rattle.capture_raw.proofs.reader.RawReader.sample.Goals as goal

pub overflow_add-result : goal.overflow_add-result
overflow_add-result c =
    let s = c.args.self.now in
    let bytes = c.args.bytes.now in
    let first : get_or bytes 0 0 < 256 = omega (arith, c.type_inv.bytes 0) in
    let second : get_or bytes 1 0 < 256 = omega (arith, c.type_inv.bytes 1) in
    let sum = pair_sample s.pins.items bytes (get_or s.of_bytes (get_or bytes 0 0) 0) (get_or s.of_seconds (get_or bytes 1 0) 0) MOST_PINS (omega arith) first s.few_pins (s.table_fits (get_or bytes 0 0) first) (s.seconds_fit (get_or bytes 1 0) second) in
    omega (arith, sum.1)

pub returns-then-unit-eq2 : goal.returns-then-unit-eq2
returns-then-unit-eq2 c =
    let s = c.args.self.now in
    let bytes = c.args.bytes.now in
    let first : get_or bytes 0 0 < 256 = omega (arith, c.type_inv.bytes 0) in
    let second : get_or bytes 1 0 < 256 = omega (arith, c.type_inv.bytes 1) in
    let two : 2 ≡ c.args.unit = omega arith in
    let sum = pair_sample s.pins.items bytes (get_or s.of_bytes (get_or bytes 0 0) 0) (get_or s.of_seconds (get_or bytes 1 0) 0) MOST_PINS (omega arith) first s.few_pins (s.table_fits (get_or bytes 0 0) first) (s.seconds_fit (get_or bytes 1 0) second) in
    sum.0 ∙ ap (λ (n : ℕ). word_of s.pins.items (take n bytes)) two
