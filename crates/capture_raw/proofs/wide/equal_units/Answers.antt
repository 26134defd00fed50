use Rattle.std.proofs.Common.{◌≡◌, ◌+◌, ◌*◌, ◌/◌, arith, ap, ◌∙◌, sym, take, length, replicate, List, ℕ, length-drop}
use Rattle.std.proofs.lemmas.List.{take_rest}
use Rattle.std.proofs.Math.Nat.{div-mul-le_self}
use Rattle.list_cuts.specs.Groups.{groups}
use Rattle.capture_raw.proofs.Captures.{equal_samples}
use Rattle.capture_raw.proofs.Fronts.{equal_run}
use Rattle.capture_raw.proofs.wide.equal_units.Goals as goal

pub returns-clause-same : goal.returns-clause-same
returns-clause-same c =
    let unit = c.args.unit in
    let bytes = c.args.bytes.now in
    let same = c.equal_front.result in
    let rest = take_rest bytes unit in
    let equal = c.equal_front.ensures.same ∙ ap (λ (l : List ℕ). take same l) rest in
    let count : same / unit + 1 ≡ 1 + same / unit = omega arith in
    let groups_are =
    ap (λ (k : ℕ). groups unit (take (k * unit) bytes)) (sym count)
    ∙ equal_run unit c.requires.some bytes same equal (omega (arith, c.equal_front.ensures.within, ap length rest, length-drop unit bytes)) (same / unit) (div-mul-le_self same unit)
    ∙ ap (λ (k : ℕ). replicate k (take unit bytes)) count in
    λ pins covers. sym (equal_samples unit pins (take ((1 + same / unit) * unit) bytes) (take unit bytes) (1 + same / unit) groups_are)
