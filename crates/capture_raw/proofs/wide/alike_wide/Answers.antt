use Rattle.std.proofs.Common.{◌*◌, sym, take}
use Rattle.capture_raw.proofs.Captures.{equal_samples}
use Rattle.capture_raw.proofs.Fronts.{equal_first}
use Rattle.capture_raw.proofs.wide.alike_wide.Goals as goal

pub alike_within-count-requires-clause-same : goal.alike_within-count-requires-clause-same
alike_within-count-requires-clause-same c =
    let unit = c.args.unit in
    let bytes = c.args.bytes.now in
    λ pins covers. sym (equal_samples unit pins (take (1 * unit) bytes) (take unit bytes) 1 (equal_first unit c.requires.some bytes c.requires.whole))
