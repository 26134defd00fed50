use Rattle.std.proofs.Common.{◌∙◌, ap, take, ℕ}
use Rattle.std.specs.Str.{all_ascii_digits}
use Rattle.capture_csv.proofs.Numbers.{prefix_digits}
use Rattle.capture_csv.proofs.times.amount_of.Goals as goal

pub number_of-seconds-requires-clause-all : goal.number_of-seconds-requires-clause-all
number_of-seconds-requires-clause-all c = ap (λ (n : ℕ). all_ascii_digits (take n c.args.text.now)) c.digits_at-digits.ensures.digits ∙ prefix_digits c.args.text.now
