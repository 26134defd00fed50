use Rattle.std.proofs.Common.{ℕ, ◌/◌, ◌%◌, ◌^◌, ◌++◌, List, ◌∙◌, ap}
use Rattle.std.proofs.lemmas.List.{append_assoc}
use Rattle.std.specs.Int.{w64, to_be_bytes}
use Rattle.plain_bytes.proofs.numbers.U128Plain.put.Goals as goal

pub returns-clause-put : goal.returns-clause-put
returns-clause-put c =
    let high = to_be_bytes w64 (c.args.self / 2 ^ 64) in
    let low = to_be_bytes w64 (c.args.self % 2 ^ 64) in
    c.put-2.ensures.put ∙ ap (λ (l : List ℕ). l ++ low) c.put.ensures.put ∙ append_assoc c.args.into.now.items high low
