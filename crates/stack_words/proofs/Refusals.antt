-- What is refused, with a place.
use Rattle.std.proofs.Common.{◌≡◌, ℕ, Option, Some, None, option_map, Result, Err, ap}
use Rattle.std.specs.Option.{IfSome}
use Rattle.stack_words.specs.Options.{at_place}
use Rattle.stack_words.specs.declared.faults.StackWhy.{StackWhy}

-- a reason, at its place
pub refused_placed : {X : Type 0} (word at : ℕ) (read : Result X StackWhy) (o : Option StackWhy) → IfSome o (λ why. read ≡ Err why)
    → IfSome (option_map (λ why. record { word = word; at = at; why = why }) o) (λ fault. at_place word at read ≡ Err fault)
refused_placed word at read None e = tt
refused_placed word at read (Some why) e = ap (at_place word at) e
