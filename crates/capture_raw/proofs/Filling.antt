-- Bytes that are taken from a source, one read after another.
use Rattle.std.proofs.Common.{ℕ, List, [], ◌++◌, sym, ◌∙◌, ap, arith, length-append, append_assoc, Option}
use Rattle.std.proofs.lemmas.List.{append-nil}
use Rattle.la_io.specs.Intake.{Front, Takes}
use Rattle.la_io.proofs.Bytes.{consumes_on}
use Rattle.la_io.proofs.Calls.{consumes_none}

-- nothing was taken
pub takes_none : (a : Front) (l : Option (List ℕ)) → Takes a a l l []
takes_none a l = record {
  consumed = consumes_none l;
  held = sym (append-nil a.bytes);
  taken = omega arith;
}

-- one taking after another
pub takes_on : (a b c : Front) (l m n : Option (List ℕ)) (x y : List ℕ) → Takes a b l m x → Takes b c m n y → Takes a c l n (x ++ y)
takes_on a b c l m n x y first second = record {
  consumed = consumes_on l m n x y first.consumed second.consumed;
  held = second.held ∙ ap (λ (l : List ℕ). l ++ y) first.held ∙ append_assoc a.bytes x y;
  taken = omega (arith, second.taken, first.taken, length-append x y);
}
