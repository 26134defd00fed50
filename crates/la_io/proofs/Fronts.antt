-- Fronts of what is appended.
use Rattle.std.proofs.Common.{◌≡◌, ℕ, ◌+◌, ◌≤◌, min, List, ◌++◌, take, length, Option, sym, subst, ◌∙◌, arith}
use Rattle.std.specs.Io.KnownBytes.{Appends}
use Rattle.std.proofs.lemmas.List.{take_min, take-append-le}
use Rattle.std.proofs.Math.Seq.{take-length}
use Rattle.la_io.specs.Causes.{AppendsFront}
use Rattle.la_io.specs.Grown.{appends_on}
use Rattle.la_io.proofs.Bytes.{take_past}

-- bytes were appended, and then a front of others
pub front_on : (old mid new : Option (List ℕ)) (a b : List ℕ) → Appends old mid a → AppendsFront mid new b → AppendsFront old new (a ++ b)
front_on old mid new a b first second = record {
  count = length a + second.count;
  front = appends_on old mid new a (take second.count b) (take (length a + second.count) (a ++ b)) first second.front (sym (take_past a b second.count));
}

-- what was appended whole is a front of itself
pub front_whole : (old new : Option (List ℕ)) (a : List ℕ) → Appends old new a → AppendsFront old new a
front_whole old new a whole = record {
  count = length a;
  front = subst (λ (l : List ℕ). Appends old new l) (sym (take-length a)) whole;
}

-- a front is one of whatever more there is
pub front_longer : (old new : Option (List ℕ)) (a b : List ℕ) → AppendsFront old new a → AppendsFront old new (a ++ b)
front_longer old new a b front = record {
  count = min front.count (length a);
  front =
      let within : min front.count (length a) ≤ length a = omega arith in
      let same : take front.count a ≡ take (min front.count (length a)) (a ++ b) = sym (take-append-le (min front.count (length a)) a b within ∙ take_min front.count a) in
      subst (λ (l : List ℕ). Appends old new l) same front.front;
}
