-- What tests answer, and what is chosen by their answers.
use Rattle.std.proofs.Common.{◌≡◌, ◌≢◌, ℕ, suc, ◌<◌, ◌≤◌, Bool, true, false, ap, arith, if◌then◌else◌, ◌==◌}
use Rattle.std.specs.Prelude.{nat_lt}
use Rattle.std.proofs.lemmas.Bool.Decides.{nat_tests}

pub when_yes : {X : Type 0} (b : Bool) (x y : X) → b ≡ true → (if b then x else y) ≡ x
when_yes b x y is = ap (λ (t : Bool). if t then x else y) is

pub when_no : {X : Type 0} (b : Bool) (x y : X) → b ≡ false → (if b then x else y) ≡ y
when_no b x y is = ap (λ (t : Bool). if t then x else y) is

pub test_no : (n m : ℕ) → n ≢ m → (n == m) ≡ false
test_no n m other = grind (arith, nat_tests)

pub test_yes : (n m : ℕ) → n ≡ m → (n == m) ≡ true
test_yes n m is = grind (arith, nat_tests)

pub less_yes : (n m : ℕ) → n < m → nat_lt n m ≡ true
less_yes n m is = grind (arith, nat_tests)

pub less_no : (n m : ℕ) → m ≤ n → nat_lt n m ≡ false
less_no n m is = grind (arith, nat_tests)

pub suc_no : (n : ℕ) → (suc n == 0) ≡ false
suc_no n = grind (arith, nat_tests)
