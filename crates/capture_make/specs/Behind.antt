-- Transactions, by the number of their seed that stands before them.
use Rattle.std.specs.Prelude.{ℕ, zero, suc, ◌+◌, ◌%◌, List, [], ◌∷◌}
use Rattle.capture_make.specs.declared.drawing.Sent.{Sent}
use Rattle.capture_make.specs.Made.{drawn, next_number}

-- the number behind a transaction: four are drawn for it
abbrev pub number_behind : ℕ → ℕ
number_behind number = next_number (next_number (next_number (next_number number)))

-- what the transaction behind a number sends
abbrev pub sent_behind : ℕ → Sent
sent_behind number = record {
  address = 8 + drawn (next_number number) % 112;
  first = drawn (next_number (next_number number));
  second = drawn (next_number (next_number (next_number number)));
  serial = drawn (number_behind number);
}

-- so many transactions behind a number
abbrev pub all_behind : ℕ → ℕ → List Sent
all_behind number zero = []
all_behind number (suc count) = sent_behind number ∷ all_behind (number_behind number) count
