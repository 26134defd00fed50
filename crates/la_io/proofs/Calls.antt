-- Calls of readers: none that takes bytes, one behind another, and what else is said behind them.
use Rattle.std.proofs.Common.{ℕ, List, [], ◌++◌, refl, sym, subst, append_assoc, Option, Some, None}
use Rattle.std.proofs.KnownBytes.{Consumes-trans}
use Rattle.std.proofs.lemmas.List.{append-nil}
use Rattle.std.specs.Io.KnownBytes.{Consumes}
use Rattle.la_io.specs.Capture.{Told}
use Rattle.la_io.specs.Reading.{Reads}

-- nothing was taken
pub consumes_none : (left : Option (List ℕ)) → Consumes left left []
consumes_none None = tt
consumes_none (Some xs) = refl

module _ (Stood Says : List ℕ → Told → List ℕ → Type 0) where
  -- a call that took no byte
  pub reads_none : (left : Option (List ℕ)) → ((before : List ℕ) (early : Told) (given : List ℕ) → Stood before early given → Says before early given) → Reads left left Stood Says
  reads_none left says = record {
    bytes = [];
    consumed = consumes_none left;
    answers = λ before early given at stood. record {
      told = early;
      none = λ e. refl;
      still = λ e. e;
      at_end = at;
      says = subst (λ (all : List ℕ). Says all early given) (sym (append-nil before)) (says before early given stood);
    };
  }

  -- what stood before follows from something else
  pub reads_from : (l m : Option (List ℕ)) (Stands : List ℕ → Told → List ℕ → Type 0) → ((before : List ℕ) (early : Told) (given : List ℕ) → Stands before early given → Stood before early given)
      → Reads l m Stood Says → Reads l m Stands Says
  reads_from l m Stands stood reads = record {
    bytes = reads.bytes;
    consumed = reads.consumed;
    answers = λ before early given at stands. reads.answers before early given at (stood before early given stands);
  }

  -- something else follows from what is said
  pub reads_as : (l m : Option (List ℕ)) (More : List ℕ → Told → List ℕ → Type 0) → ((all : List ℕ) (told : Told) (given : List ℕ) → Says all told given → More all told given)
      → Reads l m Stood Says → Reads l m Stood More
  reads_as l m More more reads = record {
    bytes = reads.bytes;
    consumed = reads.consumed;
    answers = λ before early given at stood.
        let first = reads.answers before early given at stood in
        record {
          told = first.told;
          none = first.none;
          still = first.still;
          at_end = first.at_end;
          says = more (before ++ reads.bytes) first.told given first.says;
        };
  }

  -- one call behind another
  pub reads_on : (l m n : Option (List ℕ)) (Then : List ℕ → Told → List ℕ → Type 0) → Reads l m Stood Says → Reads m n Says Then → Reads l n Stood Then
  reads_on l m n Then one two = record {
    bytes = one.bytes ++ two.bytes;
    consumed = Consumes-trans _ _ _ _ _ one.consumed two.consumed;
    answers = λ before early given at stood.
        let first = one.answers before early given at stood in
        let second = two.answers (before ++ one.bytes) first.told given first.at_end first.says in
        record {
          told = second.told;
          none = λ e. (λ i. first.none e i ++ second.none (first.still e) i);
          still = λ e. second.still (first.still e);
          at_end = second.at_end;
          says = subst (λ (all : List ℕ). Then all second.told given) (append_assoc before one.bytes two.bytes) second.says;
        };
  }
