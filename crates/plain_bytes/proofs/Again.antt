-- What is read of a value's bytes is put as these bytes.
use Rattle.std.proofs.Common.{◌≡◌, ℕ, List, [], sym, ◌∙◌, ap}
use Rattle.std.proofs.lemmas.List.{append-nil}
use Rattle.plain_bytes.specs.Forms.{ReadsBack, IsPutAs, ComesBack}

module _ {X P : Type 0} (fits : P → Type 0) (bytes_of : P → List ℕ) (read : List ℕ → P × List ℕ) (back : ReadsBack fits bytes_of read)
    (parts_of : X → P) (value_of : P → X) (comes : ComesBack fits parts_of value_of) where
  pub one_value : (x : X) (bytes : List ℕ) → IsPutAs fits bytes_of (parts_of x) bytes → (p : P) (value : X) → p ≡ (read bytes).0 → value ≡ value_of p → x ≡ value
  one_value x bytes put p value is value_is =
      let whole : read bytes ≡ (parts_of x, []) = ap read (put.1 ∙ sym (append-nil (bytes_of (parts_of x)))) ∙ back (parts_of x) [] put.0 in
      sym (value_is ∙ ap value_of (is ∙ ap (λ (r : P × List ℕ). r.0) whole) ∙ comes x put.0)

  pub again : (x : X) (bytes : List ℕ) → IsPutAs fits bytes_of (parts_of x) bytes → (p q : P) (value : X) → p ≡ (read bytes).0 → value ≡ value_of p → q ≡ parts_of value → bytes_of q ≡ bytes
  again x bytes put p q value is value_is q_is =
      ap bytes_of (q_is ∙ ap parts_of (sym (one_value x bytes put p value is value_is))) ∙ sym put.1
