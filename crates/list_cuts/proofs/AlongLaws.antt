-- More items behind those of a list.
use Rattle.std.proofs.Common.{◌≡◌, List, [], ◌∷◌, ◌++◌, sym, ◌∙◌, ap, append_assoc}
use Rattle.std.proofs.lemmas.List.{append-nil}
use Rattle.list_cuts.specs.Along.{along_from, along}

module _ {X Y : Type 0} (f : List X → X → List Y) where
  pub from_append : (list more before : List X) → along_from f before (list ++ more) ≡ along_from f before list ++ along_from f (before ++ list) more
  from_append [] more before = ap (λ (b : List X). along_from f b more) (sym (append-nil before))
  from_append (x ∷ list) more before =
      ap (λ (l : List Y). f before x ++ l) (from_append list more (before ++ x ∷ []) ∙ ap (λ (b : List X). along_from f (before ++ x ∷ []) list ++ along_from f b more) (append_assoc before (x ∷ []) list))
      ∙ sym (append_assoc (f before x) (along_from f (before ++ x ∷ []) list) (along_from f (before ++ x ∷ list) more))

  pub along_append : (list more : List X) → along f (list ++ more) ≡ along f list ++ along_from f list more
  along_append list more = from_append list more []

  pub along_push : (list : List X) (x : X) → along f (list ++ x ∷ []) ≡ along f list ++ f list x
  along_push list x = along_append list (x ∷ []) ∙ ap (λ (l : List Y). along f list ++ l) (append-nil (f list x))
