-- Known bytes that grow by nothing, and by one piece after another.
use Rattle.std.specs.Prelude.{◌≡◌, ℕ, List, [], ◌++◌, Option, Some, None}
use Rattle.std.proofs.Common.{sym, ◌∙◌, ap, append_assoc}
use Rattle.std.proofs.lemmas.List.{append-nil}
use Rattle.std.specs.Io.KnownBytes.{Appends}

pub appends_nothing : (old : Option (List ℕ)) → Appends old old []
appends_nothing None = tt
appends_nothing (Some xs) = sym (append-nil xs)

-- one append after another
pub appends_on : (old mid new : Option (List ℕ)) (a b whole : List ℕ) → Appends old mid a
    → Appends mid new b → a ++ b ≡ whole → Appends old new whole
appends_on None mid new a b whole first second is = tt
appends_on (Some xs) None new a b whole first second is = absurd first
appends_on (Some xs) (Some ys) None a b whole first second is = absurd second
appends_on (Some xs) (Some ys) (Some zs) a b whole first second is =
    second ∙ ap (λ (l : List ℕ). l ++ b) first ∙ append_assoc xs a b
    ∙ ap (λ (l : List ℕ). xs ++ l) is
