use Rattle.std.proofs.Common.{ap, ◌∙◌, sym, length, List, ℕ, Option, Vec, Global}
use Rattle.std.specs.List.{position}
use Rattle.la_base.specs.Naming.{number_of, below, or_else, same_name}
use Rattle.la_base.proofs.Places.{place_of_image}
use Rattle.la_base.proofs.names.Names.find.Goals as goal

pub returns-in-Some : goal.returns-in-Some
returns-in-Some c =
    let reference = c.args.reference.now in
    let found =
    ap (λ (names : List (List ℕ)). position (λ name. same_name name reference) names) (sym c.self.view_is)
    ∙ sym (place_of_image (λ (v : Vec ℕ Global). v.items) (λ name. same_name name reference) c.self.inside.names.items)
    ∙ ap (λ (names : List (Vec ℕ Global)). position (λ name. same_name name.items reference) names) (sym c.deref.ensures.value)
    ∙ sym c.place.ensures.place ∙ c.in-Some.is in
    sym (ap (λ (o : Option ℕ). or_else o (below (length c.args.self.now) (number_of reference))) found)

pub returns-in-None : goal.returns-in-None
returns-in-None c =
    let reference = c.args.reference.now in
    let found =
    ap (λ (names : List (List ℕ)). position (λ name. same_name name reference) names) (sym c.self.view_is)
    ∙ sym (place_of_image (λ (v : Vec ℕ Global). v.items) (λ name. same_name name reference) c.self.inside.names.items)
    ∙ ap (λ (names : List (Vec ℕ Global)). position (λ name. same_name name.items reference) names) (sym c.deref.ensures.value)
    ∙ sym c.place.ensures.place ∙ c.in-None.is in
    c.by_number.ensures ∙ sym (ap (λ (o : Option ℕ). or_else o (below (length c.args.self.now) (number_of reference))) found)
