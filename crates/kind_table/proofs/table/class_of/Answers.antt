use Rattle.std.proofs.Common.{◌∙◌, sym, ap}
use Rattle.std.specs.List.{position}
use Rattle.std.specs.Str.{bytes_eq}
use Rattle.kind_table.specs.Kinds.{Row}
use Rattle.kind_table.proofs.ListLemmas.{position-map}
use Rattle.kind_table.proofs.table.class_of.Goals as goal

pub returns-in-Some : goal.returns-in-Some
returns-in-Some c =
    let text = c.args.name.now in
    sym (ap (λ (row : Row). position (λ word. bytes_eq word text) row.classes) (sym c.row.ensures.row) ∙ position-map (λ word. bytes_eq word text) (λ word. word.now) c.row.result.classes.now ∙ sym c.word_place.ensures.place ∙ c.in-Some.is)

pub returns-in-None : goal.returns-in-None
returns-in-None c =
    let text = c.args.name.now in
    sym (ap (λ (row : Row). position (λ word. bytes_eq word text) row.classes) (sym c.row.ensures.row) ∙ position-map (λ word. bytes_eq word text) (λ word. word.now) c.row.result.classes.now ∙ sym c.word_place.ensures.place ∙ c.in-None.is)
