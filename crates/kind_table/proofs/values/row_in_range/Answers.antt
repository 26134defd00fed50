use Rattle.std.proofs.Common.{◌∙◌, ◌&&◌, Bool, ℕ, map, sym, ap}
use Rattle.std.specs.Prelude.{is_some}
use Rattle.std.specs.List.{list_any}
use Rattle.std.proofs.lemmas.List.Folds.{list_all-map}
use Rattle.la_base.specs.declared.samples.TheConstants.{MOST_PINS}
use Rattle.kind_table.specs.Kinds.{opt_row}
use Rattle.kind_table.specs.Values.{given_at, has_groups, takes}
use Rattle.kind_table.proofs.ListLemmas.{list_all-zip_map}
use Rattle.kind_table.proofs.values.row_in_range.Goals as goal

pub returns-then-all_take : goal.returns-then-all_take
returns-then-all_take c =
    let values = c.args.values.now.given in
    let is_given = λ (place : ℕ). is_some (given_at values place) in
    let groups = map (λ group. group.now) c.args.row.groups.now in
    let all = sym c.if-all_take.true ∙ c.all_take.ensures ∙ sym (list_all-zip_map (λ p. takes MOST_PINS p.0.form p.1) opt_row c.args.row.options.now values) in
    c.has_groups.ensures ∙ sym (list_all-map (λ group. list_any is_given group) (λ group. group.now) c.args.row.groups.now)
    ∙ ap (λ (b : Bool). b && has_groups is_given groups) all

pub returns-else-all_take : goal.returns-else-all_take
returns-else-all_take c =
    let values = c.args.values.now.given in
    let is_given = λ (place : ℕ). is_some (given_at values place) in
    let groups = map (λ group. group.now) c.args.row.groups.now in
    let all = sym c.if-all_take.false ∙ c.all_take.ensures ∙ sym (list_all-zip_map (λ p. takes MOST_PINS p.0.form p.1) opt_row c.args.row.options.now values) in
    c.if-all_take.false ∙ ap (λ (b : Bool). b && has_groups is_given groups) all
