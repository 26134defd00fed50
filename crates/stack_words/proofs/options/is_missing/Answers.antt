use Rattle.std.proofs.Common.{◌∙◌, ◌&&◌, ◌||◌, Bool, ℕ, not, sym, ap, map, is_some}
use Rattle.std.specs.List.{list_any}
use Rattle.std.proofs.lemmas.List.Folds.{list_all-map}
use Rattle.kind_table.specs.Kinds.{opt_row}
use Rattle.kind_table.specs.Values.{has_groups}
use Rattle.stack_words.specs.Instances.{given_at}
use Rattle.stack_words.specs.Meaning.{given_of}
use Rattle.stack_words.specs.Options.{needs}
use Rattle.stack_words.proofs.ListLemmas.{list_all-enumerate_map}
use Rattle.stack_words.proofs.options.is_missing.Goals as goal

pub returns-then-not-have_all : goal.returns-then-not-have_all
returns-then-not-have_all c =
    let is_given = λ (row : ℕ). is_some (given_at (map given_of c.args.given.now) row) in
    let groups = map (λ group. group.now) c.args.groups.now in
    let all = sym c.if-not-have_all.true ∙ c.have_all.ensures ∙ sym (list_all-enumerate_map (λ p. not (needs p.1.form) || is_given p.0) opt_row 0 c.args.rows.now) in
    ap (λ (b : Bool). not (b && has_groups is_given groups)) all

pub returns : goal.returns
returns c =
    let is_given = λ (row : ℕ). is_some (given_at (map given_of c.args.given.now) row) in
    let groups = map (λ group. group.now) c.args.groups.now in
    let all = sym c.if-not-have_all.false ∙ c.have_all.ensures ∙ sym (list_all-enumerate_map (λ p. not (needs p.1.form) || is_given p.0) opt_row 0 c.args.rows.now) in
    ap not (c.has_groups.ensures ∙ sym (list_all-map (λ group. list_any is_given group) (λ group. group.now) c.args.groups.now))
    ∙ ap (λ (b : Bool). not (b && has_groups is_given groups)) all
