use Rattle.std.proofs.Common.{◌≡◌, ◌<◌, ◌∙◌, List, Option, length, map, sym, ap, subst, arith}
use Rattle.std.proofs.lemmas.List.{length-map}
use Rattle.la_base.specs.declared.samples.TheConstants.{MOST_PINS}
use Rattle.kind_table.specs.Kinds.{kind_row, opt_row}
use Rattle.stack_spec.specs.Binding.{bind_value}
use Rattle.stack_spec.specs.BindSteps.{BindsRow}
use Rattle.stack_words.specs.Instances.{Value, given_at}
use Rattle.stack_words.specs.Meaning.{given_of, instance_of}
use Rattle.stack_words.specs.declared.instance.GivenOption.{GivenOption}
use Rattle.stack_spec.proofs.RowLemmas.{rows_more, rows_stop}
use Rattle.stack_spec.proofs.binding.bind_rows.Goals as goal

pub returns-in-Err-clause-step : goal.returns-in-Err-clause-step
returns-in-Err-clause-step c =
    let names = c.args.names.now in
    let instance = c.args.instance.now in
    let now = c.loop-row.pins.items in
    let k = c.loop-row.row in
    let given = c.value_at.ensures ∙ ap (λ (l : List GivenOption). given_at (map given_of l) k) c.deref.ensures.value in
    let count : length (kind_row instance.kind).options ≡ length c.options_of-row-end.result.now = ap length (sym c.options_of-row-end.ensures.options) ∙ length-map c.options_of-row-end.result.now opt_row in
    let within : k < length (kind_row instance.kind).options = omega (arith, count, c.loop-row-test.true) in
    rows_stop MOST_PINS names c.args.pins.now.items c.args.entry (instance_of instance) k now c.loop-row.given c.loop-row.invariant.so_far within c.in-Err.why
    (ap (λ (o : Option Value). bind_value MOST_PINS names now o) (sym given) ∙ c.in-Err.ensures.step)

pub loop-row-preserved : goal.loop-row-preserved
loop-row-preserved c =
    let names = c.args.names.now in
    let instance = c.args.instance.now in
    let now = c.loop-row.pins.items in
    let new = c.bind_value.new.pins.items in
    let k = c.loop-row.row in
    let given = c.value_at.ensures ∙ ap (λ (l : List GivenOption). given_at (map given_of l) k) c.deref.ensures.value in
    let count : length (kind_row instance.kind).options ≡ length c.options_of-row-end.result.now = ap length (sym c.options_of-row-end.ensures.options) ∙ length-map c.options_of-row-end.result.now opt_row in
    let within : k < length (kind_row instance.kind).options = omega (arith, count, c.loop-row-test.true) in
    let low : k < 8 = omega (arith, c.loop-row-test.true, c.options_of-row-end.ensures.few) in
    record {
      so_far = rows_more MOST_PINS names c.args.pins.now.items c.args.entry (instance_of instance) k now c.loop-row.given c.loop-row.invariant.so_far within new c.in-Ok.value low
          (subst (λ (o : Option Value). BindsRow (bind_value MOST_PINS names now o) now new c.in-Ok.value) given c.in-Ok.ensures.step);
      pins = c.in-Ok.ensures.pins;
    }
