use Rattle.std.proofs.Common.{◌≡◌, false, sym, ◌∙◌, ap, get_or}
use Rattle.std.specs.Str.{bytes_eq}
use Rattle.words.specs.Options.{names, row}
use Rattle.words.specs.declared.options.Name.TheVariants.{Job}
use Rattle.words.proofs.Searches.{find_past}
use Rattle.words.proofs.options.name_of.Goals as goal

pub loop-option-preserved : goal.loop-option-preserved
loop-option-preserved c =
    let other : bytes_eq (row (get_or names c.loop-option.option-index Job)).name c.args.text.now ≡ false =
    ap (λ r. bytes_eq r.name c.args.text.now) (sym c.row.ensures) ∙ sym c.eq.ensures ∙ c.if-eq.false in
    find_past (λ name. bytes_eq (row name).name c.args.text.now) names c.loop-option.option-index Job c.loop-option-test.true other ∙ c.loop-option.invariant
