use Rattle.std.proofs.Common.{◌≡◌, Option, Err, map, sym, subst}
use Rattle.std.specs.Option.{IfSome}
use Rattle.kind_table.specs.Kinds.{opt_row}
use Rattle.stack_words.specs.Meaning.{given_of, why_in}
use Rattle.stack_words.specs.Options.{option_at, option_of}
use Rattle.stack_words.specs.declared.faults.StackFault.{StackFault}
use Rattle.stack_words.proofs.Refusals.{refused_placed}
use Rattle.stack_words.proofs.options.read_option.Goals as goal

pub returns-in-Err : goal.returns-in-Err
returns-in-Err c =
    let rows = map opt_row c.args.rows.now in
    let before = map given_of c.args.before.now in
    let read = option_of rows before c.args.text.now in
    subst (λ (o : Option StackFault). IfSome o (λ fault. option_at rows c.args.word before (c.args.at, c.args.text.now) ≡ Err fault)) (sym c.refusal.ensures)
    (refused_placed c.args.word c.args.at read (why_in c.in-Err.refused) c.in-Err.ensures)
