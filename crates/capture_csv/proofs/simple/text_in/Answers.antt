use Rattle.capture_csv.proofs.SimpleLines.{field_bare, field_quoted}
use Rattle.capture_csv.proofs.simple.text_in.Goals as goal

pub returns-then-not-is_quoted : goal.returns-then-not-is_quoted
returns-then-not-is_quoted c = λ w simple is. field_bare c.args.field.now w.quoted w.text c.if-not-is_quoted.ensures simple is

pub returns : goal.returns
returns c = λ w simple is. (field_quoted c.args.field.now w.quoted w.text c.if-not-is_quoted.ensures simple is).1
