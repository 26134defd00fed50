use Rattle.std.proofs.lemmas.List.{take_rest}
use Rattle.capture_csv.proofs.SimpleLines.{first_within, plain_first, quoted_first}
use Rattle.capture_csv.proofs.simple.first_len.Goals as goal

pub returns-then-not-is_quoted-clause-first : goal.returns-then-not-is_quoted-clause-first
returns-then-not-is_quoted-clause-first c = let at = c.byte_at.ensures in plain_first c.args.text.now c.byte_at.result c.if-not-is_quoted.ensures at.within at.before at.here

pub returns-clause-first : goal.returns-clause-first
returns-clause-first c = let at = c.byte_at-2.ensures in quoted_first c.args.text.now _ c.byte_at-2.result c.if-not-is_quoted.ensures (take_rest c.args.text.now 1) at.within at.before at.here

pub returns-clause-within : goal.returns-clause-within
returns-clause-within c =
    let at = c.byte_at-2.ensures in
    first_within c.args.text.now _ c.requires (quoted_first c.args.text.now _ c.byte_at-2.result c.if-not-is_quoted.ensures (take_rest c.args.text.now 1) at.within at.before at.here)
