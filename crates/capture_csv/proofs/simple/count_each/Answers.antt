use Rattle.std.proofs.Common.{arith, ap, length, length-drop}
use Rattle.std.proofs.lemmas.List.{take_rest}
use Rattle.capture_csv.proofs.SimpleLines.{last_field, none_counted, one_field, other_field}
use Rattle.capture_csv.proofs.simple.count_each.Goals as goal

pub fields-init : goal.fields-init
fields-init c = record { within = omega arith; few = omega arith; counted = none_counted c.args.text.now c.requires }

pub fields-preserved : goal.fields-preserved
fields-preserved c =
    let text = c.args.text.now in
    let inv = c.fields.invariant in
    let len = c.in-Some.ensures in
    let rest = take_rest text c.fields.from in
    record {
      within = omega (arith, len.0, c.if-len-rest.false, inv.within, ap length rest, length-drop c.fields.from text);
      few = omega (arith, inv.few);
      counted = one_field text _ c.fields.from c.fields.count rest inv.counted c.in-Some.len len.1 len.2 len.0 c.if-len-rest.false;
    }

pub returns-then-len-rest : goal.returns-then-len-rest
returns-then-len-rest c =
    let len = c.in-Some.ensures in
    last_field c.args.text.now _ c.fields.from c.fields.count (take_rest c.args.text.now c.fields.from) c.fields.invariant.counted c.in-Some.len len.1 len.2 c.if-len-rest.true

pub returns-in-None : goal.returns-in-None
returns-in-None c = other_field c.args.text.now _ c.fields.from c.fields.count (take_rest c.args.text.now c.fields.from) c.fields.invariant.counted c.in-None.ensures
