use Rattle.std.proofs.Common.{rules, ap, subst, sym, ◌∙◌}
use Rattle.plain_bytes.proofs.Again.{again, one_value}
use Rattle.plain_bytes.proofs.parts.get_parts.Goals as goal

pub returns-else-is_put : goal.returns-else-is_put
returns-else-is_put g c = λ x put.
    let p = g.T.Parts.Plain in
    let t = g.T.Parted in
    let same = again p.fits p.bytes_of p.read g.met.T.Parts.Plain.reads_back t.parts_of t.value_of g.met.T.Parted.comes_back x c.args.bytes.now put
    c.read_as.result c.parts.result c.of_parts-value.result c.read_as.ensures c.of_parts-value.ensures c.parts.ensures in
    let yes = c.is_put.ensures.put.1 same in
    let no = c.if-is_put.false in
    absurd (search (rules, yes, no))

pub returns-then-is_put : goal.returns-then-is_put
returns-then-is_put g c =
    let p = g.T.Parts.Plain in
    let t = g.T.Parted in (
      (subst (λ (q : g.row.T-Parts.Denot). p.fits q) c.parts.ensures c.is_put.ensures.fits, sym (c.is_put.ensures.put.0 c.if-is_put.true) ∙ ap p.bytes_of c.parts.ensures),
      λ other put. one_value p.fits p.bytes_of p.read g.met.T.Parts.Plain.reads_back t.parts_of t.value_of g.met.T.Parted.comes_back other c.args.bytes.now put
          c.read_as.result c.of_parts-value.result c.read_as.ensures c.of_parts-value.ensures,
    )
