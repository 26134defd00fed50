use Rattle.std.proofs.Common.{List, [], ◌∷◌, ◌++◌, sym, subst}
use Rattle.capture_vcd.specs.Gathering.{PartsAt}
use Rattle.capture_vcd.specs.declared.section.Kind.{Kind}
use Rattle.capture_vcd.specs.declared.section.Word.{Word}
use Rattle.capture_vcd.proofs.Gathering.{opens}
use Rattle.capture_vcd.proofs.header.Header.token.Goals as goal

pub returns-in-Outside-clause-gives : goal.returns-in-Outside-clause-gives
returns-in-Outside-clause-gives c = λ items p.
    let s = c.args.self.now in
    let here = subst (λ (k : Kind). PartsAt k s.at s.words.items s.names s.places.items s.codes.items s.scale items) c.in-Outside.is p in
    subst (λ (l : List Word). PartsAt c.opened_by-self.result c.args.at l s.names s.places.items s.codes.items s.scale (items ++ (c.args.at, c.args.text.now) ∷ [])) (sym c.clear.ensures.items)
    (opens s.names s.places.items s.codes.items s.scale items c.args.at s.at c.args.text.now s.words.items here c.opened_by-self.result c.opened_by-self.ensures)
