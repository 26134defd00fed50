use Rattle.std.proofs.Common.{[], ◌∷◌, ◌++◌, codes, refl, subst, sym}
use Rattle.capture_vcd.specs.Gathering.{PartsAt}
use Rattle.capture_vcd.specs.declared.section.Kind.{Kind}
use Rattle.capture_vcd.proofs.Gathering.{ends_none, passed_closes}
use Rattle.capture_vcd.proofs.header.Header.close.Goals as goal

pub returns-in-Passed-clause-closes : goal.returns-in-Passed-clause-closes
returns-in-Passed-clause-closes c = λ items p.
    let s = c.args.self.now in
    let here = subst (λ (k : Kind). PartsAt k s.at s.words.items s.names s.places.items s.codes.items s.scale items) c.in-Passed.is p in
    passed_closes s.names s.places.items s.codes.items s.scale items s.at c.args.end_at s.words.items here

pub returns-in-Outside-clause-closes : goal.returns-in-Outside-clause-closes
returns-in-Outside-clause-closes c = λ items p.
    let s = c.args.self.now in
    let here = subst (λ (k : Kind). PartsAt k s.at s.words.items s.names s.places.items s.codes.items s.scale items) c.in-Outside.is p in
    subst (λ (k : Kind). PartsAt k s.at s.words.items s.names s.places.items s.codes.items s.scale (items ++ (c.args.end_at, codes "$end") ∷ [])) (sym c.in-Outside.is)
    (ends_none s.names s.places.items s.codes.items s.scale items c.args.end_at s.at (codes "$end") s.words.items here refl)
