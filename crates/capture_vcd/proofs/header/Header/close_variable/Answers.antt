use Rattle.std.proofs.Common.{◌∙◌, List, map, ap, sym, subst, Ok}
use Rattle.capture_vcd.specs.Header.{Declares, variable_of}
use Rattle.capture_vcd.specs.Gathered.{placed, variable_by_words}
use Rattle.capture_vcd.specs.Gathering.{PartsAt}
use Rattle.capture_vcd.specs.declared.section.Kind.{Kind}
use Rattle.capture_vcd.specs.declared.section.Word.{Word}
use Rattle.capture_vcd.proofs.Gathering.{none_closes, variable_closes, variable_fails}
use Rattle.capture_vcd.proofs.header.Header.close_variable.Goals as goal

pub returns-in-Ok-None-clause-closes : goal.returns-in-Ok-None-clause-closes
returns-in-Ok-None-clause-closes c = λ items p.
    let s = c.args.self.now in
    let here = subst (λ (k : Kind). PartsAt k s.at s.words.items s.names s.places.items s.codes.items s.scale items) c.requires p in
    none_closes s.names s.places.items s.codes.items s.scale items s.at c.args.end_at s.words.items here ((λ i. variable_of c.args.self.now.at (sym (c.from-before.ensures ∙ c.count.ensures.count) i) (map placed (sym c.deref.ensures.value i))) ∙ rw c.in-Ok-None.field-0-is at c.in-Ok-None.ensures)

pub returns-in-Ok-clause-closes : goal.returns-in-Ok-clause-closes
returns-in-Ok-clause-closes c = λ items p.
    let s = c.args.self.now in
    let here = subst (λ (k : Kind). PartsAt k s.at s.words.items s.names s.places.items s.codes.items s.scale items) c.requires p in
    let adds = c.in-Ok.ensures in
    let new = c.declare.new.self in
    let width = c.in-Ok-Some.width in
    let gives = rw c.in-Ok-Some.field-0-is at c.in-Ok-Some.ensures in
    variable_closes s.names s.places.items s.codes.items s.scale items s.at c.args.end_at s.words.items here width new.at new.words.items adds.code new.names new.places.items new.codes.items new.scale
    ((λ i. variable_of c.args.self.now.at (sym (c.from-before.ensures ∙ c.count.ensures.count) i) (map placed (sym c.deref.ensures.value i))) ∙ gives.0 ∙ ap (λ (l : List Word). Ok (Declares (variable_by_words width (map placed l)))) c.deref.ensures.value) adds.code_is adds.names adds.places adds.codes adds.scale

pub returns-in-Err-clause-closes : goal.returns-in-Err-clause-closes
returns-in-Err-clause-closes c = λ items p.
    let s = c.args.self.now in
    let here = subst (λ (k : Kind). PartsAt k s.at s.words.items s.names s.places.items s.codes.items s.scale items) c.requires p in
    variable_fails s.names s.places.items s.codes.items s.scale items s.at c.args.end_at s.words.items here c.in-Err.fault ((λ i. variable_of c.args.self.now.at (sym (c.from-before.ensures ∙ c.count.ensures.count) i) (map placed (sym c.deref.ensures.value i))) ∙ c.in-Err.ensures)
