use Rattle.std.proofs.Common.{◌∙◌, List, map, ap, subst}
use Rattle.capture_vcd.specs.Header.{first_at, joined, scale_of}
use Rattle.capture_vcd.specs.Gathered.{placed}
use Rattle.capture_vcd.specs.Gathering.{PartsAt}
use Rattle.capture_vcd.specs.declared.section.Kind.{Kind}
use Rattle.capture_vcd.specs.declared.section.Word.{Word}
use Rattle.capture_vcd.proofs.Gathering.{scale_closes, scale_fails}
use Rattle.capture_vcd.proofs.header.Header.close_scale.Goals as goal

pub returns-in-Ok-scale_of-clause-closes : goal.returns-in-Ok-scale_of-clause-closes
returns-in-Ok-scale_of-clause-closes c = λ items p.
    let s = c.args.self.now in
    let here = subst (λ (k : Kind). PartsAt k s.at s.words.items s.names s.places.items s.codes.items s.scale items) c.requires p in
    scale_closes s.names s.places.items s.codes.items s.scale items s.at c.args.end_at s.words.items here c.in-Ok-scale_of.scale (c.in-Ok-scale_of.ensures ∙ (λ i. scale_of ((c.first_at.ensures ∙ ap (λ (l : List Word). first_at c.args.end_at (map placed l)) c.deref-2.ensures.value) i) ((c.deref-3.ensures.value ∙ c.in-Ok.ensures ∙ ap (λ (l : List Word). joined (map placed l)) c.deref.ensures.value) i)))

pub returns-clause-closes : goal.returns-clause-closes
returns-clause-closes c = λ items p.
    let s = c.args.self.now in
    let here = subst (λ (k : Kind). PartsAt k s.at s.words.items s.names s.places.items s.codes.items s.scale items) c.requires p in
    scale_fails s.names s.places.items s.codes.items s.scale items s.at c.args.end_at s.words.items here c.in-Err-scale_of.fault (c.in-Err-scale_of.ensures ∙ (λ i. scale_of ((c.first_at.ensures ∙ ap (λ (l : List Word). first_at c.args.end_at (map placed l)) c.deref-2.ensures.value) i) ((c.deref-3.ensures.value ∙ c.in-Ok.ensures ∙ ap (λ (l : List Word). joined (map placed l)) c.deref.ensures.value) i)))
