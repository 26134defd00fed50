use Rattle.std.proofs.Common.{◌≡◌, ◌∙◌, ℕ, List, [], ◌∷◌, ◌++◌, ap, sym, subst, codes}
use Rattle.capture_vcd.specs.Gathering.{TokenSays}
use Rattle.std.proofs.lemmas.Slice.Eq.{bytes_eq-Decides}
use Rattle.la_base.specs.Naming.{same_name}
use Rattle.capture_vcd.proofs.Gathering.{kept_on, keeps}
use Rattle.capture_vcd.proofs.header.Header.inside.Goals as goal

pub returns-then-eq-clause-gives : goal.returns-then-eq-clause-gives
returns-then-eq-clause-gives c = λ items p.
    let end_is : codes "$end" ≡ c.args.text.now = (bytes_eq-Decides (codes "$end") c.args.text.now).0 (sym (ap (λ (l : List ℕ). same_name l c.args.text.now) c.as_slice.ensures) ∙ sym c.eq.ensures ∙ c.if-eq.true) in
    subst (λ (t : List ℕ). TokenSays c.close.new.self (items ++ (c.args.at, t) ∷ []) c.close.result) end_is (c.close.ensures.closes items p)

pub returns-in-Ok-clause-gives : goal.returns-in-Ok-clause-gives
returns-in-Ok-clause-gives c = λ items p.
    let s = c.args.self.now in
    let keeps_it = c.in-Ok.ensures in
    kept_on s c.keep.new.self c.args.at c.args.text.now _ keeps_it
    (keeps s.names s.places.items s.codes.items s.scale items s.at c.args.at c.args.text.now s.words.items c.keep.new.self.words.items
    (sym (ap (λ (l : List ℕ). same_name l c.args.text.now) c.as_slice.ensures) ∙ sym c.eq.ensures ∙ c.if-eq.false) s.kind c.requires keeps_it.words p)
