use Rattle.std.proofs.Common.{◌≡◌, ◌<◌, ◌++◌, ◌∙◌, ap, arith, length, map, sym, subst, List, OnOk}
use Rattle.text_parts.specs.Places.{Placed}
use Rattle.capture_vcd.specs.Gathered.{placed}
use Rattle.capture_vcd.specs.Keeping.{joins}
use Rattle.capture_vcd.specs.declared.section.Word.{Word}
use Rattle.capture_vcd.proofs.Kept.{variable_add, variable_put, variable_stays}
use Rattle.capture_vcd.proofs.keeping.keep_variable.Goals as goal

pub returns-then-not-joins-clause-items : goal.returns-then-not-joins-clause-items
returns-then-not-joins-clause-items c =
    let words = c.args.words.now.items in
    let type_is = c.deref.ensures.value ∙ ap (λ (w : Word). w.text.items) c.index.ensures in
    let size_is = c.deref-2.ensures.value ∙ ap (λ (w : Word). w.text.items) c.index-2.ensures in
    variable_stays words c.index.result.now c.index-2.result.now (c.args.at, c.args.text.now) (search arith) ((λ i. joins (sym type_is i) (sym size_is i)) ∙ sym c.joins.ensures ∙ c.if-not-joins.true)

pub returns-then-len-eq4-clause-items : goal.returns-then-len-eq4-clause-items
returns-then-len-eq4-clause-items c =
    let words = c.args.words.now.items in
    let type_is = c.deref.ensures.value ∙ ap (λ (w : Word). w.text.items) c.index.ensures in
    let size_is = c.deref-2.ensures.value ∙ ap (λ (w : Word). w.text.items) c.index-2.ensures in
    let four : length words ≡ 4 = search arith in
    subst (λ (l : List Placed). OnOk c.add-then-len-eq4.result (map placed c.add-then-len-eq4.new.words.items ≡ l))
    (variable_add words c.index.result.now c.index-2.result.now (c.args.at, c.args.text.now) four ((λ i. joins (sym type_is i) (sym size_is i)) ∙ sym c.joins.ensures ∙ c.if-not-joins.false)) c.add-then-len-eq4.ensures.items

pub returns-clause-items : goal.returns-clause-items
returns-clause-items c =
    let words = c.args.words.now.items in
    let type_is = c.deref.ensures.value ∙ ap (λ (w : Word). w.text.items) c.index.ensures in
    let size_is = c.deref-2.ensures.value ∙ ap (λ (w : Word). w.text.items) c.index-2.ensures in
    let more : Word = c.index_mut.result.now in
    let is = c.index_mut.ensures.value in
    let long : 4 < length words = search arith in
    variable_put words (record { at = more.at; text = c.extend_from_slice.new.self }) c.index.result.now c.index-2.result.now more (c.args.at, c.args.text.now) long ((λ i. joins (sym type_is i) (sym size_is i)) ∙ sym c.joins.ensures ∙ c.if-not-joins.false)
    (ap (λ (w : Word). w.at) is) (c.in_ok-extend_from_slice.ensures.items ∙ (λ i. (is i).text.items ++ c.args.text.now))
