use Rattle.std.proofs.Common.{◌≡◌, ◌<◌, ◌++◌, ◌-◌, ◌∙◌, ap, arith, length, rules, take, ℕ}
use Rattle.capture_vcd.specs.declared.section.Word.{Word}
use Rattle.capture_vcd.proofs.Kept.{scale_put, short_first}
use Rattle.capture_vcd.proofs.Levels.{read_at}
use Rattle.capture_vcd.proofs.keeping.keep_scale.Goals as goal

pub returns-clause-items : goal.returns-clause-items
returns-clause-items c =
    let words = c.args.words.now.items in
    let start : Word = c.index_mut.result.now in
    let some : 0 < length words = search arith in
    let is = c.index_mut.ensures.value in
    let held : c.len-room.result ≡ length c.index.result.now.text.items = search (arith, rules) in
    let len_is = held ∙ ap (λ (w : Word). length w.text.items) (c.index.ensures ∙ read_at words 0 c.index.result.now start some) in
    scale_put words (record { at = start.at; text = c.extend_from_slice.new.self }) start (c.args.at, c.args.text.now) some (ap (λ (w : Word). w.at) is) (short_first words start some c.requires)
    (c.in_ok-extend_from_slice.ensures.items ∙ (λ i. (is i).text.items ++ (c.front-2.ensures ∙ ap (λ (n : ℕ). take (6 - n) c.args.text.now) len_is) i))
