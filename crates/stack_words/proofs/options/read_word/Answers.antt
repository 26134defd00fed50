use Rattle.std.proofs.Common.{◌∙◌, sym, ap, List, ℕ}
use Rattle.std.specs.List.{position}
use Rattle.std.specs.Str.{bytes_eq}
use Rattle.kind_table.proofs.ListLemmas.{position-map}
use Rattle.stack_words.specs.Options.{chosen}
use Rattle.stack_words.proofs.options.read_word.Goals as goal

pub returns-in-Some : goal.returns-in-Some
returns-in-Some c =
    let words = c.args.words.now in
    let text = c.args.text.now in
    ap chosen (position-map (λ word. bytes_eq word text) (λ word. word.now) words
    ∙ ap (λ (t : List ℕ). position (λ word. bytes_eq word.now t) words) (sym c.as_bytes.ensures.value)
    ∙ sym c.word_place.ensures.place ∙ c.in-Some.is)

pub returns-in-None : goal.returns-in-None
returns-in-None c =
    let words = c.args.words.now in
    let text = c.args.text.now in
    ap chosen (position-map (λ word. bytes_eq word text) (λ word. word.now) words
    ∙ ap (λ (t : List ℕ). position (λ word. bytes_eq word.now t) words) (sym c.as_bytes.ensures.value)
    ∙ sym c.word_place.ensures.place ∙ c.in-None.is)
