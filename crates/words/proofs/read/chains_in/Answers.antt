use Rattle.std.proofs.Common.{◌≡◌, ◌∙◌, List, length, map, sym, ap}
use Rattle.std.proofs.lemmas.List.{length-map}
use Rattle.text_parts.specs.Chains.{chain_of}
use Rattle.words.specs.Given.{used_of}
use Rattle.words.specs.Uses.{Used, chains_of}
use Rattle.words.specs.Settings.{word_text}
use Rattle.words.proofs.Kept.{numbers_used, some_texts_are, no_texts}
use Rattle.words.proofs.read.chains_in.Goals as goal

pub chains-requires : goal.chains-requires
chains-requires c =
    let uses : List Used = chains_of (map used_of c.args.uses.now) in
    let numbers : c.deref.result.now ≡ map (λ u. u.word) uses = c.deref.ensures.value ∙ c.in_ok-numbers.ensures ∙ numbers_used c.args.uses.now in
    let texts = some_texts_are (map (λ u. u.text) uses) (map (λ t. t.now) c.in-Some.texts.now) (c.in-Some.ensures (map used_of c.args.uses.now) c.requires) in
    ap length numbers ∙ length-map uses (λ u. u.word) ∙ sym (length-map uses (λ u. u.text)) ∙ sym (ap length texts) ∙ length-map c.in-Some.texts.now (λ t. t.now)

pub returns-in-Some : goal.returns-in-Some
returns-in-Some c =
    let uses : List Used = chains_of (map used_of c.args.uses.now) in
    let numbers : c.deref.result.now ≡ map (λ u. u.word) uses = c.deref.ensures.value ∙ c.in_ok-numbers.ensures ∙ numbers_used c.args.uses.now in
    let texts = some_texts_are (map (λ u. u.text) uses) (map (λ t. t.now) c.in-Some.texts.now) (c.in-Some.ensures (map used_of c.args.uses.now) c.requires) in
    c.chains.ensures uses numbers texts

pub returns : goal.returns
returns c =
    let none = no_texts (chains_of (map used_of c.args.uses.now)) (c.in-None.ensures (map used_of c.args.uses.now) c.requires) in
    ap (map chain_of) c.new.ensures.items ∙ sym (ap (map word_text) none)
