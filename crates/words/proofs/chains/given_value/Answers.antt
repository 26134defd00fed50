use Rattle.std.proofs.Common.{◌≡◌, Some, None, find, sym, rules, ap, option_map, ◌∙◌}
use Rattle.text_parts.specs.Chains.{WordText}
use Rattle.words.specs.Given.{used_of}
use Rattle.words.specs.Lexer.{Text}
use Rattle.words.specs.Settings.{word_text}
use Rattle.words.specs.Uses.{is_of}
use Rattle.words.proofs.Kept.{found_none, found_used}
use Rattle.words.proofs.chains.given_value.Goals as goal

pub returns-in-None : goal.returns-in-None
returns-in-None c =
    let none : None ≡ find (λ g. is_of c.args.name g.name) c.args.uses.now = search rules in
    sym (ap (option_map word_text) (found_none c.args.name c.args.uses.now none))

pub returns-in_ok-chain_word-in-Some : goal.returns-in_ok-chain_word-in-Some
returns-in_ok-chain_word-in-Some c =
    let given = c.in-Some.given.now in
    let found : Some given ≡ find (λ g. is_of c.args.name g.name) c.args.uses.now = search rules in
    let used = found_used c.args.name c.args.uses.now given found in
    let is : c.args.text.now ≡ given.text.now = c.requires (used_of given) used in
    ap (λ (w : WordText). Some w) c.in_ok-chain_word-in-Some.ensures
    ∙ ap (λ (t : Text). Some (record { word = given.word; text = t })) is
    ∙ sym (ap (option_map word_text) used)
