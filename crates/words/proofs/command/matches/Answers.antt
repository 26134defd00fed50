use Rattle.std.proofs.Common.{◌≡◌, ◌∙◌, ap, map}
use Rattle.std.proofs.lemmas.Result.{IfErr-weaker, IfOk-weaker}
use Rattle.std.specs.String.{string_bytes}
use Rattle.clap.specs.Words.{app_of, is_simple, matches_of, takes}
use Rattle.words.specs.App.{word_app}
use Rattle.words.proofs.Agrees.{matches_are_uses, words_are_taken}
use Rattle.words.proofs.command.matches.Goals as goal

pub returns-clause-matches : goal.returns-clause-matches
returns-clause-matches c uses e =
    let app : app_of c.in_ok-command.field-0 ≡ word_app = c.in_ok-command.ensures in
    IfOk-weaker c.try_get_matches_from.result _ _ (λ m h. (h (ap is_simple app)).0 ∙ ap (λ a. matches_of a (map string_bytes c.args.words.now)) app ∙ matches_are_uses (map string_bytes c.args.words.now) uses e) c.try_get_matches_from.ensures.matches

pub returns-clause-passes : goal.returns-clause-passes
returns-clause-passes c uses e =
    let app : app_of c.in_ok-command.field-0 ≡ word_app = c.in_ok-command.ensures in
    IfErr-weaker c.try_get_matches_from.result _ _ (λ error h. h (ap (λ a. takes a (map string_bytes c.args.words.now)) app ∙ words_are_taken (map string_bytes c.args.words.now) uses e)) c.try_get_matches_from.ensures.passes
