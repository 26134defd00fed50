use Rattle.std.proofs.Common.{◌≡◌, Option, map, option_map, sym, subst, rules}
use Rattle.std.specs.Result.{IfOk}
use Rattle.text_parts.specs.Chains.{WordText, chain_of}
use Rattle.words.specs.Given.{used_of}
use Rattle.words.specs.Settings.{use_of}
use Rattle.words.specs.declared.options.Name.TheVariants as name
use Rattle.words.proofs.Kept.{shown_all, shown_some}
use Rattle.words.proofs.chains.shown.Goals as goal

pub returns-then-eq : goal.returns-then-eq
returns-then-eq c = sym (shown_all c.args.text.now (use_of name.Show (map used_of c.args.uses.now)) c.requires (search rules))

pub returns : goal.returns
returns c = subst (λ (asked : Option WordText). IfOk c.given_value.result (λ o. option_map chain_of o ≡ asked))
    (sym (shown_some c.args.text.now (use_of name.Show (map used_of c.args.uses.now)) c.requires (search rules))) c.given_value.ensures
