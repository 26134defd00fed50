use Rattle.std.proofs.Common.{◌∙◌, ap}
use Rattle.clap.specs.Words.{all_of, found_of}
use Rattle.clap.proofs.WalkLemmas.{raw_values-rows}
use Rattle.words.specs.App.{chains_id}
use Rattle.words.proofs.Rows.{all_of-chains}
use Rattle.words.proofs.command.chain_texts.Goals as goal

pub returns : goal.returns
returns c uses e =
    c.get_strs.ensures ∙ raw_values-rows (found_of c.args.matches.now) chains_id ∙ ap (all_of chains_id) e ∙ all_of-chains uses
