use Rattle.words.proofs.Agrees.{matches_are_uses, words_are_taken}
use Rattle.words.proofs.laws.clap_reads_the_uses.Goals as goal

pub returns-clause-taken : goal.returns-clause-taken
returns-clause-taken c = words_are_taken

pub returns-clause-read : goal.returns-clause-read
returns-clause-read c = matches_are_uses
