use Rattle.std.specs.Prelude.{◌==◌}
use Rattle.text_parts.proofs.ReadLemmas.{width_split}
use Rattle.text_parts.proofs.parts_fill_the_text.Goals as goal

pub returns : goal.returns
returns c = λ separator text. width_split (λ byte. byte == separator) text
