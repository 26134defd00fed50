use Rattle.std.proofs.Common.{◌∙◌}
use Rattle.capture_csv.specs.Csv.{word_of}
use Rattle.capture_csv.proofs.Taking.{row_said, row_taken, said}
use Rattle.capture_csv.proofs.body.Body.put_row.Goals as goal

pub returns-clause-says : goal.returns-clause-says
returns-clause-says c = λ line read none levels fields records given same found st held.
    let s = c.args.self.now in
    row_taken s.mode s.rate s.want s.pins.items levels s.levels.items s.word _ s.span s.held records given line fields c.requires st held
    (said s.mode s.rate.num s.rate.den s.want records st.taken line fields st.read same ∙ (row_said s.mode s.rate.num s.rate.den line st.taken fields s.levels.items read c.requires found).1 none)
    (c.word_of-self.ensures ∙ (λ i. word_of (c.deref.ensures.0 i) (c.deref-2.ensures.value i)))
