use Rattle.std.proofs.Common.{◌∙◌, sym, refl, Some}
use Rattle.capture_csv.proofs.Answering.{flush_counts, flushed_run}
use Rattle.capture_csv.proofs.reader.CsvReader.flush.Goals as goal

pub returns-clause-flushed : goal.returns-clause-flushed
returns-clause-flushed c =
    let form = c.flush.ensures.form in
    flushed_run c.args.self.now _ (Some c.flush.result) refl refl refl form.mode form.want c.flush.ensures.flushes

pub returns-clause-counts : goal.returns-clause-counts
returns-clause-counts c =
    let s = c.args.self.now in
    let held = sym c.is_held.ensures ∙ c.if-not-is_held.false in
    flush_counts s.body.mode _ s.phase s.lines.number s.body.held _ _ c.flush.result.len held c.flush.ensures.held (s.body.rows held) c.flush.ensures.form.mode (s.counted held) c.flush.ensures.len _
