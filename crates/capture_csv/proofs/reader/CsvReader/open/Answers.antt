use Rattle.std.proofs.Common.{[]}
use Rattle.capture_csv.proofs.Making.{blank_new, opens_error, opens_first, opens_none}
use Rattle.capture_csv.proofs.reader.CsvReader.open.Goals as goal

pub returns-in-Ok-Some-clause-opens : goal.returns-in-Ok-Some-clause-opens
returns-in-Ok-Some-clause-opens g c =
    let reads = rw c.in-Ok-Some.field-0-is at c.in-Ok-Some.ensures.reads in
    record {
      bytes = reads.bytes;
      consumed = reads.consumed;
      opened = opens_first c.args.mode c.args.header c.args.rate c.first_line.new.lines _ reads.bytes c.in-Ok-Some.number (reads.says [] (blank_new c.in-Ok.lines _ c.in-Ok.ensures.stands)) c.in-Ok-Some.ensures.fresh c.behind.result c.behind.ensures;
    }

pub returns-in-Ok-None-clause-opens : goal.returns-in-Ok-None-clause-opens
returns-in-Ok-None-clause-opens g c =
    let reads = rw c.in-Ok-None.field-0-is at c.in-Ok-None.ensures.reads in
    record {
      bytes = reads.bytes;
      consumed = reads.consumed;
      opened = opens_none c.args.mode c.args.header c.args.rate c.first_line.new.lines _ reads.bytes c.empty.result (reads.says [] (blank_new c.in-Ok.lines _ c.in-Ok.ensures.stands)) c.empty.ensures;
    }

pub returns-in-Err-first_line-clause-opens : goal.returns-in-Err-first_line-clause-opens
returns-in-Err-first_line-clause-opens g c =
    let reads = c.in-Err-first_line.ensures.reads in
    record {
      bytes = reads.bytes;
      consumed = reads.consumed;
      opened = opens_error c.args.mode c.args.header c.args.rate c.first_line.new.lines _ reads.bytes c.in-Err-first_line.error (reads.says [] (blank_new c.in-Ok.lines _ c.in-Ok.ensures.stands));
    }
