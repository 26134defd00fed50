use Rattle.std.proofs.Common.{[]}
use Rattle.la_io.specs.Capture.{Cut}
use Rattle.capture_vcd.specs.Opening.{Started}
use Rattle.capture_vcd.proofs.Heads.{opening_fails, opening_goes}
use Rattle.capture_vcd.proofs.reader.VcdReader.open.Goals as goal

pub returns-in-Ok-read_header-clause-opens : goal.returns-in-Ok-read_header-clause-opens
returns-in-Ok-read_header-clause-opens g c =
    let reads = rw c.in-Ok-read_header.ensures.whole at c.in-Ok-read_header.ensures.reads in
    let started : Started c.in-Ok.tokens c.new-header.result (g.S.Source.left c.args.source.now) [] = record { told = Cut; items = []; at_end = λ e. cc; stands = c.in-Ok.ensures.stands; begun = c.new-header.ensures } in
    record {
      bytes = reads.bytes;
      consumed = reads.consumed;
      opened = opening_goes c.args.down c.read_header.new.tokens c.read_header.new.header (g.S.Source.left c.read_header.new.source) reads.bytes c.behind.result c.behind.ensures c.in-Ok-read_header.ensures.fresh (reads.says [] started);
    }

pub returns-in-Err-read_header-clause-opens : goal.returns-in-Err-read_header-clause-opens
returns-in-Err-read_header-clause-opens g c =
    let reads = c.in-Err-read_header.ensures.reads in
    let started : Started c.in-Ok.tokens c.new-header.result (g.S.Source.left c.args.source.now) [] = record { told = Cut; items = []; at_end = λ e. cc; stands = c.in-Ok.ensures.stands; begun = c.new-header.ensures } in
    record {
      bytes = reads.bytes;
      consumed = reads.consumed;
      opened = opening_fails c.args.down c.read_header.new.tokens c.read_header.new.header (g.S.Source.left c.read_header.new.source) reads.bytes c.in-Err-read_header.error (reads.says [] started);
    }
