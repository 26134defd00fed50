use Rattle.std.proofs.Common.{◌≡◌, ◌+◌, ◌-◌, [], take, length, refl, sym, ◌∙◌, ap, arith, drop, length-take, length-drop}
use Rattle.std.proofs.lemmas.List.{append-nil}
use Rattle.la_io.specs.Intake.{Front}
use Rattle.la_io.proofs.Bytes.{kept_none}
use Rattle.la_io.proofs.Filling.{read_behind, still_held}
use Rattle.la_io.proofs.intake.Intake.more.Goals as goal

pub returns-in-Ok-clause-reads : goal.returns-in-Ok-clause-reads
returns-in-Ok-clause-reads g c =
    let s = c.self.inside in
    let start = c.settle-self-inside.result in
    let end = start + (s.end - s.start) in
    let buf = c.settle-self-inside.new.buf in
    let room = end + c.room_behind-room.result - end in
    let count = c.in-Ok.count in
    let got = take count c.read.new.buf in
    let got_len : length got ≡ count = sym c.in-Ok.ensures.bound.1 in
    let held = read_behind buf c.read.new.buf c.args.self.now.bytes start end room count (omega arith) (omega (arith, c.settle-self-inside.auto.buf, c.settle-self-inside.ensures.room)) c.in-Ok.ensures.bound.0 (c.settle-self-inside.ensures.kept ∙ ap (λ (f : Front). f.bytes) c.self.view_is) in
    record {
      bytes = got;
      takes = record {
        consumed = c.in-Ok.ensures.bytes.0;
        held = held;
        taken = omega (arith, got_len, ap (λ (f : Front). f.taken) c.self.view_is);
      };
      count = got_len;
      at_end = λ none. c.in-Ok.ensures.bytes.1 none (omega (arith, c.settle-self-inside.auto.buf, c.self.told, c.read.auto.buf, c.room_behind-room.ensures, length-take room (drop end buf), length-drop end buf));
      none = tt;
    }

pub returns-in-Err-clause-reads : goal.returns-in-Err-clause-reads
returns-in-Err-clause-reads g c =
    let s = c.self.inside in
    let start = c.settle-self-inside.result in
    let end = start + (s.end - s.start) in
    let buf = c.settle-self-inside.new.buf in
    let room = end + c.room_behind-room.result - end in
    let held = still_held buf c.read.new.buf c.args.self.now.bytes start end room (omega arith) (omega (arith, c.settle-self-inside.auto.buf, c.settle-self-inside.ensures.room)) (c.settle-self-inside.ensures.kept ∙ ap (λ (f : Front). f.bytes) c.self.view_is) in
    record {
      bytes = [];
      takes = record {
        consumed = kept_none _ _ c.in-Err.ensures.bytes;
        held = held ∙ sym (append-nil c.args.self.now.bytes);
        taken = omega (arith, ap (λ (f : Front). f.taken) c.self.view_is);
      };
      count = tt;
      at_end = tt;
      none = refl;
    }
