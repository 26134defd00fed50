use Rattle.std.proofs.Common.{◌≡◌, ◌∙◌, ◌++◌, ℕ, List, take, ap, sym, refl, append_assoc, take-append-drop}
use Rattle.la_io.specs.Grown.{appends_on}
use Rattle.la_io.specs.Onward.{Onward, onward_further}
use Rattle.la_io.specs.Buffer.{held_by, behind}
use Rattle.la_io.proofs.buffered.Buffered.flush.Goals as goal

pub loop-self-preserved : goal.loop-self-preserved
loop-self-preserved g c =
    let l = c.loop-self in
    let k = g.K.Sink in
    let held = held_by l.self in
    let old = c.args.self.now in
    let count = c.in_ok-count.count in
    let shown = c.bytes-in-loop-self.result.now in
    let is : shown ≡ held = c.bytes-in-loop-self.ensures.bytes in
    let sent = take count shown in
    let before = l.invariant.handed in
    let parts : held ≡ sent ++ c.advance.new.self =
    sym (take-append-drop count held)
    ∙ (λ i. take count (sym is i) ++ sym c.advance.ensures i) in
    let inner = g.met.K.Sink.goes_on_further _ _ _ l.invariant.goes_on.1.inner c.in_ok-count.ensures.goes_on in
    let onward : Onward k.written k.goes_on (behind l.self) c.write.new.self = record {
      bytes = sent;
      grew = c.in_ok-count.ensures.bytes;
      inner = c.in_ok-count.ensures.goes_on;
    } in
    record {
      handed = record {
        sent = before.sent ++ sent;
        split = before.split ∙ ap (λ (l : List ℕ). before.sent ++ l) parts ∙ sym (append_assoc before.sent sent c.advance.new.self);
        got = appends_on (k.written (behind old)) (k.written (behind l.self)) (k.written c.write.new.self) before.sent sent (before.sent ++ sent) before.got c.in_ok-count.ensures.bytes refl;
      };
      same = c.in_ok-count.ensures.cause.kept ∙ l.invariant.same;
      goes_on = (l.invariant.goes_on.0, onward_further k.written k.goes_on (behind old) (behind l.self) c.write.new.self l.invariant.goes_on.1 onward inner);
    }
