use Rattle.std.proofs.Common.{◌∙◌, ℕ, ◌+◌, ap, subst, sym, List, Some, None}
use Rattle.std.proofs.lemmas.List.{append-nil}
use Rattle.capture_vcd.specs.Running.{BodyStands}
use Rattle.capture_vcd.proofs.Waiting.{flush_form}
use Rattle.capture_vcd.proofs.Stepping.{flushed_stands, given_is, given_some, head_on}
use Rattle.capture_vcd.proofs.reader.VcdReader.flush.Goals as goal

pub returns-in-Some-clause-flushed : goal.returns-in-Some-clause-flushed
returns-in-Some-clause-flushed c = λ bytes told given going.
    let s = c.args.self.now in
    let new = c.flush.new.self in
    let run = c.in-Some.run' in
    let flush = c.in-Some.ensures in
    record {
      going = record {
        head = going.head;
        items = going.items;
        header = head_on s.body new s.pins.items s.names s.places.items s.rate going.head (flush_form s.body new (Some run) flush) going.header;
        fresh = going.fresh;
        tokens = going.tokens;
        few = going.few;
        body = flushed_stands s.body new (Some run) going.items given flush going.body;
      };
      some = given_some given run flush.gave.2;
    }

pub returns-in-None-clause-flushed : goal.returns-in-None-clause-flushed
returns-in-None-clause-flushed c = λ bytes told given going.
    let s = c.args.self.now in
    let new = c.flush.new.self in
    let flush = c.in-None.ensures in
    record {
      head = going.head;
      items = going.items;
      header = head_on s.body new s.pins.items s.names s.places.items s.rate going.head (flush_form s.body new None flush) going.header;
      fresh = going.fresh;
      tokens = going.tokens;
      few = going.few;
      body = subst (λ (l : List ℕ). BodyStands new going.items l) (append-nil given) (flushed_stands s.body new None going.items given flush going.body);
    }

pub returns-in-Some-clause-counts : goal.returns-in-Some-clause-counts
returns-in-Some-clause-counts c =
    let s = c.args.self.now in
    let counts = c.in-Some.ensures.counts in
    (ap (λ (n : ℕ). n + c.in-Some.run'.len) (given_is s.phase s.body c.requires.going) ∙ counts.0, counts.1)

pub returns-in-None-clause-counts : goal.returns-in-None-clause-counts
returns-in-None-clause-counts c =
    let s = c.args.self.now in
    given_is s.phase c.flush.new.self c.requires.going ∙ c.in-None.ensures.counts ∙ sym (given_is s.phase s.body c.requires.going)
