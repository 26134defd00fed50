use Rattle.std.proofs.Common.{◌^◌, ◌≤◌, ℕ, refl, subst, sym, List, [], ◌∷◌, ◌++◌, Some, None}
use Rattle.std.proofs.lemmas.List.{append-nil}
use Rattle.la_io.specs.Capture.{Ends, Faulty}
use Rattle.byte_feed.specs.Reader.{Stands}
use Rattle.byte_feed.specs.declared.tokens.Tokens.{Tokens}
use Rattle.capture_vcd.specs.Vcd.{vcd_capture}
use Rattle.capture_vcd.specs.Running.{channels_in}
use Rattle.la_io.specs.Reading.{run_samples}
use Rattle.capture_vcd.proofs.Waiting.{flush_form}
use Rattle.capture_vcd.proofs.Stepping.{fault_ends, faulty_behind, flushed_stands, given_some, head_on, tokens_on}
use Rattle.capture_vcd.proofs.reader.VcdReader.held_step.Goals as goal

pub returns-in-Ok-None-clause-steps : goal.returns-in-Ok-None-clause-steps
returns-in-Ok-None-clause-steps c = λ bytes told given st.
    let old = c.args.self.now in
    let going = st.going in
    let held = c.in-Some.ensures in
    let gives = rw c.in-Ok-None.field-0-is at c.in-Ok-None.ensures.gives in
    record {
      going = record {
        head = going.head;
        items = going.items ++ (c.in-Some.at, c.text.result.now) ∷ [];
        header = head_on old.body c.token.new.self old.pins.items old.names old.places.items old.rate going.head c.token.ensures.form going.header;
        fresh = held.spent;
        tokens = tokens_on c.held.new.self bytes told going.head going.items c.in-Some.at c.text.result.now c.text.ensures (held.gave bytes told (going.head ++ going.items) going.tokens);
        few = subst (λ (n : ℕ). n ≤ 2 ^ 60) (sym held.taken) going.few;
        body = gives going.items given going.body;
      };
      some = st.some;
    }

pub returns-in-Ok-Some-clause-steps : goal.returns-in-Ok-Some-clause-steps
returns-in-Ok-Some-clause-steps c = λ bytes told given st.
    let old = c.args.self.now in
    let going = st.going in
    let held = c.in-Some.ensures in
    let run = c.in-Ok-Some.run' in
    let gives = rw c.in-Ok-Some.field-0-is at c.in-Ok-Some.ensures.gives in
    rw c.requires.running (rw c.in-Ok-Some.run-is (record {
      going = record {
        head = going.head;
        items = going.items ++ (c.in-Some.at, c.text.result.now) ∷ [];
        header = head_on old.body c.token.new.self old.pins.items old.names old.places.items old.rate going.head c.token.ensures.form going.header;
        fresh = held.spent;
        tokens = tokens_on c.held.new.self bytes told going.head going.items c.in-Some.at c.text.result.now c.text.ensures (held.gave bytes told (going.head ++ going.items) going.tokens);
        few = subst (λ (n : ℕ). n ≤ 2 ^ 60) (sym held.taken) going.few;
        body = gives going.items given going.body;
      };
      some = given_some given run (rw c.in-Ok-Some.field-0-is at c.in-Ok-Some.ensures.counts).1;
    }))

pub returns-in-Some-flush-clause-steps : goal.returns-in-Some-flush-clause-steps
returns-in-Some-flush-clause-steps c = λ bytes told given st.
    let old = c.args.self.now in
    let going = st.going in
    let held = c.in-Some.ensures in
    let mid = c.token.new.self in
    let new = c.flush.new.self in
    let flush = c.in-Some-flush.ensures in
    let items = going.items ++ (c.in-Some.at, c.text.result.now) ∷ [] in
    let header = head_on mid new old.pins.items old.names old.places.items old.rate going.head (flush_form mid new (Some c.in-Some-flush.run') flush) (head_on old.body mid old.pins.items old.names old.places.items old.rate going.head c.token.ensures.form going.header) in
    let tokens = tokens_on c.held.new.self bytes told going.head going.items c.in-Some.at c.text.result.now c.text.ensures (held.gave bytes told (going.head ++ going.items) going.tokens) in
    let ends = fault_ends new.down old.pins.items (channels_in new) _ going.head header c.held.new.self bytes told items (given ++ run_samples (Some c.in-Some-flush.run')) c.in-Err.fault tokens (subst (λ (n : ℕ). n ≤ 2 ^ 60) (sym held.taken) going.few)
    (faulty_behind mid new (Some c.in-Some-flush.run') items given c.in-Err.fault flush (c.in-Err.ensures.gives going.items given going.body)) in
    record { ends = ends; some = given_some given c.in-Some-flush.run' flush.gave.2 }

pub returns-in-None-flush-clause-steps : goal.returns-in-None-flush-clause-steps
returns-in-None-flush-clause-steps c = λ bytes told given st.
    let old = c.args.self.now in
    let going = st.going in
    let held = c.in-Some.ensures in
    let mid = c.token.new.self in
    let new = c.flush.new.self in
    let flush = c.in-None-flush.ensures in
    let items = going.items ++ (c.in-Some.at, c.text.result.now) ∷ [] in
    let header = head_on mid new old.pins.items old.names old.places.items old.rate going.head (flush_form mid new None flush) (head_on old.body mid old.pins.items old.names old.places.items old.rate going.head c.token.ensures.form going.header) in
    let tokens = tokens_on c.held.new.self bytes told going.head going.items c.in-Some.at c.text.result.now c.text.ensures (held.gave bytes told (going.head ++ going.items) going.tokens) in
    let ends = fault_ends new.down old.pins.items (channels_in new) _ going.head header c.held.new.self bytes told items (given ++ run_samples None) c.in-Err.fault tokens (subst (λ (n : ℕ). n ≤ 2 ^ 60) (sym held.taken) going.few)
    (faulty_behind mid new None items given c.in-Err.fault flush (c.in-Err.ensures.gives going.items given going.body)) in
    record { ends = subst (λ (l : List ℕ). Ends (vcd_capture new.down old.pins.items bytes told) l (Faulty c.in-Err.fault)) (append-nil given) ends; some = st.some }

pub returns-in-Some-flush-2-clause-steps : goal.returns-in-Some-flush-2-clause-steps
returns-in-Some-flush-2-clause-steps c = λ bytes told given st.
    let old = c.args.self.now in
    let going = st.going in
    let run = c.in-Some-flush-2.run' in
    let flush = c.in-Some-flush-2.ensures in
    let new = c.flush-in-None.new.self in
    rw c.requires.running (record {
      going = record {
        head = going.head;
        items = going.items;
        header = head_on old.body new old.pins.items old.names old.places.items old.rate going.head (flush_form old.body new (Some run) flush) going.header;
        fresh = c.in-None.ensures.spent;
        tokens = subst (λ (t : Tokens). Stands t bytes told (going.head ++ going.items)) (sym (c.in-None.ensures.kept refl)) going.tokens;
        few = subst (λ (n : ℕ). n ≤ 2 ^ 60) (sym c.in-None.ensures.taken) going.few;
        body = flushed_stands old.body new (Some run) going.items given flush going.body;
      };
      some = given_some given run flush.gave.2;
    })
