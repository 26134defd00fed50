use Rattle.std.proofs.Common.{◌∙◌, ℕ, ◌+◌, ap, subst, arith, refl, sym, List, [], ◌∷◌, ◌++◌, Some, None, false}
use Rattle.std.proofs.lemmas.Bool.{false≢true}
use Rattle.std.proofs.lemmas.List.{append-nil}
use Rattle.la_io.specs.Capture.{AtEnd, Ends, Faulty}
use Rattle.byte_feed.specs.Reader.{ended_of}
use Rattle.capture_vcd.specs.Vcd.{vcd_capture}
use Rattle.capture_vcd.specs.Running.{channels_in, waiting}
use Rattle.la_io.specs.Reading.{run_samples}
use Rattle.capture_vcd.proofs.Waiting.{all_given, flush_form, no_waiting}
use Rattle.capture_vcd.proofs.Stepping.{clean_ends, fault_ends, faulty_behind, feed_error, given_is, given_some, head_on, told_end, told_still, tokens_on}
use Rattle.capture_vcd.proofs.reader.VcdReader.step.Goals as goal

pub returns-in-Err-clause-steps : goal.returns-in-Err-clause-steps
returns-in-Err-clause-steps g c =
    let next = c.in-Err.ensures.next in
    let old = c.args.self.now in
    record {
      bytes = next.bytes;
      consumed = next.consumed;
      answers = λ before early given left going.
          feed_error (record old { tokens = c.next.new.self; is_open = false; fresh = λ e. absurd (false≢true e) }) (omega (arith, old.body.down_fits.0)) _ before next.bytes going.head going.items given going.header (all_given old.body going.items given c.requires.settled going.body) (ended_of old.tokens) early going.tokens.told_is next.none next.stays
          c.in-Err.fault _ c.error_of.ensures.is (next.answers before early (going.head ++ going.items) going.fresh left going.tokens);
    }

pub returns-in-Ok-None-token-clause-steps : goal.returns-in-Ok-None-token-clause-steps
returns-in-Ok-None-token-clause-steps g c =
    let next = rw c.in-Ok-Some.field-0-is at c.in-Ok-Some.ensures.next in
    let old = c.args.self.now in
    let form = c.token.ensures.form in
    let gives = rw c.in-Ok-None-token.field-0-is at c.in-Ok-None-token.ensures.gives in
    record {
      bytes = next.bytes;
      consumed = next.consumed;
      answers = λ before early given left going.
          let r = next.answers before early (going.head ++ going.items) going.fresh left going.tokens in
          let header = head_on old.body c.token.new.self old.pins.items old.names old.places.items old.rate going.head form going.header in
          let tokens = tokens_on c.next.new.self (before ++ next.bytes) r.0 going.head going.items c.in-Ok-Some.at c.text.result.now c.text.ensures r.2 in
          record {
            told = r.0;
            none = λ e. next.none (told_end (ended_of old.tokens) early going.tokens.told_is e);
            still = told_still (ended_of old.tokens) (ended_of c.next.new.self) early r.0 going.tokens.told_is r.2.told_is next.stays;
            at_end = r.1;
            says = record { head = going.head; items = going.items ++ (c.in-Ok-Some.at, c.text.result.now) ∷ []; header = header; fresh = c.in-Ok-Some.ensures.spends; tokens = tokens; few = rw c.in-Ok-Some.field-0-is at c.in-Ok-Some.ensures.few; body = gives going.items given going.body };
          };
    }

pub returns-in-Some-clause-steps : goal.returns-in-Some-clause-steps
returns-in-Some-clause-steps g c =
    let next = rw c.in-Ok-Some.field-0-is at c.in-Ok-Some.ensures.next in
    let old = c.args.self.now in
    let mid = c.token.new.self in
    let new = c.flush.new.self in
    let gives = c.in-Err-token.ensures.gives in
    let flush = c.in-Some.ensures in
    record {
      bytes = next.bytes;
      consumed = next.consumed;
      answers = λ before early given left going.
          let r = next.answers before early (going.head ++ going.items) going.fresh left going.tokens in
          let items = going.items ++ (c.in-Ok-Some.at, c.text.result.now) ∷ [] in
          let header = head_on mid new old.pins.items old.names old.places.items old.rate going.head (flush_form mid new (Some c.in-Some.run') flush) (head_on old.body mid old.pins.items old.names old.places.items old.rate going.head c.token.ensures.form going.header) in
          let tokens = tokens_on c.next.new.self (before ++ next.bytes) r.0 going.head going.items c.in-Ok-Some.at c.text.result.now c.text.ensures r.2 in
          let ends = fault_ends new.down old.pins.items (channels_in new) _ going.head header c.next.new.self (before ++ next.bytes) r.0 items (given ++ run_samples (Some c.in-Some.run')) c.in-Err-token.fault tokens (rw c.in-Ok-Some.field-0-is at c.in-Ok-Some.ensures.few)
          (faulty_behind mid new (Some c.in-Some.run') items given c.in-Err-token.fault flush (gives going.items given going.body)) in
          record {
            told = r.0;
            none = λ e. next.none (told_end (ended_of old.tokens) early going.tokens.told_is e);
            still = told_still (ended_of old.tokens) (ended_of c.next.new.self) early r.0 going.tokens.told_is r.2.told_is next.stays;
            at_end = r.1;
            says = record { ends = ends; some = given_some given c.in-Some.run' flush.gave.2 };
          };
    }

pub returns-in-None-clause-steps : goal.returns-in-None-clause-steps
returns-in-None-clause-steps g c =
    let next = rw c.in-Ok-Some.field-0-is at c.in-Ok-Some.ensures.next in
    let old = c.args.self.now in
    let mid = c.token.new.self in
    let new = c.flush.new.self in
    let gives = c.in-Err-token.ensures.gives in
    let flush = c.in-None.ensures in
    record {
      bytes = next.bytes;
      consumed = next.consumed;
      answers = λ before early given left going.
          let r = next.answers before early (going.head ++ going.items) going.fresh left going.tokens in
          let items = going.items ++ (c.in-Ok-Some.at, c.text.result.now) ∷ [] in
          let header = head_on mid new old.pins.items old.names old.places.items old.rate going.head (flush_form mid new None flush) (head_on old.body mid old.pins.items old.names old.places.items old.rate going.head c.token.ensures.form going.header) in
          let tokens = tokens_on c.next.new.self (before ++ next.bytes) r.0 going.head going.items c.in-Ok-Some.at c.text.result.now c.text.ensures r.2 in
          let ends = fault_ends new.down old.pins.items (channels_in new) _ going.head header c.next.new.self (before ++ next.bytes) r.0 items (given ++ run_samples None) c.in-Err-token.fault tokens (rw c.in-Ok-Some.field-0-is at c.in-Ok-Some.ensures.few)
          (faulty_behind mid new None items given c.in-Err-token.fault flush (gives going.items given going.body)) in
          record {
            told = r.0;
            none = λ e. next.none (told_end (ended_of old.tokens) early going.tokens.told_is e);
            still = told_still (ended_of old.tokens) (ended_of c.next.new.self) early r.0 going.tokens.told_is r.2.told_is next.stays;
            at_end = r.1;
            says = subst (λ (l : List ℕ). Ends (vcd_capture new.down old.pins.items (before ++ next.bytes) r.0) l (Faulty c.in-Err-token.fault)) (append-nil given) ends;
          };
    }

pub returns-in-Ok-Some-token-clause-steps : goal.returns-in-Ok-Some-token-clause-steps
returns-in-Ok-Some-token-clause-steps g c =
    let next = rw c.in-Ok-Some.field-0-is at c.in-Ok-Some.ensures.next in
    let old = c.args.self.now in
    let form = c.token.ensures.form in
    let gives = rw c.in-Ok-Some-token.field-0-is at c.in-Ok-Some-token.ensures.gives in
    record {
      bytes = next.bytes;
      consumed = next.consumed;
      answers = λ before early given left going.
          let r = next.answers before early (going.head ++ going.items) going.fresh left going.tokens in
          let header = head_on old.body c.token.new.self old.pins.items old.names old.places.items old.rate going.head form going.header in
          let tokens = tokens_on c.next.new.self (before ++ next.bytes) r.0 going.head going.items c.in-Ok-Some.at c.text.result.now c.text.ensures r.2 in
          record {
            told = r.0;
            none = λ e. next.none (told_end (ended_of old.tokens) early going.tokens.told_is e);
            still = told_still (ended_of old.tokens) (ended_of c.next.new.self) early r.0 going.tokens.told_is r.2.told_is next.stays;
            at_end = r.1;
            says = rw c.in-Ok-Some-token.run-is (record {
              going = record { head = going.head; items = going.items ++ (c.in-Ok-Some.at, c.text.result.now) ∷ []; header = header; fresh = c.in-Ok-Some.ensures.spends; tokens = tokens; few = rw c.in-Ok-Some.field-0-is at c.in-Ok-Some.ensures.few; body = gives going.items given going.body };
              some = given_some given c.in-Ok-Some-token.run' (rw c.in-Ok-Some-token.field-0-is at c.in-Ok-Some-token.ensures.counts).1;
            });
          };
    }

pub returns-in-Err-end-clause-steps : goal.returns-in-Err-end-clause-steps
returns-in-Err-end-clause-steps g c =
    let next = rw c.in-Ok-None.field-0-is at c.in-Ok-None.ensures.next in
    let old = c.args.self.now in
    let gives = c.in-Err-end.ensures.gives in
    record {
      bytes = next.bytes;
      consumed = next.consumed;
      answers = λ before early given left going.
          let r = next.answers before early (going.head ++ going.items) going.fresh left going.tokens in
          let ends = clean_ends old.body.down old.pins.items (channels_in old.body) _ going.head going.header (before ++ next.bytes) going.items (given ++ waiting old.body) _ r.2 (gives going.items given going.body) in
          record {
            told = AtEnd;
            none = λ e. next.none (told_end (ended_of old.tokens) early going.tokens.told_is e);
            still = λ e. refl;
            at_end = λ e. r.0;
            says = subst (λ (l : List ℕ). Ends (vcd_capture old.body.down old.pins.items (before ++ next.bytes) AtEnd) l (Faulty c.in-Err-end.fault)) (no_waiting old.body given c.requires.settled) ends;
          };
    }

pub returns-in-Ok-None-end-clause-steps : goal.returns-in-Ok-None-end-clause-steps
returns-in-Ok-None-end-clause-steps g c =
    let next = rw c.in-Ok-None.field-0-is at c.in-Ok-None.ensures.next in
    let old = c.args.self.now in
    let gives = rw c.in-Ok-None-end.field-0-is at c.in-Ok-None-end.ensures.gives in
    record {
      bytes = next.bytes;
      consumed = next.consumed;
      answers = λ before early given left going.
          let r = next.answers before early (going.head ++ going.items) going.fresh left going.tokens in
          let ends = clean_ends old.body.down old.pins.items (channels_in old.body) _ going.head going.header (before ++ next.bytes) going.items given _ r.2 (gives going.items given going.body) in
          record {
            told = AtEnd;
            none = λ e. next.none (told_end (ended_of old.tokens) early going.tokens.told_is e);
            still = λ e. refl;
            at_end = λ e. r.0;
            says = (refl, ends);
          };
    }

pub returns-in-Ok-Some-end-clause-steps : goal.returns-in-Ok-Some-end-clause-steps
returns-in-Ok-Some-end-clause-steps g c =
    let next = rw c.in-Ok-None.field-0-is at c.in-Ok-None.ensures.next in
    let old = c.args.self.now in
    let gives = rw c.in-Ok-Some-end.field-0-is at c.in-Ok-Some-end.ensures.gives in
    record {
      bytes = next.bytes;
      consumed = next.consumed;
      answers = λ before early given left going.
          let r = next.answers before early (going.head ++ going.items) going.fresh left going.tokens in
          let ends = clean_ends old.body.down old.pins.items (channels_in old.body) _ going.head going.header (before ++ next.bytes) going.items _ _ r.2 (gives going.items given going.body) in
          record {
            told = AtEnd;
            none = λ e. next.none (told_end (ended_of old.tokens) early going.tokens.told_is e);
            still = λ e. refl;
            at_end = λ e. r.0;
            says = record { told_end = refl; ends = ends; some = given_some given c.in-Ok-Some-end.run' (rw c.in-Ok-Some-end.field-0-is at c.in-Ok-Some-end.ensures.counts).1 };
          };
    }

pub returns-in-Ok-None-token-clause-went : goal.returns-in-Ok-None-token-clause-went
returns-in-Ok-None-token-clause-went g c = (c.requires.going, c.requires.open, rw c.in-Ok-Some.field-0-is at c.in-Ok-Some.ensures.progress, given_is c.args.self.now.phase _ c.requires.going ∙ rw c.in-Ok-None-token.field-0-is at c.in-Ok-None-token.ensures.counts ∙ sym (given_is c.args.self.now.phase _ c.requires.going))

pub returns-in-Ok-Some-token-clause-went : goal.returns-in-Ok-Some-token-clause-went
returns-in-Ok-Some-token-clause-went g c =
    let run = c.in-Ok-Some-token.run' in
    (c.requires.open, rw c.in-Ok-Some-token.run-is (ap (λ (n : ℕ). n + run.len) (given_is c.args.self.now.phase c.args.self.now.body c.requires.going) ∙ (rw c.in-Ok-Some-token.field-0-is at c.in-Ok-Some-token.ensures.counts).0))

pub returns-in-Some-clause-went : goal.returns-in-Some-clause-went
returns-in-Some-clause-went g c =
    let run = c.in-Some.run' in
    (c.requires.open, ap (λ (n : ℕ). n + run.len) (given_is c.args.self.now.phase c.args.self.now.body c.requires.going ∙ sym c.in-Err-token.ensures.counts) ∙ c.in-Some.ensures.counts.0)

pub returns-in-Ok-Some-end-clause-went : goal.returns-in-Ok-Some-end-clause-went
returns-in-Ok-Some-end-clause-went g c =
    let run = c.in-Ok-Some-end.run' in
    (c.requires.open, ap (λ (n : ℕ). n + run.len) (given_is c.args.self.now.phase c.args.self.now.body c.requires.going) ∙ (rw c.in-Ok-Some-end.field-0-is at c.in-Ok-Some-end.ensures.counts).0)
